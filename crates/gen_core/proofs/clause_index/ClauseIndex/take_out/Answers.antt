use Rattle.gen_core.specs.NumberMaps as numbers
use Rattle.gen_core.proofs.RunLaws.{stay_out}
use Rattle.gen_core.proofs.SharedLaws.{kept_out}
use Rattle.std.proofs.Common.{sym, ap, subst, ◌∙◌, ◌≡◌, Some}
use Rattle.std.specs.BTreeSet as set
use Rattle.gen_core.specs.ClauseIndex.{pair_order}
use Rattle.gen_core.proofs.Erasures.{erased_at, sound_dropped, length_out}
use Rattle.gen_core.proofs.clause_index.ClauseIndex.take_out.Goals as goal

pub returns-clause-sound : goal.returns-clause-sound
returns-clause-sound g c =
    let was : numbers.get c.args.self.now.clauses c.args.number ≡ Some c.in-Some.entry = sym c.in-Some.ensures.value in
    sound_dropped
    g.C.Key.Ord.cmp g.C.Kept.any g.C.Kept.key_of c.args.self.now c.requires.sound c.args.number c.args.place c.in-Some.entry was c.unlist.new.self
    (subst (numbers.IsOrdered) (sym c.unlist.ensures.others.0) c.in-Some.ensures.ordered)
    (λ q. ap (λ m. numbers.get m q) c.unlist.ensures.others.0 ∙ c.in-Some.ensures.updates.0 q)
    (ap (λ m. m.entries) c.unlist.ensures.others.0 ∙ c.in-Some.ensures.entries)
    (record { by_key = c.unlist.ensures.unlists.by_key; by_any = c.unlist.ensures.unlists.by_any })
    (erased_at c.args.self.now.clauses c.args.place c.args.number c.in-Some.entry was c.requires.erased)
    (λ k q. ap (λ s. set.contains pair_order s (k, q)) c.unlist.ensures.others.1 ∙ c.remove.ensures.updates.0 (k, q))
    (length_out c.args.self.now.erased c.remove.new.self c.unlist.new.self.erased c.remove.result c.remove.ensures.len
    (c.remove.ensures.test ∙ c.requires.sound.listed_erased c.args.place c.args.number ∙ c.requires.erased) c.unlist.ensures.others.1)

pub returns-clause-out : goal.returns-clause-out
returns-clause-out g c =
    let was : numbers.get c.args.self.now.clauses c.args.number ≡ Some c.in-Some.entry = sym c.in-Some.ensures.value in
    record {
      number = c.args.number;
      entry = c.in-Some.entry;
      was = was;
      at = erased_at c.args.self.now.clauses c.args.place c.args.number c.in-Some.entry was c.requires.erased;
      dated_is = c.dated_of.ensures;
      entries = ap (λ m. m.entries) c.unlist.ensures.others.0 ∙ c.in-Some.ensures.entries;
    }

pub returns-clause-stay : goal.returns-clause-stay
returns-clause-stay g c =
    stay_out c.args.self.now.clauses c.unlist.new.self.clauses c.args.number
    (λ q. ap (λ m. numbers.get m q) c.unlist.ensures.others.0 ∙ c.in-Some.ensures.updates.0 q)

pub returns-clause-kept : goal.returns-clause-kept
returns-clause-kept g c =
    kept_out c.args.self.now.clauses c.unlist.new.self.clauses c.args.number
    (λ q. ap (λ m. numbers.get m q) c.unlist.ensures.others.0 ∙ c.in-Some.ensures.updates.0 q)
