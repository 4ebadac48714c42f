use Rattle.gen_core.specs.NumberMaps as numbers
use Rattle.gen_core.proofs.RunLaws.{others_put}
use Rattle.std.proofs.Common.{ap, ◌∙◌, refl}
use Rattle.std.specs.Option.{option_map, option_map_or}
use Rattle.std.specs.Ordering.{nat_cmp}
use Rattle.std.specs.BTreeSet as set
use Rattle.gen_core.specs.Index.{is_listed}
use Rattle.gen_core.specs.Visible.{fresh}
use Rattle.gen_core.proofs.Additions.{sound_put, sound_same, entries_back}
use Rattle.gen_core.proofs.clause_index.ClauseIndex.add.Goals as goal

pub returns-in-Ok-list-clause-sound : goal.returns-in-Ok-list-clause-sound
returns-in-Ok-list-clause-sound g c =
    sound_put
    g.C.Key.Ord.cmp g.C.Kept.any g.C.Kept.key_of c.args.self.now c.put.new.self c.list.new.self c.args.number c.args.place c.args.clause c.in-Ok.key c.in-Ok-key.other
    c.requires.sound c.requires.numbered c.requires.free c.in-Ok.ensures c.in-Ok-key.ensures
    c.put.ensures.ordered c.in_default-put.ensures.ok c.in_default-put.ensures.updates c.put.ensures.others c.list.ensures.others c.in-Ok-list.ensures.ok

pub returns-in-Ok-list-clause-ok : goal.returns-in-Ok-list-clause-ok
returns-in-Ok-list-clause-ok g c =
    record {
      entry = record { dated = fresh c.args.place c.args.clause; key = c.in-Ok.key };
      dated = refl;
      entries = ap (λ m. m.entries) c.list.ensures.others.0 ∙ c.in_default-put.ensures.ok;
    }

pub returns-in-Some-clause-sound : goal.returns-in-Some-clause-sound
returns-in-Some-clause-sound g c =
    sound_same
    g.C.Key.Ord.cmp g.C.Kept.any g.C.Kept.key_of c.args.self.now _
    c.requires.sound
    (entries_back g.C.Key.Ord.cmp c.args.self.now.clauses c.put.new.self.clauses c.list.new.self.clauses c.remove.new.self c.args.number (record { dated = fresh c.args.place c.args.clause; key = c.in-Ok.key }) (c.requires.free c.args.number c.requires.numbered) c.in_default-put.ensures.ok c.list.ensures.others.0 c.remove.ensures.entries)
    (record {
      by_key = λ k q. c.in-Err-list.ensures.err.by_key k q ∙ ap (λ i. is_listed g.C.Key.Ord.cmp i.by_key k q) c.put.ensures.others.0;
      by_any = λ q. c.in-Err-list.ensures.err.by_any q ∙ ap (λ s. set.contains nat_cmp s q) c.put.ensures.others.1;
    })
    (c.list.ensures.others.1 ∙ c.put.ensures.others.2)

pub returns-in-Some-clause-err : goal.returns-in-Some-clause-err
returns-in-Some-clause-err g c = (
  c.clause_of.ensures
      ∙ ap (λ o. option_map_or (λ x. x.dated.clause) o c.args.clause) (c.in-Some.ensures.value ∙ ap (λ m. numbers.get m c.args.number) c.list.ensures.others.0 ∙ c.in_default-put.ensures.updates.1),
  entries_back g.C.Key.Ord.cmp c.args.self.now.clauses c.put.new.self.clauses c.list.new.self.clauses c.remove.new.self c.args.number (record { dated = fresh c.args.place c.args.clause; key = c.in-Ok.key }) (c.requires.free c.args.number c.requires.numbered) c.in_default-put.ensures.ok c.list.ensures.others.0 c.remove.ensures.entries,
)

pub returns-in-Ok-list-clause-others : goal.returns-in-Ok-list-clause-others
returns-in-Ok-list-clause-others g c =
    others_put c.args.self.now.clauses c.list.new.self.clauses c.args.number (record { dated = fresh c.args.place c.args.clause; key = c.in-Ok.key })
    (λ q. ap (λ m. numbers.get m q) c.list.ensures.others.0 ∙ c.in_default-put.ensures.updates.0 q)

pub returns-in-Ok-list-clause-at : goal.returns-in-Ok-list-clause-at
returns-in-Ok-list-clause-at g c =
    ap (option_map (λ x. x.dated)) (ap (λ m. numbers.get m c.args.number) c.list.ensures.others.0 ∙ c.in_default-put.ensures.updates.1)
