use Rattle.gen_core.proofs.RunLaws.{stay_marked}
use Rattle.gen_core.proofs.SharedLaws.{kept_marked}
use Rattle.std.proofs.Common.{sym, ap, subst, ◌∙◌, ◌≡◌, ◌+◌, cond, not, refl}
use Rattle.std.specs.Option.{IfSome}
use Rattle.std.specs.Ordering.{nat_cmp}
use Rattle.std.specs.Map.{set_value}
use Rattle.std.specs.BTreeMap.{is_at}
use Rattle.std.specs.BTreeSet as set
use Rattle.gen_core.specs.ClauseIndex.{marked}
use Rattle.gen_core.proofs.Erasures.{live_entry, live_unlisted, sound_erased}
use Rattle.gen_core.proofs.clause_index.ClauseIndex.erase_at.Goals as goal

pub returns-then-is_live-clause-sound : goal.returns-then-is_live-clause-sound
returns-then-is_live-clause-sound g c =
    let live = live_entry c.args.self.now.clauses c.args.number (sym c.if-is_live.ensures) in
    sound_erased
    g.C.Key.Ord.cmp g.C.Kept.any g.C.Kept.key_of c.args.self.now c.requires c.args.number c.args.place live.0 live.1
    _
    live.2
    c.mark.ensures.ordered
    c.mark.ensures.updates
    (subst (λ o. IfSome o (λ e. c.mark.new.self.entries ≡ set_value (is_at (nat_cmp c.args.number)) c.args.self.now.clauses.entries (marked c.args.place e))) live.1 c.mark.ensures.entries)
    refl
    refl
    (λ k q. c.in_ok-insert.ensures.updates.0 (k, q))
    (c.in_ok-insert.ensures.len
    ∙ ap (λ b. set.btree_set_len c.args.self.now.erased + cond b 1 0)
    (c.in_ok-insert.ensures.added ∙ ap not (c.requires.listed_erased c.args.place c.args.number ∙ live_unlisted c.args.self.now.clauses c.args.place c.args.number (sym c.if-is_live.ensures))))

pub returns-then-is_live-clause-ok : goal.returns-then-is_live-clause-ok
returns-then-is_live-clause-ok g c =
    let live = live_entry c.args.self.now.clauses c.args.number (sym c.if-is_live.ensures) in
    record {
      entry = live.0;
      was = live.1;
      live = live.2;
      entries = subst (λ o. IfSome o (λ e. c.mark.new.self.entries ≡ set_value (is_at (nat_cmp c.args.number)) c.args.self.now.clauses.entries (marked c.args.place e))) live.1 c.mark.ensures.entries;
    }

pub returns-then-is_live-clause-stay : goal.returns-then-is_live-clause-stay
returns-then-is_live-clause-stay g c =
    stay_marked c.args.self.now.clauses c.mark.new.self c.args.number c.args.place (sym c.if-is_live.ensures) c.mark.ensures.updates

pub returns-then-is_live-clause-kept : goal.returns-then-is_live-clause-kept
returns-then-is_live-clause-kept g c = kept_marked c.args.self.now.clauses c.mark.new.self c.args.number c.args.place c.mark.ensures.updates
