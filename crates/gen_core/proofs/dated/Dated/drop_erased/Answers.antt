use Rattle.std.proofs.Common.{◌≡◌, false, subst}
use Rattle.std.specs.List.{list_any}
use Rattle.std.specs.Option.{IfSome, IfNone}
use Rattle.gen_core.specs.Visible.{is_droppable, DropsOne}
use Rattle.gen_core.specs.ClauseIndex.{clauses_of}
use Rattle.gen_core.proofs.Listed.{drops_some, drops_none}
use Rattle.gen_core.proofs.RunLaws.{runs_stay}
use Rattle.gen_core.proofs.SharedLaws.{shared_stay}
use Rattle.gen_core.proofs.dated.Dated.drop_erased.Goals as goal

pub invariant_of-self : goal.invariant_of-self
invariant_of-self g c =
    let old = c.self.inside.index.clauses in
    let new = c.drop_erased.new.self.clauses in (
      c.drop_erased.ensures.sound,
      runs_stay old new c.self.inside.runs c.self.invariant.1 c.drop_erased.ensures.stay,
      shared_stay g.C.Key.Ord.cmp g.C.Kept.any g.C.Kept.key_of old new c.self.inside.shared c.self.invariant.2 c.drop_erased.ensures.kept,
    )

pub returns-clause-some : goal.returns-clause-some
returns-clause-some g c =
    subst (λ ds. IfSome c.drop_erased.result (λ x. DropsOne c.args.floor x ds (clauses_of c.drop_erased.new.self.clauses))) c.self.view_is
    (drops_some g.C.Key.Ord.cmp g.C.Kept.any g.C.Kept.key_of c.self.inside.index c.self.invariant.0 c.drop_erased.new.self.clauses c.args.floor c.drop_erased.result c.drop_erased.ensures.dropped)

pub returns-clause-none : goal.returns-clause-none
returns-clause-none g c =
    subst (λ ds. IfNone c.drop_erased.result ((list_any (is_droppable c.args.floor) ds ≡ false) × (clauses_of c.drop_erased.new.self.clauses ≡ ds))) c.self.view_is
    (drops_none g.C.Key.Ord.cmp g.C.Kept.any g.C.Kept.key_of c.self.inside.index c.self.invariant.0 c.drop_erased.new.self.clauses c.args.floor c.drop_erased.result c.drop_erased.ensures.dropped)
