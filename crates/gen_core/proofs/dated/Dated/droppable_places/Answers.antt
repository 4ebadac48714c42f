use Rattle.std.proofs.Common.{◌≤◌, ◌==◌, length, subst}
use Rattle.std.specs.Prelude.{filter}
use Rattle.gen_core.proofs.Places.{places-once}
use Rattle.gen_core.proofs.dated.Dated.droppable_places.Goals as goal

pub returns-clause-once : goal.returns-clause-once
returns-clause-once g c = λ p.
    subst (λ ds. length (filter (λ d. d.place == p) ds) ≤ 1) c.self.view_is (places-once g.C.Key.Ord.cmp g.C.Kept.any g.C.Kept.key_of c.self.inside.index c.self.invariant.0 p)
