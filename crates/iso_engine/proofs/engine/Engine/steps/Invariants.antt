use Rattle.std.proofs.Common.{◌≡◌, ℕ, ◌+◌}
use Rattle.world_api.specs.Gains.{Gains}
use Rattle.iso_engine.specs.Asked.{AsksOnWay}
use Rattle.iso_engine.specs.Walking.{IsWalk}
use Rattle.iso_engine.proofs.engine.Engine.steps.Given as goal

abbrev pub invariant-loop : goal.invariant-loop
invariant-loop g l =
    (k : ℕ)
    × (k + l.initial.moves ≡ l.moves)
    × IsWalk l.n k (g.W.A.Atoms.held l.initial.atoms) (g.W.World.told l.initial.world) l.initial.self (g.W.A.Atoms.held l.atoms) (g.W.World.told l.world) l.self
    l.initial.out.items l.out.items
    × (g.W.A.Atoms.refusals l.atoms ≡ g.W.A.Atoms.refusals l.initial.atoms)
    × Gains (AsksOnWay (g.W.A.Atoms.held l.initial.atoms) (g.W.World.told l.initial.world) l.initial.self (g.W.A.Atoms.held l.atoms) (g.W.World.told l.world) l.self)
    (g.W.A.Atoms.asked l.initial.atoms) (g.W.A.Atoms.asked l.atoms)
