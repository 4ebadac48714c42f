use Rattle.std.proofs.Common.{◌≡◌}
use Rattle.world_builtins.specs.Spelling.{reads}
use Rattle.world_builtins.specs.TermsTaken.{IsTaken}
use Rattle.world_builtins.proofs.naming.named_at.Given as goal

abbrev pub invariant-loop : goal.invariant-loop
invariant-loop g l =
    let m = g.A.Atoms.held l.fn.atoms in
    record {
      taken : IsTaken m l.store (reads m l.store l.fn.place) l.taking;
      same : g.A.Atoms.held l.atoms ≡ m;
      refusals : g.A.Atoms.refusals l.atoms ≡ g.A.Atoms.refusals l.fn.atoms;
      asked : g.A.Atoms.asked l.atoms ≡ g.A.Atoms.asked l.fn.atoms;
    }
