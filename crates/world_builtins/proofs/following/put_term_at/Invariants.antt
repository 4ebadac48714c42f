use Rattle.std.proofs.Common.{◌≡◌}
use Rattle.world_builtins.specs.Following.{IsOn}
use Rattle.world_builtins.specs.Spelling.{reads}
use Rattle.world_builtins.proofs.following.put_term_at.Given as goal

abbrev pub invariant-loop : goal.invariant-loop
invariant-loop g l =
    let m = g.A.Atoms.held l.fn.atoms in
    record {
      on : IsOn m l.store (reads m l.store l.fn.place) l.initial.writing l.places.items l.writing;
      same : g.A.Atoms.held l.atoms ≡ m;
      refusals : g.A.Atoms.refusals l.atoms ≡ g.A.Atoms.refusals l.fn.atoms;
      asked : g.A.Atoms.asked l.atoms ≡ g.A.Atoms.asked l.fn.atoms;
    }
