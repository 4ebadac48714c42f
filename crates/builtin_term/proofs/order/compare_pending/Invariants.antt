use Rattle.std.proofs.Common.{◌≡◌}
use Rattle.std.specs.List.{All}
use Rattle.builtin_term.specs.Pending.{IsCompared, IsPairAt, pending_order}
use Rattle.builtin_term.proofs.order.compare_pending.Given as goal

abbrev pub invariant-loop : goal.invariant-loop
invariant-loop g l =
    let m = g.A.Atoms.held l.fn.atoms in
    record {
      pairs : All (IsPairAt m l.store) l.pending.pairs.items;
      order : pending_order m l.store l.pending.pairs.items ≡ pending_order m l.store l.fn.pending.pairs.items;
      course : IsCompared m l.store l.pending.pairs.items l.pending;
      same : g.A.Atoms.held l.atoms ≡ m;
      refusals : g.A.Atoms.refusals l.atoms ≡ g.A.Atoms.refusals l.fn.atoms;
      asked : g.A.Atoms.asked l.atoms ≡ g.A.Atoms.asked l.fn.atoms;
    }
