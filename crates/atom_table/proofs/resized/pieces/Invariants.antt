use Rattle.std.proofs.Common.{◌≤◌}
use Rattle.atom_table.specs.Holding.{Sits}
use Rattle.atom_table.proofs.resized.pieces.Given as goal

abbrev pub invariant-loop-i : goal.invariant-loop-i
invariant-loop-i l = record { sits : Sits l.table.words l.collector.seat; few : l.pieces ≤ l._i }
