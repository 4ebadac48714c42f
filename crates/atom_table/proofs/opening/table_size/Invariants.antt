use Rattle.std.proofs.Common.{◌≤◌}
use Rattle.atom_table.proofs.opening.table_size.Given as goal

abbrev pub invariant-loop-i : goal.invariant-loop-i
invariant-loop-i l = (512 ≤ l.row) × (l.row ≤ 2097152)
