use Rattle.std.proofs.Common.{take, drop, []}
use Rattle.atom_parts.proofs.ColumnLaws.{AllMeet}
use Rattle.atom_parts.proofs.columns.unifies.Given as goal

abbrev pub invariant-loop-i : goal.invariant-loop-i
invariant-loop-i l = AllMeet l.text (take l.i l.columns) (drop l.i l.columns) → AllMeet l.text [] l.columns
