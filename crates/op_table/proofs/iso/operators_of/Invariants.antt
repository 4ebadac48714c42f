use Rattle.std.proofs.Common.{◌≡◌, take}
use Rattle.op_table.specs.Entries.{entries_of}
use Rattle.op_table.specs.Rows.{row_entries}
use Rattle.op_table.proofs.iso.operators_of.Given as goal

abbrev pub invariant-loop-name : goal.invariant-loop-name
invariant-loop-name l = entries_of l.operators.items ≡ row_entries (take l.name-index l.rows)
