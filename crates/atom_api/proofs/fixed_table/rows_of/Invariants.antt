use Rattle.std.proofs.Common.{◌≡◌, take}
use Rattle.std.specs.Prelude.{map}
use Rattle.atom_api.specs.Fixed.{row}
use Rattle.atom_api.proofs.fixed_table.rows_of.Given as goal

abbrev pub invariant-loop-slot : goal.invariant-loop-slot
invariant-loop-slot l = l.rows.items ≡ map row (take l.slot-index l.table)
