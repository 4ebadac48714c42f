use Rattle.std.specs.Prelude.{length}
use Rattle.atom_table.specs.Opening.{FreshFrom}
use Rattle.toplevel.proofs.beginning.atoms_of.Given as goal

abbrev pub invariant-loop-seat : goal.invariant-loop-seat
invariant-loop-seat g l = FreshFrom l.fn.table.words 1 l.seats.items

abbrev pub decreases-loop-seat : goal.decreases-loop-seat
decreases-loop-seat g l = length l.seats.items
