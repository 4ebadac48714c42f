use Rattle.atom_table.specs.Opening.{FreshFrom}
use Rattle.atom_table.proofs.threads.eight.Given as goal

abbrev pub invariant-loop-i : goal.invariant-loop-i
invariant-loop-i g l = FreshFrom l.table.words 1 l.seats.items
