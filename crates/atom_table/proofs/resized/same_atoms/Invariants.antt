use Rattle.atom_words.specs.Seats.{seen, Walking}
use Rattle.atom_table.specs.Holding.{Sits, IsEngine}
use Rattle.atom_table.proofs.resized.same_atoms.Given as goal

abbrev pub invariant-loop-i : goal.invariant-loop-i
invariant-loop-i l = record { sits : Sits l.table.words l.seat; walking : Walking (seen l.seat); engine : IsEngine (seen l.seat) }
