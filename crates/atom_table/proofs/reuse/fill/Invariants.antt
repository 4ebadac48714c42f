use Rattle.std.proofs.Common.{◌≤◌}
use Rattle.atom_words.specs.Seats.{seen, Walking}
use Rattle.atom_table.specs.Holding.{Sits, IsEngine}
use Rattle.atom_table.proofs.reuse.fill.Given as goal

abbrev pub invariant-loop-i : goal.invariant-loop-i
invariant-loop-i l = record { sits : Sits l.table.words l.seat; walking : Walking (seen l.seat); engine : IsEngine (seen l.seat); few : l.made ≤ l.i }
