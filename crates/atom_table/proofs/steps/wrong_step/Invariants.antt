use Rattle.atom_words.specs.Seats.{seen, Walking}
use Rattle.atom_table.specs.Holding.{Sits, IsEngine}
use Rattle.atom_table.proofs.steps.wrong_step.Given as goal

abbrev pub invariant-loop-step : goal.invariant-loop-step
invariant-loop-step l = record { sits : Sits l.table.words l.seat; walking : Walking (seen l.seat); engine : IsEngine (seen l.seat); collector : Sits l.table.words l.collector.seat }
