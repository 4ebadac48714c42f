use Rattle.iso_engine.specs.Finding.{AreFound}
use Rattle.iso_engine.proofs.variables.variables_at.Given as goal

abbrev pub invariant-loop : goal.invariant-loop
invariant-loop l = AreFound l.store l.walk.items l.found.items
