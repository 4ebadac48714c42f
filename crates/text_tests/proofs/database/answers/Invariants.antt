use Rattle.std.proofs.Common.{◌≤◌}
use Rattle.text_tests.proofs.database.answers.Given as goal

abbrev pub invariant-loop-part : goal.invariant-loop-part
invariant-loop-part l = (l.db.next ≤ l.clock.place) × (l.db.floor ≤ l.clock.floor)
