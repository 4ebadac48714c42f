use Rattle.std.proofs.Common.{◌≤◌, max}
use Rattle.text_tests.proofs.database.reclaim_all.Given as goal

abbrev pub invariant-loop-i : goal.invariant-loop-i
invariant-loop-i l = (l.db.next ≤ max l.initial.db.next l.floor) × (l.db.floor ≤ l.floor)
