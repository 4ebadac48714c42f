use Rattle.std.proofs.Common.{◌≡◌, ◌≤◌, ◌++◌, take, drop, reverse}
use Rattle.term_store.proofs.save.push_reversed.Given as goal

abbrev pub invariant-loop-i : goal.invariant-loop-i
invariant-loop-i l =
    record {
      within : l.i ≤ l.fn.count;
      pushed : l.walk.items ≡ l.initial.walk.items ++ reverse (drop l.i (take l.fn.count (drop l.fn.start l.cells.args.items)));
    }

abbrev pub decreases-loop-i : goal.decreases-loop-i
decreases-loop-i l = l.i
