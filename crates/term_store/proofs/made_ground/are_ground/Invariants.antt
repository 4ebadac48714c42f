use Rattle.std.proofs.Common.{◌≤◌, length, drop}
use Rattle.std.specs.List.{All}
use Rattle.term_store.specs.GroundMarks.{IsMarked}
use Rattle.term_store.proofs.made_ground.are_ground.Given as goal

abbrev pub invariant-loop-i : goal.invariant-loop-i
invariant-loop-i l =
    record {
      within : l.i ≤ length l.words.items;
      from : l.start ≤ l.i;
      behind : All (IsMarked l.grounds) (drop l.i l.words.items);
    }

abbrev pub decreases-loop-i : goal.decreases-loop-i
decreases-loop-i l = l.i
