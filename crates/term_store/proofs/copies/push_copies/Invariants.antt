use Rattle.std.proofs.Common.{◌≡◌, ◌++◌, ◌+◌, ◌≤◌, map, take}
use Rattle.term_store.specs.Blocks.{copied}
use Rattle.term_store.specs.Findings.{AreFound}
use Rattle.term_store.specs.Heap.{words_of}
use Rattle.term_store.proofs.copies.push_copies.Given as goal

abbrev pub invariant-loop-i : goal.invariant-loop-i
invariant-loop-i l =
    record {
      copies : l.args.items ≡ l.fn.args.items ++ map (copied l.known.items l.low l.above) (take l.i (words_of l.parts.items l.head));
      room : l.head.count ≤ l.args.room + l.i;
      found : AreFound l.grounds l.known.items l.low l.above l.before l.fn.met l.any l.met (take l.i (words_of l.parts.items l.head));
    }
