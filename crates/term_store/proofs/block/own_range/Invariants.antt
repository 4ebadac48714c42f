use Rattle.std.proofs.Common.{◌≤◌, take}
use Rattle.std.specs.List.{All}
use Rattle.term_store.specs.Blocks.{IsPart}
use Rattle.term_store.specs.Heap.{words_of}
use Rattle.term_store.proofs.block.own_range.Given as goal

abbrev pub invariant-loop-i : goal.invariant-loop-i
invariant-loop-i l =
    record {
      low : l.range.low ≤ l.k;
      few : l.range.variables ≤ l.count;
      parts : All (IsPart l.range) (take l.i (words_of l.args.items l.head));
    }
