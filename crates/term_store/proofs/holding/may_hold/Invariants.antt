use Rattle.std.proofs.Common.{◌≡◌, ◌≤◌, ◌<◌, ℕ, get_or}
use Rattle.std.specs.List.{All}
use Rattle.term_store.specs.Blocks.{arguments_of, no_range}
use Rattle.term_store.specs.Cells.{IsFit, heap_of}
use Rattle.term_store.specs.Entering.{IsHarmless}
use Rattle.term_store.proofs.holding.may_hold.Given as goal

abbrev pub invariant-loop-j : goal.invariant-loop-j
invariant-loop-j l =
    record {
      fit : IsFit l.cells;
      kept : heap_of l.cells ≡ heap_of l.fn.cells;
      harmless : (i : ℕ) → (get_or l.block.ranges.items l.k no_range).low ≤ i → i < l.j
          → All (IsHarmless (heap_of l.fn.cells) l.slot l.known.items l.before) (arguments_of l.block i);
    }
