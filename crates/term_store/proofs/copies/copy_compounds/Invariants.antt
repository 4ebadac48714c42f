use Rattle.std.proofs.Common.{◌≡◌, ◌+◌, ◌<◌, ◌≤◌, ℕ, false, length}
use Rattle.std.specs.List.{All}
use Rattle.term_store.specs.Blocks.{arguments_of}
use Rattle.term_store.specs.Cells.{IsFit, heap_of}
use Rattle.term_store.specs.Entering.{AreCopied, IsGroundBefore}
use Rattle.term_store.specs.Nodes.{Gains}
use Rattle.term_store.proofs.copies.copy_compounds.Given as goal

abbrev pub invariant-loop-j : goal.invariant-loop-j
invariant-loop-j l =
    record {
      fit : IsFit l.cells;
      gains : Gains (heap_of l.fn.cells) (heap_of l.cells);
      many : length l.cells.heads.items + l.low ≡ l.above + l.j;
      copied : (from : ℕ) → AreCopied l.block (heap_of l.fn.cells) from l.known.items l.low l.above l.j (heap_of l.cells);
      ground :
          l.met ≡ false → (i : ℕ) → l.low ≤ i → i < l.j → All (IsGroundBefore (heap_of l.fn.cells) l.known.items l.before) (arguments_of l.block i);
    }
