use Rattle.std.proofs.Common.{◌≡◌}
use Rattle.term_store.specs.Heap.{meaning}
use Rattle.term_store.specs.Fit.{IsIn}
use Rattle.term_store.specs.Cells.{heap_of}
use Rattle.term_store.proofs.Following.{rank}
use Rattle.term_store.proofs.cells.deref.Given as goal

abbrev pub invariant-loop-at : goal.invariant-loop-at
invariant-loop-at l =
    record {
      means : meaning (heap_of l.cells) l.at ≡ meaning (heap_of l.cells) l.fn.word;
      inside : IsIn (heap_of l.cells) l.at;
    }

abbrev pub decreases-loop-at : goal.decreases-loop-at
decreases-loop-at l = rank l.at
