use Rattle.std.proofs.Common.{◌≡◌, ◌+◌, ◌≤◌}
use Rattle.std.specs.List.{All}
use Rattle.pl_term.specs.Cells.{compound_cells}
use Rattle.term_store.specs.Cells.{heap_of}
use Rattle.term_store.specs.Counting.{total}
use Rattle.term_store.specs.Fit.{IsIn}
use Rattle.term_store.specs.Heap.{meaning}
use Rattle.term_store.proofs.count.count_within.Given as goal

abbrev pub invariant-loop : goal.invariant-loop
invariant-loop l =
    record {
      words : All (IsIn (heap_of l.cells)) l.walk.items;
      within : l.left ≤ l.limit;
      counted : l.limit + total (heap_of l.cells) l.walk.items ≡ compound_cells (meaning (heap_of l.cells) l.fn.word) + l.left;
    }
