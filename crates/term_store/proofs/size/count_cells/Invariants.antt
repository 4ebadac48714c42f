use Rattle.std.proofs.Common.{◌≡◌}
use Rattle.std.specs.List.{All}
use Rattle.pl_term.specs.Cells.{compound_cells}
use Rattle.term_store.specs.Cells.{heap_of}
use Rattle.term_store.specs.Fit.{IsIn}
use Rattle.term_store.specs.Heap.{meaning}
use Rattle.term_store.specs.Sizes.{IsWithin, sizes_of}
use Rattle.term_store.proofs.size.count_cells.Given as goal

abbrev pub invariant-loop : goal.invariant-loop
invariant-loop l =
    let h = heap_of l.cells in
    record {
      words : All (IsIn h) l.walk.words.items;
      sizes : l.sizes.items ≡ sizes_of h l.walk.seen.list.items;
      parts : All (IsWithin h (compound_cells (meaning h l.fn.word))) l.walk.words.items;
    }
