use Rattle.std.proofs.Common.{suc, ◌+◌, get_or, take}
use Rattle.term_store.specs.Cells.{heap_of}
use Rattle.term_store.specs.Counting.{total}
use Rattle.term_store.specs.Fit.{no_head}
use Rattle.term_store.specs.Heap.{words_of}
use Rattle.term_store.specs.Sizes.{IsCount}
use Rattle.term_store.proofs.size.sum_of.Given as goal

abbrev pub invariant-loop-i : goal.invariant-loop-i
invariant-loop-i l =
    let h = heap_of l.cells in
    let g = get_or h.heads l.k no_head in
    IsCount l.sum (suc g.count + total h (take l.i (words_of h.args g)))
