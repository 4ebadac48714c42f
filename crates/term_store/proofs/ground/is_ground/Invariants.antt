use Rattle.std.proofs.Common.{◌≡◌, ℕ}
use Rattle.std.specs.List.{All}
use Rattle.pl_term.specs.Variables.{has}
use Rattle.term_store.specs.Cells.{heap_of}
use Rattle.term_store.specs.Fit.{IsIn}
use Rattle.term_store.specs.Grounds.{AreClear}
use Rattle.term_store.specs.Heap.{meaning}
use Rattle.term_store.specs.Unifying.{any_has}
use Rattle.term_store.proofs.ground.is_ground.Given as goal

abbrev pub invariant-loop : goal.invariant-loop
invariant-loop l =
    record {
      others : All (IsIn (heap_of l.cells)) l.walk.words.items;
      same : (x : ℕ) → any_has x (heap_of l.cells) l.walk.words.items ≡ has x (meaning (heap_of l.cells) l.fn.word);
      seen : AreClear (heap_of l.cells) l.walk.words.items l.walk.seen.list.items;
    }
