use Rattle.std.proofs.Common.{◌≡◌, ℕ, ◌<◌, ◌≤◌, length}
use Rattle.std.specs.List.{All}
use Rattle.pl_term.specs.Variables.{has}
use Rattle.term_store.specs.Cells.{heap_of}
use Rattle.term_store.specs.Fit.{IsIn}
use Rattle.term_store.specs.Heap.{meaning, numbered}
use Rattle.term_store.specs.Unifying.{any_has}
use Rattle.term_store.specs.Visits.{SeenClear}
use Rattle.term_store.proofs.occurs.is_found.Given as goal

abbrev pub invariant-loop : goal.invariant-loop
invariant-loop l =
    record {
      others : All (IsIn (heap_of l.cells)) l.walk.words.items;
      same :
          any_has (numbered (heap_of l.cells) l.slot) (heap_of l.cells) l.walk.words.items
          ≡ has (numbered (heap_of l.cells) l.slot) (meaning (heap_of l.cells) l.fn.word);
      raised : l.fn.top ≤ l.top;
      above :
          (i : ℕ) → l.top ≤ i → i < length l.cells.numbers.items
          → any_has (numbered (heap_of l.cells) i) (heap_of l.cells) l.walk.words.items ≡ has (numbered (heap_of l.cells) i) (meaning (heap_of l.cells) l.fn.word);
      seen : SeenClear l.top l.slot (heap_of l.cells) l.walk.words.items l.walk.seen.list.items;
    }
