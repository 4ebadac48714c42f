-- What a heap was at a mark.
use Rattle.std.specs.Prelude.{◌≤◌, length, take}
use Rattle.term_store.specs.declared.words.StoreMark.{StoreMark}
use Rattle.term_store.specs.Heap.{Heap}

-- The heap as it was at the mark.
abbrev pub cut : StoreMark → Heap → Heap
cut m h =
    record {
      heads = take m.heads h.heads;
      args = take m.args h.args;
      numbers = take m.numbers h.numbers;
      trail = take m.trail h.trail;
    }

-- The heap has all that the mark speaks of.
pub record IsWithin (m : StoreMark) (h : Heap) : Type 0 where
  pub heads : m.heads ≤ length h.heads
  pub args : m.args ≤ length h.args
  pub numbers : m.numbers ≤ length h.numbers
  pub trail : m.trail ≤ length h.trail
