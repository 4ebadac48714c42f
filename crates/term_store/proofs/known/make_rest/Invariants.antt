use Rattle.std.proofs.Common.{◌≤◌, ◌-◌, ℕ, [], length}
use Rattle.term_store.specs.Cells.{IsFit, heap_of}
use Rattle.term_store.specs.Entering.{IsKnown, Meets}
use Rattle.term_store.specs.Making.{Longer}
use Rattle.term_store.proofs.known.make_rest.Given as goal

abbrev pub invariant-loop-cells : goal.invariant-loop-cells
invariant-loop-cells l =
    record {
      fit : IsFit l.cells;
      longer : Longer (heap_of l.fn.cells) (heap_of l.cells);
      known : IsKnown (heap_of l.cells) l.from l.known.items;
      meets : Meets (heap_of l.fn.cells) l.from l.fn.known.items [] (heap_of l.cells) l.known.items;
      more : length l.fn.known.items ≤ length l.known.items;
      few : (n : ℕ) → l.count ≤ n → length l.fn.known.items ≤ n → length l.known.items ≤ n;
    }

abbrev pub decreases-loop-cells : goal.decreases-loop-cells
decreases-loop-cells l = l.count - length l.known.items
