use Rattle.std.proofs.Common.{◌≡◌}
use Rattle.term_store.specs.Cells.{IsFit, heap_of}
use Rattle.term_store.specs.Contents.{upwards}
use Rattle.term_store.specs.Making.{with_numbers}
use Rattle.term_store.proofs.load.make_variables.Given as goal

abbrev pub invariant-loop-i : goal.invariant-loop-i
invariant-loop-i l =
    record {
      fit : IsFit l.cells;
      made : heap_of l.cells ≡ with_numbers (heap_of l.fn.cells) (upwards l.fn.from l.i);
    }
