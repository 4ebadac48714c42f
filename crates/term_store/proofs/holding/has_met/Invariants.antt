use Rattle.std.proofs.Common.{◌≡◌, take}
use Rattle.std.specs.List.{All}
use Rattle.term_store.specs.Blocks.{arguments_of}
use Rattle.term_store.specs.Cells.{IsFit, heap_of}
use Rattle.term_store.specs.Entering.{IsHarmless}
use Rattle.term_store.proofs.holding.has_met.Given as goal

abbrev pub invariant-loop-i : goal.invariant-loop-i
invariant-loop-i l =
    record {
      fit : IsFit l.cells;
      kept : heap_of l.cells ≡ heap_of l.fn.cells;
      harmless : All (IsHarmless (heap_of l.fn.cells) l.slot l.known.items l.before) (take l.i (arguments_of l.block l.j));
    }
