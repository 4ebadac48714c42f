use Rattle.std.proofs.Common.{◌∷◌, [], ◌++◌}
use Rattle.term_store.specs.Cells.{IsFit, heap_of}
use Rattle.term_store.specs.Entering.{Extends, weights}
use Rattle.term_store.specs.Rests.{AreRests, pairs_of}
use Rattle.term_store.proofs.Heading.{Reached}
use Rattle.term_store.proofs.enter.meet_head.Given as goal

abbrev pub invariant-loop-now : goal.invariant-loop-now
invariant-loop-now l =
    record {
      fit : IsFit l.cells;
      extends : Extends (heap_of l.fn.cells) (heap_of l.cells);
      rests : AreRests (heap_of l.cells) l.block l.entry.rests.items l.rest;
      reached :
          Reached l.block (heap_of l.fn.cells) l.from l.fn.goal l.block.head (heap_of l.cells) l.entry.known.items
          (pairs_of l.cells.args.items l.block.args.items (l.entry.rests.items ++ l.rest ∷ []));
    }

abbrev pub decreases-loop-now : goal.decreases-loop-now
decreases-loop-now l = weights l.block (pairs_of l.cells.args.items l.block.args.items (l.entry.rests.items ++ l.rest ∷ []))
