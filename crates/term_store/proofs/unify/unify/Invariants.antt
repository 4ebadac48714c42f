use Rattle.std.proofs.Common.{[]}
use Rattle.std.specs.List.{All}
use Rattle.term_store.specs.Apart.{IsApart}
use Rattle.term_store.specs.Cells.{IsFit, heap_of}
use Rattle.term_store.specs.Meeting.{IsMet}
use Rattle.term_store.specs.Unifying.{Grown, Goes}
use Rattle.term_store.specs.Waiting.{AreWaiting, waiting}
use Rattle.term_store.proofs.unify.unify.Given as goal

abbrev pub invariant-loop : goal.invariant-loop
invariant-loop l =
    record {
      fit : IsFit l.cells;
      apart : IsApart (heap_of l.cells) l.older;
      grown : Grown (heap_of l.fn.cells) (heap_of l.cells);
      waits : AreWaiting (heap_of l.cells) l.pending.rests.items l.hand;
      goes : Goes (heap_of l.fn.cells) [] l.fn.left l.fn.right (heap_of l.cells) (waiting (heap_of l.cells) l.pending.rests.items l.hand);
      met : All (IsMet (heap_of l.cells) (waiting (heap_of l.cells) l.pending.rests.items l.hand)) l.pending.met.list.items;
    }
