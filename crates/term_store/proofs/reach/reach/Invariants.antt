use Rattle.term_store.specs.Cells.{heap_of}
use Rattle.term_store.specs.Reaches.{IsGathering}
use Rattle.term_store.proofs.reach.reach.Given as goal

abbrev pub invariant-loop : goal.invariant-loop
invariant-loop l = IsGathering (heap_of l.cells) l.fn.root l.fn.live l.walk.items l.seen.list.items l.live
