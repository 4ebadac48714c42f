use Rattle.std.proofs.Common.{refl}
use Rattle.term_store.specs.Cells.{heap_of}
use Rattle.term_store.proofs.Knowing.{longer_same}
use Rattle.term_store.proofs.known.make_known.Goals as goal

pub returns-else-len-count-clause-longer : goal.returns-else-len-count-clause-longer
returns-else-len-count-clause-longer c = let h = heap_of c.args.cells.now in longer_same h h refl
