use Rattle.term_store.specs.Cells.{heap_of}
use Rattle.term_store.proofs.Loading.{numbers_above}
use Rattle.term_store.proofs.load.make_variables.Goals as goal

pub make_variable-requires-clause-above : goal.make_variable-requires-clause-above
make_variable-requires-clause-above c =
    numbers_above (heap_of c.args.cells.now) (heap_of c.loop-i.cells) c.args.from c.loop-i.i c.loop-i.invariant.made c.requires.above
