use Rattle.std.proofs.Common.{◌≡◌, zero, sym, arith}
use Rattle.term_store.specs.Cells.{heap_of}
use Rattle.term_store.specs.Heap.{numbered}
use Rattle.term_store.proofs.Entering.{constant_absent}
use Rattle.term_store.proofs.Settling.{none_at_all}
use Rattle.term_store.proofs.holding.stands_in.Goals as goal

pub returns-then-is_constant-clause-has : goal.returns-then-is_constant-clause-has
returns-then-is_constant-clause-has c =
    let h = heap_of c.args.cells.now in
    sym (constant_absent h (numbered h c.args.slot) c.args.word (c.is_constant.ensures c.if-is_constant.true))

pub keep_ground-requires-clause-ground : goal.keep_ground-requires-clause-ground
keep_ground-requires-clause-ground c =
    let h = heap_of c.args.cells.now in
    let start : c.is_found.new.top ≡ zero = omega (arith, c.if-top-gt0.false) in
    none_at_all h c.args.word c.is_found.new.top c.requires.fit.fit c.requires.inside start (c.in_ok-found.ensures.others c.if-found.false)
