use Rattle.std.proofs.Common.{[], ◌∷◌, arith}
use Rattle.std.proofs.lemmas.List.Elements.{All-cons, All-nil, All-same}
use Rattle.pl_term.specs.Cells.{compound_cells}
use Rattle.term_store.specs.Cells.{heap_of}
use Rattle.term_store.specs.Heap.{meaning}
use Rattle.term_store.specs.Fit.{IsIn}
use Rattle.term_store.proofs.Occurring.{popped}
use Rattle.term_store.proofs.Totals.{counts_one, goes_over, goes_within}
use Rattle.term_store.proofs.count.count_within.Goals as goal

pub loop-init : goal.loop-init
loop-init c =
    let h = heap_of c.args.cells.now in
    record {
      words = All-same (IsIn h) c.in_ok-walk.walk.items (c.args.word ∷ []) c.in_ok-walk.ensures.items (All-cons (IsIn h) c.args.word [] c.requires.inside (All-nil (IsIn h)));
      within = omega arith;
      counted = omega (arith, counts_one h c.in_ok-walk.walk.items c.args.word c.in_ok-walk.ensures.items);
    }

pub deref-at-requires-clause-inside : goal.deref-at-requires-clause-inside
deref-at-requires-clause-inside c =
    (popped (IsIn (heap_of c.args.cells.now)) c.loop.walk.items c.pop.new.self.items c.in-Some.next c.in-Some.ensures.items c.loop.invariant.words).1

pub returns-in_default-take-clause-over : goal.returns-in_default-take-clause-over
returns-in_default-take-clause-over c =
    let h = heap_of c.args.cells.now in
    goes_over h c.args.limit c.loop.left (compound_cells (meaning h c.args.word)) c.in_ok-count.count c.loop.walk.items c.pop.new.self.items
    c.open.new.walk.items c.in-Some.next c.deref-at.result c.in-Some.ensures.items c.deref-at.ensures.means c.loop.invariant.counted c.in_ok-count.ensures.counted
    c.in_default-take.ensures.over

pub loop-preserved : goal.loop-preserved
loop-preserved c =
    let h = heap_of c.args.cells.now in
    record {
      words = c.in_ok-count.ensures.words;
      within = omega (arith, c.in-Some-take.ensures.taken, c.loop.invariant.within);
      counted =
          goes_within h c.args.limit c.loop.left c.in-Some-take.rest (compound_cells (meaning h c.args.word)) c.in_ok-count.count c.loop.walk.items c.pop.new.self.items
          c.open.new.walk.items c.in-Some.next c.deref-at.result c.in-Some.ensures.items c.deref-at.ensures.means c.loop.invariant.counted c.in_ok-count.ensures.counted
          c.in-Some-take.ensures.taken;
    }
