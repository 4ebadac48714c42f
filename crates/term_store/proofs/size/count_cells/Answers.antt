use Rattle.std.proofs.Common.{sym, ap, ◌∙◌, arith}
use Rattle.pl_term.specs.Cells.{compound_cells}
use Rattle.term_store.specs.Cells.{heap_of}
use Rattle.term_store.specs.Fit.{IsIn}
use Rattle.term_store.specs.Heap.{meaning}
use Rattle.term_store.specs.Sizes.{sizes_of}
use Rattle.term_store.proofs.Occurring.{popped, started}
use Rattle.term_store.proofs.Sizing.{popped_within, started_within}
use Rattle.term_store.proofs.size.count_cells.Goals as goal

pub loop-init : goal.loop-init
loop-init c =
    let h = heap_of c.args.cells.now in
    record {
      words = (started h 0 c.push.new.self.items c.clear.new.self.items c.args.word c.in_ok-push.ensures.items c.clear.ensures.items c.requires.inside).0;
      sizes = c.new-sizes.ensures.items ∙ sym (ap (sizes_of h) c.clear-2.ensures);
      parts = started_within h c.push.new.self.items c.clear.new.self.items c.args.word c.in_ok-push.ensures.items c.clear.ensures.items;
    }

pub deref-at-requires-clause-inside : goal.deref-at-requires-clause-inside
deref-at-requires-clause-inside c =
    (popped (IsIn (heap_of c.args.cells.now)) c.loop.walk.words.items c.pop.new.self.items c.in-Some.next c.in-Some.ensures.items c.loop.invariant.words).1

pub count_word-requires-clause-words : goal.count_word-requires-clause-words
count_word-requires-clause-words c =
    (popped (IsIn (heap_of c.args.cells.now)) c.loop.walk.words.items c.pop.new.self.items c.in-Some.next c.in-Some.ensures.items c.loop.invariant.words).0

pub returns-then-not-branch-clause-over : goal.returns-then-not-branch-clause-over
returns-then-not-branch-clause-over c =
    let h = heap_of c.args.cells.now in
    omega (
      arith,
      c.in_ok-count_word.ensures.over c.if-not-branch.true,
      (popped_within h (compound_cells (meaning h c.args.word)) c.loop.walk.words.items c.pop.new.self.items c.in-Some.next c.deref-at.result c.in-Some.ensures.items
          c.deref-at.ensures.means c.loop.invariant.parts).1,
    )

pub loop-preserved : goal.loop-preserved
loop-preserved c =
    let h = heap_of c.args.cells.now in
    let n = compound_cells (meaning h c.args.word) in
    let parts = popped_within h n c.loop.walk.words.items c.pop.new.self.items c.in-Some.next c.deref-at.result c.in-Some.ensures.items c.deref-at.ensures.means
    c.loop.invariant.parts in
    record {
      words = c.in_ok-count_word.ensures.words;
      sizes = c.in_ok-count_word.ensures.sizes;
      parts = c.in_ok-count_word.ensures.parts n parts.1 parts.0;
    }
