use Rattle.std.proofs.Common.{◌<◌, ◌≤◌, ◌+◌, get_or, pos, refl, sym, ap, subst, ◌∙◌, arith}
use Rattle.term_store.specs.declared.words.Word.TheVariants.{Int}
use Rattle.term_store.specs.Cells.{heap_of}
use Rattle.term_store.specs.Fit.{IsIn, no_head}
use Rattle.term_store.specs.Heap.{meaning}
use Rattle.term_store.proofs.Sizing.{sum_begins, sum_ends, sum_goes_on, word_inside}
use Rattle.term_store.proofs.size.sum_of.Goals as goal

pub loop-i-init : goal.loop-i-init
loop-i-init c =
    sum_begins (heap_of c.args.cells.now) c.args.k c.requires.fit.fit c.requires.inside c.plus-sum.result c.head_at-head.result.count
    (ap (λ g. g.count) c.head_at-head.ensures) (c.plus-sum.ensures 1 c.head_at-head.result.count refl refl)

pub deref-at-requires-clause-inside : goal.deref-at-requires-clause-inside
deref-at-requires-clause-inside c =
    let h = heap_of c.args.cells.now in
    let less : c.loop-i.i < (get_or h.heads c.args.k no_head).count = omega (arith, c.loop-i-test.true, ap (λ g. g.count) c.head_at-head.ensures) in
    subst (IsIn h) (sym (c.word_at.ensures ∙ ap (λ g. get_or h.args (g.start + c.loop-i.i) (Int (pos 0))) c.head_at-head.ensures))
    (word_inside h c.args.k c.requires.fit.fit c.requires.inside c.loop-i.i less)

pub loop-i-preserved : goal.loop-i-preserved
loop-i-preserved c =
    let h = heap_of c.args.cells.now in
    let less : c.loop-i.i < (get_or h.heads c.args.k no_head).count = omega (arith, c.loop-i-test.true, ap (λ g. g.count) c.head_at-head.ensures) in
    sum_goes_on h c.args.k c.requires.fit.fit c.requires.inside c.plus-sum-in-loop-i.result c.loop-i.i c.deref-at.result less
    (c.deref-at.ensures.means
    ∙ ap (meaning h) (c.word_at.ensures ∙ ap (λ g. get_or h.args (g.start + c.loop-i.i) (Int (pos 0))) c.head_at-head.ensures))
    (c.plus-sum-in-loop-i.ensures _ _ c.loop-i.invariant c.size_of.ensures)

pub returns : goal.returns
returns c =
    let h = heap_of c.args.cells.now in
    let over : (get_or h.heads c.args.k no_head).count ≤ c.loop-i.i = omega (arith, c.loop-i-test.false, ap (λ g. g.count) c.head_at-head.ensures) in
    sum_ends h c.args.k c.requires.fit.fit c.requires.inside c.loop-i.sum c.loop-i.i over c.loop-i.invariant
