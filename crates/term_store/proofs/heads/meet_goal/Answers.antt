use Rattle.std.proofs.Common.{◌<◌, length, refl, sym, ap, subst}
use Rattle.std.proofs.lemmas.Result.{IfOk-weaker}
use Rattle.term_store.specs.declared.words.Word.TheVariants.{Comp}
use Rattle.term_store.specs.Blocks.{block_heap}
use Rattle.term_store.specs.Cells.{heap_of}
use Rattle.term_store.specs.Fit.{IsIn}
use Rattle.term_store.specs.Heap.{meaning}
use Rattle.term_store.proofs.Extending.{extends_longer}
use Rattle.term_store.proofs.Knowing.{longer_same}
use Rattle.term_store.specs.Rests.{no_rest}
use Rattle.term_store.proofs.Resting.{opens_steps, steps_same}
use Rattle.term_store.proofs.heads.meet_goal.Goals as goal

pub returns-in-Comp-goal-clause-extends : goal.returns-in-Comp-goal-clause-extends
returns-in-Comp-goal-clause-extends c = let h = heap_of c.args.cells.now in extends_longer h h (longer_same h h refl)

pub returns-in-Comp-goal-clause-steps : goal.returns-in-Comp-goal-clause-steps
returns-in-Comp-goal-clause-steps c =
    let b = c.args.block.now in
    let h = heap_of c.args.cells.now in
    let known = c.args.known.now.items in
    let l = c.in-Comp-goal.l in
    let k = c.in-Comp.field-0 in
    let inside : l < length h.heads = subst (IsIn h) c.in-Comp-goal.is c.requires.facing.0 in
    let part : k < length b.heads.items = subst (IsIn (block_heap b)) c.in-Comp.is c.requires.facing.1 in
    IfOk-weaker c.open_heads.result _ _
    (λ r opens.
    steps_same r b h c.args.from known (Comp l) c.args.goal (Comp k) b.head c.args.rests.now.items no_rest h known c.open_heads.new.rests.items
    (ap (meaning h) (sym c.in-Comp-goal.is)) (sym c.in-Comp.is)
    (opens_steps r b c.requires.block h c.requires.fit.fit c.args.from known l k inside part c.head_at-left.result b.first c.head_at-left.ensures
    (c.requires.first k c.in-Comp.is) c.args.rests.now.items no_rest c.open_heads.new.rests.items c.requires.known c.requires.few opens))
    c.open_heads.ensures
