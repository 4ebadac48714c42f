use Rattle.std.proofs.Common.{◌∙◌, refl, sym, ap, subst, get_or, pos}
use Rattle.term_store.specs.declared.words.Word.TheVariants.{Int, Var, Comp}
use Rattle.term_store.specs.declared.shorts.Short.TheVariants.{Slot, Term}
use Rattle.term_store.specs.Cells.{IsFree, heap_of}
use Rattle.term_store.specs.Entering.{entered}
use Rattle.term_store.specs.Fit.{IsIn}
use Rattle.term_store.specs.Heap.{meaning}
use Rattle.term_store.proofs.Constants.{followed_never}
use Rattle.term_store.proofs.Extending.{extends_longer}
use Rattle.term_store.proofs.Knowing.{longer_same}
use Rattle.term_store.proofs.Resting.{steps_if_any, steps_met}
use Rattle.term_store.proofs.Shorting.{word_is}
use Rattle.term_store.proofs.heads.meet_term.Goals as goal

pub write_part-requires-clause-slot : goal.write_part-requires-clause-slot
write_part-requires-clause-slot c =
    let f = c.follow.ensures in
    subst (IsIn (heap_of c.args.cells.now)) (word_is c.follow.result (Slot c.in-Slot.slot) f.word tt c.in-Slot.is f.short) f.inside

pub write_part-requires-clause-free : goal.write_part-requires-clause-free
write_part-requires-clause-free c =
    let f = c.follow.ensures in
    subst (IsFree (heap_of c.args.cells.now)) (word_is c.follow.result (Slot c.in-Slot.slot) f.word tt c.in-Slot.is f.short) f.free

pub returns-in_ok-met-in-Slot-clause-steps : goal.returns-in_ok-met-in-Slot-clause-steps
returns-in_ok-met-in-Slot-clause-steps c =
    let b = c.args.block.now in
    let h = heap_of c.args.cells.now in
    let known = c.args.known.now.items in
    let f = c.follow.ensures in
    let slot = c.in-Slot.slot in
    let w = get_or h.args c.args.at (Int (pos 0)) in
    steps_met c.in_ok-met-in-Slot.met c.if_met.result b h c.args.from known w (Var slot) (entered b h c.args.from known (Comp c.args.k)) (Comp c.args.k)
    c.args.rests.now.items c.args.next (heap_of c.write_part.new.cells) c.write_part.new.known.items c.if_met.ensures
    (c.in_ok-met-in-Slot.ensures.few c.requires.few) (ap (meaning h) (sym (word_is c.follow.result (Slot slot) f.word tt c.in-Slot.is f.short)) ∙ f.means) refl
    c.in_ok-met-in-Slot.ensures.joins

pub open_part-requires-clause-left : goal.open_part-requires-clause-left
open_part-requires-clause-left c =
    let f = c.follow.ensures in
    subst (IsIn (heap_of c.args.cells.now)) (word_is c.follow.result (Term c.in-Term.l) f.word tt c.in-Term.is f.short) f.inside

pub returns-in-Term-clause-extends : goal.returns-in-Term-clause-extends
returns-in-Term-clause-extends c = let h = heap_of c.args.cells.now in extends_longer h h (longer_same h h refl)

pub returns-in-Term-clause-steps : goal.returns-in-Term-clause-steps
returns-in-Term-clause-steps c =
    let b = c.args.block.now in
    let h = heap_of c.args.cells.now in
    let f = c.follow.ensures in
    let l = c.in-Term.l in
    steps_if_any c.open_part.result b h c.args.from c.args.known.now.items (Comp l) (get_or h.args c.args.at (Int (pos 0))) (Comp c.args.k) (Comp c.args.k)
    c.args.rests.now.items c.args.next h c.open_part.new.rests.items
    (ap (meaning h) (sym (word_is c.follow.result (Term l) f.word tt c.in-Term.is f.short)) ∙ f.means) refl c.requires.known c.requires.few c.open_part.ensures

pub returns-in_default-clause-extends : goal.returns-in_default-clause-extends
returns-in_default-clause-extends c = let h = heap_of c.args.cells.now in extends_longer h h (longer_same h h refl)

pub returns-in_default-clause-steps : goal.returns-in_default-clause-steps
returns-in_default-clause-steps c =
    let h = heap_of c.args.cells.now in
    followed_never c.args.block.now c.requires.block h c.args.from c.args.known.now.items c.follow.result (get_or h.args c.args.at (Int (pos 0))) c.args.k
    c.requires.part c.follow.ensures c.in_default.not-Slot c.in_default.not-Term
