use Rattle.std.proofs.Common.{◌∙◌, refl, sym, ap}
use Rattle.term_store.specs.declared.words.Word.TheVariants.{Var, Comp}
use Rattle.term_store.specs.Cells.{heap_of}
use Rattle.term_store.specs.Entering.{entered}
use Rattle.term_store.specs.Heap.{meaning}
use Rattle.term_store.proofs.Extending.{extends_longer}
use Rattle.term_store.proofs.Heading.{constant_never}
use Rattle.term_store.proofs.Knowing.{longer_same}
use Rattle.term_store.proofs.Resting.{steps_if_any, steps_met}
use Rattle.term_store.proofs.heads.meet_compound.Goals as goal

pub returns-in_err-slot-in-Var-clause-extends : goal.returns-in_err-slot-in-Var-clause-extends
returns-in_err-slot-in-Var-clause-extends c = let h = heap_of c.args.cells.now in extends_longer h h (longer_same h h refl)

pub returns-in_ok-met-in-Var-clause-steps : goal.returns-in_ok-met-in-Var-clause-steps
returns-in_ok-met-in-Var-clause-steps c =
    let b = c.args.block.now in
    let h = heap_of c.args.cells.now in
    let known = c.args.known.now.items in
    steps_met c.in_ok-met-in-Var.met c.if_met.result b h c.args.from known c.args.word (Var c.in_ok-slot-in-Var.slot) (entered b h c.args.from known (Comp c.args.k)) (Comp c.args.k)
    c.args.rests.now.items c.args.next (heap_of c.write_part.new.cells) c.write_part.new.known.items c.if_met.ensures
    (c.in_ok-met-in-Var.ensures.few c.requires.few) (ap (meaning h) (ap Var c.in_ok-slot-in-Var.ensures ∙ sym c.in-Var.is) ∙ c.deref.ensures.means) refl c.in_ok-met-in-Var.ensures.joins

pub returns-in-Comp-clause-extends : goal.returns-in-Comp-clause-extends
returns-in-Comp-clause-extends c = let h = heap_of c.args.cells.now in extends_longer h h (longer_same h h refl)

pub returns-in-Comp-clause-steps : goal.returns-in-Comp-clause-steps
returns-in-Comp-clause-steps c =
    let b = c.args.block.now in
    let h = heap_of c.args.cells.now in
    let known = c.args.known.now.items in
    steps_if_any c.open_part.result b h c.args.from known (Comp c.in-Comp.l) c.args.word (Comp c.args.k) (Comp c.args.k) c.args.rests.now.items c.args.next
    h c.open_part.new.rests.items (ap (meaning h) (sym c.in-Comp.is) ∙ c.deref.ensures.means) refl c.requires.known c.requires.few c.open_part.ensures

pub returns-in_default-clause-extends : goal.returns-in_default-clause-extends
returns-in_default-clause-extends c = let h = heap_of c.args.cells.now in extends_longer h h (longer_same h h refl)

pub returns-in_default-clause-steps : goal.returns-in_default-clause-steps
returns-in_default-clause-steps c =
    constant_never c.args.block.now c.requires.block (heap_of c.args.cells.now) c.args.from c.args.known.now.items c.deref.result c.args.word c.args.k (Comp c.args.k)
    c.requires.part c.in_default.not-Var c.in_default.not-Comp c.deref.ensures.means refl
