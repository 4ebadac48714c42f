use Rattle.std.proofs.Common.{refl, sym, subst, get_or, pos, IfOk, arith}
use Rattle.term_store.specs.declared.words.Word.TheVariants.{Int, Comp}
use Rattle.term_store.specs.declared.words.Rest.{Rest}
use Rattle.term_store.specs.declared.shorts.Short.TheVariants.{Slot, Term}
use Rattle.term_store.specs.Blocks.{block_heap}
use Rattle.term_store.specs.Cells.{heap_of}
use Rattle.term_store.specs.Entering.{value}
use Rattle.term_store.specs.Fit.{IsIn}
use Rattle.term_store.specs.Heap.{meaning}
use Rattle.term_store.specs.Rests.{Steps}
use Rattle.term_store.proofs.Constants.{constant_short}
use Rattle.term_store.proofs.Copying.{part_inside}
use Rattle.term_store.proofs.Entering.{constant_entered}
use Rattle.term_store.proofs.Heading.{variable_value}
use Rattle.term_store.proofs.Resting.{steps_if, steps_met}
use Rattle.term_store.proofs.Shorting.{word_is}
use Rattle.term_store.proofs.heads.meet_at.Goals as goal

pub meet_slot-requires-clause-room : goal.meet_slot-requires-clause-room
meet_slot-requires-clause-room c =
    let b = c.args.block.now in
    let room = c.requires.room in
    let p = get_or b.args.items c.args.rest.right (Int (pos 0)) in
    omega (arith, room, part_inside b c.in-Slot.x (subst (IsIn (block_heap b)) (word_is c.short-part.result (Slot c.in-Slot.x) p tt c.in-Slot.is c.short-part.ensures) c.requires.facing.1))

pub returns-in-Slot-clause-steps : goal.returns-in-Slot-clause-steps
returns-in-Slot-clause-steps c =
    let b = c.args.block.now in
    let h = heap_of c.args.cells.now in
    let d = heap_of c.meet_slot.new.cells in
    let from = c.args.from in
    let known = c.args.known.now.items in
    let rests = c.args.rests.now.items in
    let x = c.in-Slot.x in
    let w = get_or h.args c.args.rest.left (Int (pos 0)) in
    let p = get_or b.args.items c.args.rest.right (Int (pos 0)) in
    let is = word_is c.short-part.result (Slot x) p tt c.in-Slot.is c.short-part.ensures in
    let within = part_inside b x (subst (IsIn (block_heap b)) is c.requires.facing.1) in
    let after = c.meet_slot.new.known.items in
    subst (λ (n : Rest). Steps c.if_met.result b h from known w p rests n d after rests) c.after_first-next.ensures
    (steps_met c.in_ok-met.met c.if_met.result b h from known w w (value h from known x) p rests c.after_first-next.result d after c.if_met.ensures
    (c.in_ok-met.ensures.few b.variables within c.requires.few) refl (variable_value b h from known x p c.requires.facing.1 is) c.in_ok-met.ensures.joins)

pub meet_term-requires-clause-part : goal.meet_term-requires-clause-part
meet_term-requires-clause-part c =
    let b = c.args.block.now in
    let p = get_or b.args.items c.args.rest.right (Int (pos 0)) in
    subst (IsIn (block_heap b)) (word_is c.short-part.result (Term c.in-Term.k) p tt c.in-Term.is c.short-part.ensures) c.requires.facing.1

pub returns-in-Term-clause-steps : goal.returns-in-Term-clause-steps
returns-in-Term-clause-steps c =
    let b = c.args.block.now in
    let h = heap_of c.args.cells.now in
    let d = heap_of c.meet_term.new.cells in
    let from = c.args.from in
    let known = c.args.known.now.items in
    let rests = c.args.rests.now.items in
    let after = c.meet_term.new.known.items in
    let left = c.meet_term.new.rests.items in
    let w = get_or h.args c.args.rest.left (Int (pos 0)) in
    let p = get_or b.args.items c.args.rest.right (Int (pos 0)) in
    let is = word_is c.short-part.result (Term c.in-Term.k) p tt c.in-Term.is c.short-part.ensures in
    steps_if c.meet_term.result b h from known w w (Comp c.in-Term.k) p rests _ d after left refl (sym is)
    (subst (λ (n : Rest). IfOk c.meet_term.result (λ r. Steps r b h from known w (Comp c.in-Term.k) rests n d after left)) c.after_first-next.ensures
    c.meet_term.ensures.steps)

pub meet_short-requires-clause-constant : goal.meet_short-requires-clause-constant
meet_short-requires-clause-constant c =
    let p = get_or c.args.block.now.args.items c.args.rest.right (Int (pos 0)) in
    constant_short c.short-part.result p c.in_default.not-Slot c.in_default-part.not-Term c.short-part.ensures

pub returns-clause-steps : goal.returns-clause-steps
returns-clause-steps c =
    let b = c.args.block.now in
    let h = heap_of c.args.cells.now in
    let d = heap_of c.meet_short.new.cells in
    let from = c.args.from in
    let known = c.args.known.now.items in
    let rests = c.args.rests.now.items in
    let w = get_or h.args c.args.rest.left (Int (pos 0)) in
    let p = get_or b.args.items c.args.rest.right (Int (pos 0)) in
    let is = constant_short c.short-part.result p c.in_default.not-Slot c.in_default-part.not-Term c.short-part.ensures in
    subst (λ (n : Rest). Steps c.if_met-2.result b h from known w p rests n d known rests) c.after_first-next.ensures
    (steps_met c.in_ok-met-2.met c.if_met-2.result b h from known w w (meaning h p) p rests c.after_first-next.result d known
    c.if_met-2.ensures c.requires.few refl (constant_entered b h h from known p is) (c.in_ok-met-2.ensures.joins from known c.requires.known))
