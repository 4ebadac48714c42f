use Rattle.std.proofs.Common.{refl, sym, subst, arith}
use Rattle.term_store.specs.declared.words.Word.TheVariants.{Comp}
use Rattle.term_store.specs.Blocks.{block_heap}
use Rattle.term_store.specs.Cells.{heap_of}
use Rattle.term_store.specs.Entering.{IsConstant, value}
use Rattle.term_store.specs.Fit.{IsIn}
use Rattle.term_store.specs.Heap.{meaning}
use Rattle.term_store.proofs.Copying.{part_inside}
use Rattle.term_store.proofs.Entering.{constant_entered}
use Rattle.term_store.proofs.Heading.{variable_value}
use Rattle.term_store.proofs.Resting.{steps_if, steps_met}
use Rattle.term_store.proofs.heads.meet_part.Goals as goal

pub meet_variable-requires-clause-room : goal.meet_variable-requires-clause-room
meet_variable-requires-clause-room c =
    let room = c.requires.room in
    omega (arith, room, part_inside c.args.block.now c.in-Var.x (subst (IsIn (block_heap c.args.block.now)) c.in-Var.is c.requires.facing.1))

pub returns-in_ok-met-in-Var-clause-steps : goal.returns-in_ok-met-in-Var-clause-steps
returns-in_ok-met-in-Var-clause-steps c =
    let b = c.args.block.now in
    let h = heap_of c.args.cells.now in
    let d = heap_of c.meet_variable.new.cells in
    let known = c.args.known.now.items in
    let after = c.meet_variable.new.known.items in
    let x = c.in-Var.x in
    let within = part_inside b x (subst (IsIn (block_heap b)) c.in-Var.is c.requires.facing.1) in
    steps_met c.in_ok-met-in-Var.met c.if_met.result b h c.args.from known c.args.pair.left c.args.pair.left (value h c.args.from known x) c.args.pair.right
    c.args.rests.now.items c.args.next d after c.if_met.ensures (c.in_ok-met-in-Var.ensures.few b.variables within c.requires.few) refl
    (variable_value b h c.args.from known x c.args.pair.right c.requires.facing.1 c.in-Var.is) c.in_ok-met-in-Var.ensures.joins

pub returns-in_ok-met-in-Int-clause-steps : goal.returns-in_ok-met-in-Int-clause-steps
returns-in_ok-met-in-Int-clause-steps c =
    let b = c.args.block.now in
    let h = heap_of c.args.cells.now in
    let known = c.args.known.now.items in
    let p = c.args.pair.right in
    let d = heap_of c.meet_constant.new.cells in
    steps_met c.in_ok-met-in-Int.met c.if_met-in-Int.result b h c.args.from known c.args.pair.left c.args.pair.left (meaning h p) p c.args.rests.now.items c.args.next d known
    c.if_met-in-Int.ensures c.requires.few refl (constant_entered b h h c.args.from known p (subst IsConstant (sym c.in-Int.is) tt))
    (c.in_ok-met-in-Int.ensures.joins c.args.from known c.requires.known)

pub returns-in_ok-met-in-Atom-clause-steps : goal.returns-in_ok-met-in-Atom-clause-steps
returns-in_ok-met-in-Atom-clause-steps c =
    let b = c.args.block.now in
    let h = heap_of c.args.cells.now in
    let known = c.args.known.now.items in
    let p = c.args.pair.right in
    let d = heap_of c.meet_constant-in-Atom.new.cells in
    steps_met c.in_ok-met-in-Atom.met c.if_met-in-Atom.result b h c.args.from known c.args.pair.left c.args.pair.left (meaning h p) p c.args.rests.now.items c.args.next d known
    c.if_met-in-Atom.ensures c.requires.few refl (constant_entered b h h c.args.from known p (subst IsConstant (sym c.in-Atom.is) tt))
    (c.in_ok-met-in-Atom.ensures.joins c.args.from known c.requires.known)

pub returns-in-Comp-clause-steps : goal.returns-in-Comp-clause-steps
returns-in-Comp-clause-steps c =
    let b = c.args.block.now in
    let h = heap_of c.args.cells.now in
    let w = c.args.pair.left in
    steps_if c.meet_compound.result b h c.args.from c.args.known.now.items w w (Comp c.in-Comp.k) c.args.pair.right c.args.rests.now.items c.args.next
    (heap_of c.meet_compound.new.cells) c.meet_compound.new.known.items c.meet_compound.new.rests.items refl (sym c.in-Comp.is) c.meet_compound.ensures.steps
