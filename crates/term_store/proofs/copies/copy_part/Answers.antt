use Rattle.std.proofs.Common.{◌<◌, length, sym, ap, subst, pos, ◌∙◌}
use Rattle.term_store.specs.declared.words.Word.TheVariants.{Var, Int, Comp}
use Rattle.term_store.specs.Blocks.{block_heap}
use Rattle.term_store.specs.Cells.{heap_of}
use Rattle.term_store.specs.Entering.{IsReady, entered}
use Rattle.term_store.specs.Fit.{IsIn}
use Rattle.term_store.specs.Heap.{meaning}
use Rattle.term_store.specs.Nodes.{StandsFor}
use Rattle.term_store.proofs.Copying.{part_constant, part_known}
use Rattle.term_store.proofs.Stacking.{gains_none}
use Rattle.term_store.proofs.copies.copy_part.Goals as goal

pub returns-in-Var-clause-gains : goal.returns-in-Var-clause-gains
returns-in-Var-clause-gains c = gains_none (heap_of c.args.cells.now)

pub returns-in-Var-clause-copied : goal.returns-in-Var-clause-copied
returns-in-Var-clause-copied c from =
    let b = c.args.block.now in
    let h = heap_of c.args.cells.now in
    let known = c.args.known.now.items in
    let x = c.in-Var.x in
    let ready : x < length known = subst (IsReady b known) c.in-Var.is c.requires.ready in
    let inside : IsIn (block_heap b) (Var x) = subst (IsIn (block_heap b)) c.in-Var.is c.requires.part in
    record {
      inside = subst (IsIn h) (sym c.known_at.ensures) (c.requires.known x (Int (pos 0)) ready);
      means =
          ap (meaning h) c.known_at.ensures ∙ part_known b c.requires.block h from known c.requires.known x ready inside
          ∙ ap (entered b h from known) (sym c.in-Var.is);
    }

pub returns-clause-gains : goal.returns-clause-gains
returns-clause-gains c = gains_none (heap_of c.args.cells.now)

pub returns-clause-copied : goal.returns-clause-copied
returns-clause-copied c from =
    let h = heap_of c.args.cells.now in
    part_constant c.args.block.now c.requires.block h from c.args.known.now.items c.requires.known c.args.part c.in_default-part.not-Var c.in_default.not-Comp h

pub returns-in-Comp-clause-copied : goal.returns-in-Comp-clause-copied
returns-in-Comp-clause-copied c from =
    let b = c.args.block.now in
    let h = heap_of c.args.cells.now in
    let d = heap_of c.copy_compounds.new.cells in
    let known = c.args.known.now.items in
    subst (λ p. StandsFor d (entered b h from known p) (Comp c.in_ok-made.made.at)) (sym c.in-Comp.is) (c.in_ok-made.ensures.copied from)
