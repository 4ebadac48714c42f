use Rattle.std.proofs.Common.{refl, subst}
use Rattle.term_store.specs.Cells.{heap_of}
use Rattle.term_store.specs.Contents.{Adds, Contents}
use Rattle.term_store.proofs.Answering.{unified_true_of, unified_false_of, undone}
use Rattle.term_store.proofs.Marking.{adds_grown}
use Rattle.term_store.proofs.Storing.{adds_none}
use Rattle.term_store.proofs.store.Store.unify_beyond.Goals as goal

pub returns-in-Ok-true-clause-unified : goal.returns-in-Ok-true-clause-unified
returns-in-Ok-true-clause-unified c =
    let before : Contents = record { heap = heap_of c.self.inside.cells; used = c.self.inside.used; budget = c.self.inside.budget } in
    let after : Contents = record { heap = heap_of c.unify.new.cells; used = c.self.inside.used; budget = c.self.inside.budget } in
    unified_true_of c.args.self.now before after c.args.a c.args.b c.in-Ok-true.field-0 c.self.view_is c.in-Ok-true.ensures.solves c.in-Ok-true.field-0-test

pub returns-in-Ok-false-clause-unified : goal.returns-in-Ok-false-clause-unified
returns-in-Ok-false-clause-unified c =
    let before : Contents = record { heap = heap_of c.self.inside.cells; used = c.self.inside.used; budget = c.self.inside.budget } in
    let after : Contents = record { heap = heap_of c.unify.new.cells; used = c.self.inside.used; budget = c.self.inside.budget } in
    unified_false_of c.args.self.now before _ c.args.a c.args.b after.heap c.in-Ok-false.field-0 c.self.view_is c.in-Ok-false.ensures.solves c.in-Ok-false.field-0-test
    (undone c.args.self.now before after _ c.mark-mark.result c.self.view_is c.in-Ok-false.ensures.grown refl c.undo_to.ensures.back c.mark-mark.ensures.mark
    c.mark-mark.ensures.here)

pub returns-in-Ok-true-clause-adds : goal.returns-in-Ok-true-clause-adds
returns-in-Ok-true-clause-adds c =
    let before : Contents = record { heap = heap_of c.self.inside.cells; used = c.self.inside.used; budget = c.self.inside.budget } in
    let after : Contents = record { heap = heap_of c.unify.new.cells; used = c.self.inside.used; budget = c.self.inside.budget } in
    subst (λ s. Adds s after) c.self.view_is (adds_grown before after c.unify.ensures.grown refl refl)

pub returns-in-Ok-false-clause-adds : goal.returns-in-Ok-false-clause-adds
returns-in-Ok-false-clause-adds c =
    let before : Contents = record { heap = heap_of c.self.inside.cells; used = c.self.inside.used; budget = c.self.inside.budget } in
    let after : Contents = record { heap = heap_of c.unify.new.cells; used = c.self.inside.used; budget = c.self.inside.budget } in
    adds_none c.args.self.now c.undo_to.new.self
    (undone c.args.self.now before after c.undo_to.new.self c.mark-mark.result c.self.view_is c.unify.ensures.grown refl c.undo_to.ensures.back c.mark-mark.ensures.mark
    c.mark-mark.ensures.here)

pub returns-in-Err-clause-adds : goal.returns-in-Err-clause-adds
returns-in-Err-clause-adds c =
    let before : Contents = record { heap = heap_of c.self.inside.cells; used = c.self.inside.used; budget = c.self.inside.budget } in
    let after : Contents = record { heap = heap_of c.unify.new.cells; used = c.self.inside.used; budget = c.self.inside.budget } in
    adds_none c.args.self.now c.undo_to-in-Err.new.self
    (undone c.args.self.now before after c.undo_to-in-Err.new.self c.mark-mark.result c.self.view_is c.unify.ensures.grown refl c.undo_to-in-Err.ensures.back
    c.mark-mark.ensures.mark c.mark-mark.ensures.here)

pub undo_to-requires : goal.undo_to-requires
undo_to-requires c =
    let before : Contents = record { heap = heap_of c.self.inside.cells; used = c.self.inside.used; budget = c.self.inside.budget } in
    let after : Contents = record { heap = heap_of c.unify.new.cells; used = c.self.inside.used; budget = c.self.inside.budget } in
    (subst (λ s. Adds s after) c.self.view_is (adds_grown before after c.unify.ensures.grown refl refl)).marks c.mark-mark.result c.mark-mark.ensures.mark

pub undo_to-requires-in-Err : goal.undo_to-requires-in-Err
undo_to-requires-in-Err c =
    let before : Contents = record { heap = heap_of c.self.inside.cells; used = c.self.inside.used; budget = c.self.inside.budget } in
    let after : Contents = record { heap = heap_of c.unify.new.cells; used = c.self.inside.used; budget = c.self.inside.budget } in
    (subst (λ s. Adds s after) c.self.view_is (adds_grown before after c.unify.ensures.grown refl refl)).marks c.mark-mark.result c.mark-mark.ensures.mark
