use Rattle.std.proofs.Common.{◌+◌, ◌<◌, refl, sym, subst, arith}
use Rattle.std.proofs.lemmas.List.Elements.{All-weaker}
use Rattle.term_store.specs.Cells.{heap_of}
use Rattle.term_store.specs.Contents.{Adds, Contents, IsAbove}
use Rattle.term_store.specs.Entering.{BlockEntered, BodyEntered}
use Rattle.term_store.proofs.Extending.{adds_extends, mark_extends, undone_extends}
use Rattle.term_store.proofs.Heading.{clause_refused}
use Rattle.term_store.proofs.Storing.{adds_none}
use Rattle.term_store.proofs.store.Store.enter_kept.Goals as goal

pub undo_to-requires : goal.undo_to-requires
undo_to-requires c =
    let before : Contents = record { heap = heap_of c.self.inside.cells; used = c.self.inside.used; budget = c.self.inside.budget } in
    let after : Contents = record { heap = heap_of c.enter_block.new.cells; used = c.self.inside.used; budget = c.self.inside.budget } in
    mark_extends c.args.self.now before after c.mark-mark.result c.self.view_is c.enter_block.ensures.extends refl c.mark-mark.ensures.mark

pub undo_to-requires-in-Err : goal.undo_to-requires-in-Err
undo_to-requires-in-Err c =
    let before : Contents = record { heap = heap_of c.self.inside.cells; used = c.self.inside.used; budget = c.self.inside.budget } in
    let after : Contents = record { heap = heap_of c.enter_block.new.cells; used = c.self.inside.used; budget = c.self.inside.budget } in
    mark_extends c.args.self.now before after c.mark-mark.result c.self.view_is c.enter_block.ensures.extends refl c.mark-mark.ensures.mark

pub returns-in-Ok-Some-clause-adds : goal.returns-in-Ok-Some-clause-adds
returns-in-Ok-Some-clause-adds c =
    let before : Contents = record { heap = heap_of c.self.inside.cells; used = c.self.inside.used; budget = c.self.inside.budget } in
    let after : Contents = record { heap = heap_of c.enter_block.new.cells; used = c.self.inside.used; budget = c.self.inside.budget } in
    let body : BodyEntered c.args.block.now before.heap c.args.from c.args.goal.word c.in-Ok-Some.word after.heap =
    subst (λ r. BlockEntered c.args.block.now before.heap c.args.from c.args.goal.word r after.heap) c.in-Ok-Some.field-0-is c.in-Ok-Some.ensures.entered in
    subst (λ s. Adds s after) c.self.view_is (adds_extends before after c.enter_block.ensures.extends body.inside refl refl)

pub returns-in-Ok-None-clause-entered : goal.returns-in-Ok-None-clause-entered
returns-in-Ok-None-clause-entered c =
    let before : Contents = record { heap = heap_of c.self.inside.cells; used = c.self.inside.used; budget = c.self.inside.budget } in
    let after : Contents = record { heap = heap_of c.enter_block.new.cells; used = c.self.inside.used; budget = c.self.inside.budget } in
    clause_refused c.args.block.now c.args.self.now before c.undo_to.new.self c.args.goal c.args.from c.self.view_is
    (subst (λ r. BlockEntered c.args.block.now before.heap c.args.from c.args.goal.word r after.heap) c.in-Ok-None.field-0-is c.in-Ok-None.ensures.entered)
    (undone_extends c.args.self.now before after c.undo_to.new.self c.mark-mark.result c.self.view_is c.enter_block.ensures.extends refl c.undo_to.ensures.back
    c.mark-mark.ensures.mark c.mark-mark.ensures.here)

pub returns-in-Ok-None-clause-adds : goal.returns-in-Ok-None-clause-adds
returns-in-Ok-None-clause-adds c =
    let before : Contents = record { heap = heap_of c.self.inside.cells; used = c.self.inside.used; budget = c.self.inside.budget } in
    let after : Contents = record { heap = heap_of c.enter_block.new.cells; used = c.self.inside.used; budget = c.self.inside.budget } in
    adds_none c.args.self.now c.undo_to.new.self
    (undone_extends c.args.self.now before after c.undo_to.new.self c.mark-mark.result c.self.view_is c.enter_block.ensures.extends refl c.undo_to.ensures.back
    c.mark-mark.ensures.mark c.mark-mark.ensures.here)

pub returns-in-Ok-None-clause-above : goal.returns-in-Ok-None-clause-above
returns-in-Ok-None-clause-above c =
    let before : Contents = record { heap = heap_of c.self.inside.cells; used = c.self.inside.used; budget = c.self.inside.budget } in
    let after : Contents = record { heap = heap_of c.enter_block.new.cells; used = c.self.inside.used; budget = c.self.inside.budget } in
    subst (λ s. IsAbove (c.args.from + c.args.block.now.variables) s)
    (sym (undone_extends c.args.self.now before after c.undo_to.new.self c.mark-mark.result c.self.view_is c.enter_block.ensures.extends refl c.undo_to.ensures.back
    c.mark-mark.ensures.mark c.mark-mark.ensures.here))
    (All-weaker (λ m. m < c.args.from) (λ m. m < c.args.from + c.args.block.now.variables) (λ m lt. omega arith) c.args.self.now.heap.numbers c.requires.above)

pub returns-in-Err-clause-adds : goal.returns-in-Err-clause-adds
returns-in-Err-clause-adds c =
    let before : Contents = record { heap = heap_of c.self.inside.cells; used = c.self.inside.used; budget = c.self.inside.budget } in
    let after : Contents = record { heap = heap_of c.enter_block.new.cells; used = c.self.inside.used; budget = c.self.inside.budget } in
    adds_none c.args.self.now c.undo_to-in-Err.new.self
    (undone_extends c.args.self.now before after c.undo_to-in-Err.new.self c.mark-mark.result c.self.view_is c.enter_block.ensures.extends refl c.undo_to-in-Err.ensures.back
    c.mark-mark.ensures.mark c.mark-mark.ensures.here)

pub returns-in-Err-clause-kept : goal.returns-in-Err-clause-kept
returns-in-Err-clause-kept c =
    let before : Contents = record { heap = heap_of c.self.inside.cells; used = c.self.inside.used; budget = c.self.inside.budget } in
    let after : Contents = record { heap = heap_of c.enter_block.new.cells; used = c.self.inside.used; budget = c.self.inside.budget } in
    undone_extends c.args.self.now before after c.undo_to-in-Err.new.self c.mark-mark.result c.self.view_is c.enter_block.ensures.extends refl c.undo_to-in-Err.ensures.back
    c.mark-mark.ensures.mark c.mark-mark.ensures.here
