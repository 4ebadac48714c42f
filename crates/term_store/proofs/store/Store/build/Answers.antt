use Rattle.std.proofs.Common.{length, refl, sym, subst}
use Rattle.std.specs.List.{All}
use Rattle.pl_term.specs.Variables.{variables}
use Rattle.term_store.specs.Cells.{heap_of}
use Rattle.term_store.specs.Contents.{Contents, IsAbove}
use Rattle.term_store.specs.Nodes.{IsNodeBelow}
use Rattle.term_store.proofs.Storing.{above_of, adds_none, adds_of, builds_of, undone_longer}
use Rattle.term_store.proofs.store.Store.build.Goals as goal

pub load-requires-clause-spelled : goal.load-requires-clause-spelled
load-requires-clause-spelled c = (c.args.term.now, c.nodes.ensures.spelled)

pub load-requires-clause-below : goal.load-requires-clause-below
load-requires-clause-below c = subst (λ n. All (IsNodeBelow n) c.nodes.result.now) (sym c.variables.ensures) c.nodes.ensures.below

pub load-requires-clause-above : goal.load-requires-clause-above
load-requires-clause-above c = subst (λ v. IsAbove c.args.from v) (sym c.self.view_is) c.requires.above

pub undo_to-requires : goal.undo_to-requires
undo_to-requires c =
    let before : Contents = record { heap = heap_of c.self.inside.cells; used = c.self.inside.used; budget = c.self.inside.budget } in
    let after : Contents = record { heap = heap_of c.load.new.cells; used = c.self.inside.used; budget = c.self.inside.budget } in
    (adds_of c.args.self.now before after c.self.view_is c.load.ensures.longer refl refl).marks c.mark-mark.result c.mark-mark.ensures.mark

pub returns-in-Ok-clause-built : goal.returns-in-Ok-clause-built
returns-in-Ok-clause-built c =
    let before : Contents = record { heap = heap_of c.self.inside.cells; used = c.self.inside.used; budget = c.self.inside.budget } in
    let after : Contents = record { heap = heap_of c.load.new.cells; used = c.self.inside.used; budget = c.self.inside.budget } in
    builds_of c.args.self.now before after c.args.from c.variables.result c.args.term.now c.nodes.result.now _ c.self.view_is refl refl c.nodes.ensures.spelled
    c.nodes.ensures.numbered c.load.ensures.keeps c.in-Ok.ensures.numbers c.variables.ensures c.in-Ok.ensures.loaded

pub returns-in-Ok-clause-adds : goal.returns-in-Ok-clause-adds
returns-in-Ok-clause-adds c =
    let before : Contents = record { heap = heap_of c.self.inside.cells; used = c.self.inside.used; budget = c.self.inside.budget } in
    let after : Contents = record { heap = heap_of c.load.new.cells; used = c.self.inside.used; budget = c.self.inside.budget } in
    adds_of c.args.self.now before after c.self.view_is c.load.ensures.longer refl refl

pub returns-in-Ok-clause-above : goal.returns-in-Ok-clause-above
returns-in-Ok-clause-above c =
    let before : Contents = record { heap = heap_of c.self.inside.cells; used = c.self.inside.used; budget = c.self.inside.budget } in
    let after : Contents = record { heap = heap_of c.load.new.cells; used = c.self.inside.used; budget = c.self.inside.budget } in
    above_of c.args.self.now before after c.args.from c.variables.result (length (variables c.args.term.now)) c.self.view_is c.requires.above c.in-Ok.ensures.numbers
    c.variables.ensures

pub returns-in-Err-clause-kept : goal.returns-in-Err-clause-kept
returns-in-Err-clause-kept c =
    let before : Contents = record { heap = heap_of c.self.inside.cells; used = c.self.inside.used; budget = c.self.inside.budget } in
    let after : Contents = record { heap = heap_of c.load.new.cells; used = c.self.inside.used; budget = c.self.inside.budget } in
    undone_longer c.args.self.now before after c.undo_to.new.self c.mark-mark.result c.self.view_is c.load.ensures.longer refl c.undo_to.ensures.back
    c.mark-mark.ensures.mark c.mark-mark.ensures.here

pub returns-in-Err-clause-adds : goal.returns-in-Err-clause-adds
returns-in-Err-clause-adds c =
    let before : Contents = record { heap = heap_of c.self.inside.cells; used = c.self.inside.used; budget = c.self.inside.budget } in
    let after : Contents = record { heap = heap_of c.load.new.cells; used = c.self.inside.used; budget = c.self.inside.budget } in
    adds_none c.args.self.now c.undo_to.new.self
    (undone_longer c.args.self.now before after c.undo_to.new.self c.mark-mark.result c.self.view_is c.load.ensures.longer refl c.undo_to.ensures.back
    c.mark-mark.ensures.mark c.mark-mark.ensures.here)
