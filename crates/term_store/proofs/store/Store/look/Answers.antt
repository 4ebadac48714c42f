use Rattle.std.proofs.Common.{◌≡◌, sym, ap, ◌∙◌, rules}
use Rattle.std.proofs.lemmas.Int.{to_z-of_z}
use Rattle.std.proofs.lemmas.List.{get_or_read}
use mir.Val.{of_z, to_z}
use mir.Syntax.{w64}
use Rattle.pl_term.specs.Tree.{int}
use Rattle.term_store.specs.Cells.{heap_of}
use Rattle.term_store.specs.Contents.{Contents}
use Rattle.term_store.proofs.Looking.{atom_seen, compound_at, integer_seen, variable_seen}
use Rattle.term_store.proofs.store.Store.look.Goals as goal

pub returns-in-Var : goal.returns-in-Var
returns-in-Var c =
    let before : Contents = record { heap = heap_of c.self.inside.cells; used = c.self.inside.used; budget = c.self.inside.budget } in
    variable_seen c.args.self.now before c.args.place c.self.view_is c.in-Var.slot c.index.result.now c.self.invariant.0.fit c.in-Var.ensures.means
    c.in-Var.ensures.inside c.in-Var.ensures.free
    (get_or_read before.heap.numbers c.in-Var.slot c.index.result.now c.in-Var.ensures.inside c.index.ensures 0)

pub returns-in-Int : goal.returns-in-Int
returns-in-Int c =
    let before : Contents = record { heap = heap_of c.self.inside.cells; used = c.self.inside.used; budget = c.self.inside.budget } in
    let same : to_z w64 (of_z w64 c.in-Int.i) ≡ c.in-Int.i = search (rules, to_z-of_z) in
    integer_seen c.args.self.now before c.args.place c.self.view_is c.in-Int.i c.in-Int.ensures.means ∙ ap int (sym same)

pub returns-in-Atom : goal.returns-in-Atom
returns-in-Atom c =
    let before : Contents = record { heap = heap_of c.self.inside.cells; used = c.self.inside.used; budget = c.self.inside.budget } in
    atom_seen c.args.self.now before c.args.place c.self.view_is c.in-Atom.a c.at.result c.in-Atom.ensures.means c.at.ensures

pub returns-in-Comp : goal.returns-in-Comp
returns-in-Comp c =
    let before : Contents = record { heap = heap_of c.self.inside.cells; used = c.self.inside.used; budget = c.self.inside.budget } in
    compound_at c.args.self.now before c.args.place c.self.view_is c.in-Comp.k c.at-in-Comp.result c.head_at-head.result c.self.invariant.0.fit
    c.in-Comp.ensures.means c.in-Comp.ensures.inside c.head_at-head.ensures c.at-in-Comp.ensures
