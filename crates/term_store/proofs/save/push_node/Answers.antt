use Rattle.std.proofs.Common.{◌≡◌, ◌<◌, length, subst, rules}
use Rattle.std.proofs.lemmas.Int.{to_z-of_z}
use Rattle.std.proofs.lemmas.List.{get_or_read}
use mir.Val.{of_z, to_z}
use mir.Syntax.{w64}
use Rattle.term_store.specs.Cells.{IsFree, heap_of}
use Rattle.term_store.specs.Fit.{IsIn}
use Rattle.term_store.proofs.Loading.{on_ok}
use Rattle.term_store.proofs.Walking.{var_pushed, int_pushed, atom_pushed, comp_pushed, reversed_inside}
use Rattle.term_store.proofs.save.push_node.Goals as goal

pub returns-in-Var-clause-pushed : goal.returns-in-Var-clause-pushed
returns-in-Var-clause-pushed c =
    let h = heap_of c.args.cells.now in
    let inside : c.in-Var.slot < length h.numbers = subst (IsIn h) c.in-Var.is c.requires.inside in
    on_ok c.push_leaf.result c.push_leaf.ensures
    (var_pushed h c.requires.fit.fit c.args.all.now.items c.push_leaf.new.all.items c.args.walk.now.items c.in-Var.slot c.args.at c.index.result.now c.requires.inside
    c.in-Var.is (subst (IsFree h) c.in-Var.is c.requires.free) (get_or_read h.numbers c.in-Var.slot c.index.result.now inside c.index.ensures 0))

pub returns-in-Int-clause-pushed : goal.returns-in-Int-clause-pushed
returns-in-Int-clause-pushed c =
    let h = heap_of c.args.cells.now in
    let same : to_z w64 (of_z w64 c.in-Int.i) ≡ c.in-Int.i = search (rules, to_z-of_z) in
    on_ok c.push_leaf-in-Int.result c.push_leaf-in-Int.ensures
    (int_pushed h c.requires.fit.fit c.args.all.now.items c.push_leaf-in-Int.new.all.items c.args.walk.now.items c.args.at c.in-Int.i
    (to_z w64 (of_z w64 c.in-Int.i)) c.in-Int.is same)

pub returns-in-Atom-clause-pushed : goal.returns-in-Atom-clause-pushed
returns-in-Atom-clause-pushed c =
    let h = heap_of c.args.cells.now in
    on_ok c.push_leaf-in-Atom.result c.push_leaf-in-Atom.ensures
    (atom_pushed h c.requires.fit.fit c.args.all.now.items c.push_leaf-in-Atom.new.all.items c.args.walk.now.items c.args.at c.in-Atom.a c.in-Atom.is)

pub returns-in_ok-push_leaf-in-Comp-clause-words : goal.returns-in_ok-push_leaf-in-Comp-clause-words
returns-in_ok-push_leaf-in-Comp-clause-words c =
    let h = heap_of c.args.cells.now in
    on_ok c.push_reversed.result c.push_reversed.ensures
    (reversed_inside h c.in-Comp.k c.args.at c.head_at-head.result c.args.walk.now.items c.push_reversed.new.walk.items c.requires.fit.fit c.requires.inside c.in-Comp.is
    c.head_at-head.ensures c.requires.words)

pub returns-in_ok-push_leaf-in-Comp-clause-pushed : goal.returns-in_ok-push_leaf-in-Comp-clause-pushed
returns-in_ok-push_leaf-in-Comp-clause-pushed c =
    let h = heap_of c.args.cells.now in
    on_ok c.push_reversed.result c.push_reversed.ensures
    (comp_pushed h c.requires.fit.fit c.args.all.now.items c.push_leaf-in-Comp.new.all.items c.args.walk.now.items c.args.at c.in-Comp.k c.head_at-head.result
    c.push_reversed.new.walk.items c.requires.inside c.in-Comp.is c.head_at-head.ensures c.in_ok-push_leaf-in-Comp.ensures)
