use Rattle.std.proofs.Common.{◌++◌, ◌∷◌, [], ◌||◌, sym, ap, subst, ◌∙◌}
use Rattle.pl_term.specs.Variables.{has}
use Rattle.term_store.specs.Cells.{IsFree, heap_of}
use Rattle.term_store.specs.Grounds.{AreClear}
use Rattle.term_store.specs.Heap.{meaning}
use Rattle.term_store.specs.Unifying.{any_has}
use Rattle.term_store.proofs.Grounding.{atom_gone, int_gone, var_has}
use Rattle.term_store.proofs.Occurring.{atom_found, int_found}
use Rattle.term_store.proofs.ground.is_variable.Goals as goal

pub returns-in-Var-clause-variable : goal.returns-in-Var-clause-variable
returns-in-Var-clause-variable c _ =
    let h = heap_of c.args.cells.now in
    var_has h c.in-Var.field-0 c.args.at c.requires.fit.fit c.requires.inside c.in-Var.is (subst (IsFree h) c.in-Var.is c.requires.free)

pub returns-in-Int-clause-found : goal.returns-in-Int-clause-found
returns-in-Int-clause-found c _ x = int_found (heap_of c.args.cells.now) x c.args.at c.args.walk.now.words.items c.in-Int.field-0 c.in-Int.is

pub returns-in-Atom-clause-found : goal.returns-in-Atom-clause-found
returns-in-Atom-clause-found c _ x = atom_found (heap_of c.args.cells.now) x c.args.at c.args.walk.now.words.items c.in-Atom.field-0 c.in-Atom.is

pub returns-in_ok-come_by-in-Comp-clause-found : goal.returns-in_ok-come_by-in-Comp-clause-found
returns-in_ok-come_by-in-Comp-clause-found c _ x =
    let h = heap_of c.args.cells.now in
    let ws = c.args.walk.now.words.items in
    let clear = subst (λ w. AreClear h (ws ++ w ∷ []) c.args.walk.now.seen.list.items) c.in-Comp.is c.requires.seen in
    c.in_ok-come_by-in-Comp.ensures.found x (clear x) ∙ ap (λ w. any_has x h ws || has x (meaning h w)) (sym c.in-Comp.is)

pub returns-in-Int-clause-seen : goal.returns-in-Int-clause-seen
returns-in-Int-clause-seen c _ =
    int_gone (heap_of c.args.cells.now) c.in-Int.field-0 c.args.at c.args.walk.now.words.items c.args.walk.now.seen.list.items c.in-Int.is c.requires.seen

pub returns-in-Atom-clause-seen : goal.returns-in-Atom-clause-seen
returns-in-Atom-clause-seen c _ =
    atom_gone (heap_of c.args.cells.now) c.in-Atom.field-0 c.args.at c.args.walk.now.words.items c.args.walk.now.seen.list.items c.in-Atom.is c.requires.seen

pub returns-in_ok-come_by-in-Comp-clause-seen : goal.returns-in_ok-come_by-in-Comp-clause-seen
returns-in_ok-come_by-in-Comp-clause-seen c _ x =
    let h = heap_of c.args.cells.now in
    let ws = c.args.walk.now.words.items in
    let clear = subst (λ w. AreClear h (ws ++ w ∷ []) c.args.walk.now.seen.list.items) c.in-Comp.is c.requires.seen in
    c.in_ok-come_by-in-Comp.ensures.seen x (clear x)
