use Rattle.std.proofs.Common.{◌++◌, ◌∷◌, [], sym, ap, subst, ◌∙◌, ◌||◌, inl, inr, refl}
use Rattle.pl_term.specs.Variables.{has}
use Rattle.term_store.specs.Cells.{IsFree, heap_of}
use Rattle.term_store.specs.Heap.{meaning, numbered}
use Rattle.term_store.specs.Unifying.{any_has}
use Rattle.term_store.specs.Visits.{SeenClear}
use Rattle.term_store.proofs.Apartness.{var_same, int_same, atom_same}
use Rattle.term_store.proofs.Occurring.{var_found, int_found, atom_found}
use Rattle.term_store.proofs.Visiting.{var_clear, int_clear, atom_clear}
use Rattle.term_store.proofs.occurs.is_here.Goals as goal

pub returns-in-Var-clause-found : goal.returns-in-Var-clause-found
returns-in-Var-clause-found c =
    let h = heap_of c.args.cells.now in
    var_found h c.in-Var.i c.args.slot c.args.at c.args.walk.now.words.items c.requires.fit.fit c.requires.inside c.in-Var.is c.requires.slot
    (subst (IsFree h) c.in-Var.is c.requires.free)

pub returns-in-Int-clause-found : goal.returns-in-Int-clause-found
returns-in-Int-clause-found c =
    let h = heap_of c.args.cells.now in
    int_found h (numbered h c.args.slot) c.args.at c.args.walk.now.words.items c.in-Int.field-0 c.in-Int.is

pub returns-in-Atom-clause-found : goal.returns-in-Atom-clause-found
returns-in-Atom-clause-found c =
    let h = heap_of c.args.cells.now in
    atom_found h (numbered h c.args.slot) c.args.at c.args.walk.now.words.items c.in-Atom.field-0 c.in-Atom.is

pub returns-in_ok-come_by-in-Comp-clause-found : goal.returns-in_ok-come_by-in-Comp-clause-found
returns-in_ok-come_by-in-Comp-clause-found c =
    let h = heap_of c.args.cells.now in
    let x = numbered h c.args.slot in
    let ws = c.args.walk.now.words.items in
    let clear = subst (λ w. SeenClear c.args.top.now c.args.slot h (ws ++ w ∷ []) c.args.walk.now.seen.list.items) c.in-Comp.is c.requires.seen in
    c.in_ok-come_by-in-Comp.ensures.found x (clear c.args.slot c.requires.slot (inl refl))
    ∙ ap (λ w. any_has x h ws || has x (meaning h w)) (sym c.in-Comp.is)

pub returns-in-Var-clause-above : goal.returns-in-Var-clause-above
returns-in-Var-clause-above c =
    let h = heap_of c.args.cells.now in
    var_same h c.raised.result c.in-Var.i c.args.at c.args.walk.now.words.items c.requires.fit.fit c.requires.inside c.in-Var.is
    (subst (IsFree h) c.in-Var.is c.requires.free) c.raised.ensures.above

pub returns-in-Int-clause-above : goal.returns-in-Int-clause-above
returns-in-Int-clause-above c =
    int_same (heap_of c.args.cells.now) c.args.top.now c.args.at c.args.walk.now.words.items c.in-Int.field-0 c.in-Int.is

pub returns-in-Atom-clause-above : goal.returns-in-Atom-clause-above
returns-in-Atom-clause-above c =
    atom_same (heap_of c.args.cells.now) c.args.top.now c.args.at c.args.walk.now.words.items c.in-Atom.field-0 c.in-Atom.is

pub returns-in_ok-come_by-in-Comp-clause-above : goal.returns-in_ok-come_by-in-Comp-clause-above
returns-in_ok-come_by-in-Comp-clause-above c i above below =
    let h = heap_of c.args.cells.now in
    let x = numbered h i in
    let ws = c.args.walk.now.words.items in
    let clear = subst (λ w. SeenClear c.args.top.now c.args.slot h (ws ++ w ∷ []) c.args.walk.now.seen.list.items) c.in-Comp.is c.requires.seen in
    c.in_ok-come_by-in-Comp.ensures.found x (clear i below (inr above))
    ∙ ap (λ w. any_has x h ws || has x (meaning h w)) (sym c.in-Comp.is)

pub returns-in-Var-clause-seen : goal.returns-in-Var-clause-seen
returns-in-Var-clause-seen c other =
    let h = heap_of c.args.cells.now in
    var_clear h c.args.top.now c.raised.result c.args.slot c.in-Var.i c.args.at c.args.walk.now.words.items c.args.walk.now.seen.list.items c.requires.fit.fit
    c.requires.inside c.in-Var.is (subst (IsFree h) c.in-Var.is c.requires.free) c.requires.slot other c.raised.ensures.raised c.raised.ensures.above c.requires.seen

pub returns-in-Int-clause-seen : goal.returns-in-Int-clause-seen
returns-in-Int-clause-seen c _ =
    int_clear (heap_of c.args.cells.now) c.args.top.now c.args.slot c.in-Int.field-0 c.args.at c.args.walk.now.words.items c.args.walk.now.seen.list.items
    c.in-Int.is c.requires.seen

pub returns-in-Atom-clause-seen : goal.returns-in-Atom-clause-seen
returns-in-Atom-clause-seen c _ =
    atom_clear (heap_of c.args.cells.now) c.args.top.now c.args.slot c.in-Atom.field-0 c.args.at c.args.walk.now.words.items c.args.walk.now.seen.list.items
    c.in-Atom.is c.requires.seen

pub returns-in_ok-come_by-in-Comp-clause-seen : goal.returns-in_ok-come_by-in-Comp-clause-seen
returns-in_ok-come_by-in-Comp-clause-seen c _ i below which =
    let h = heap_of c.args.cells.now in
    let ws = c.args.walk.now.words.items in
    let clear = subst (λ w. SeenClear c.args.top.now c.args.slot h (ws ++ w ∷ []) c.args.walk.now.seen.list.items) c.in-Comp.is c.requires.seen in
    c.in_ok-come_by-in-Comp.ensures.seen (numbered h i) (clear i below which)
