use Rattle.std.proofs.Common.{ap, subst}
use Rattle.term_store.specs.Cells.{IsFree, heap_of}
use Rattle.term_store.proofs.Occurring.{comp_inside}
use Rattle.term_store.proofs.Totals.{var_counted, int_counted, atom_counted, comp_counted}
use Rattle.term_store.proofs.count.open.Goals as goal

pub returns-in-Var-clause-counted : goal.returns-in-Var-clause-counted
returns-in-Var-clause-counted c =
    let h = heap_of c.args.cells.now in
    var_counted h c.in-Var.field-0 c.args.at c.args.walk.now.items c.requires.fit.fit c.requires.inside c.in-Var.is (subst (IsFree h) c.in-Var.is c.requires.free)

pub returns-in-Int-clause-counted : goal.returns-in-Int-clause-counted
returns-in-Int-clause-counted c = int_counted (heap_of c.args.cells.now) c.in-Int.field-0 c.args.at c.args.walk.now.items c.in-Int.is

pub returns-in-Atom-clause-counted : goal.returns-in-Atom-clause-counted
returns-in-Atom-clause-counted c = atom_counted (heap_of c.args.cells.now) c.in-Atom.field-0 c.args.at c.args.walk.now.items c.in-Atom.is

pub returns-in_ok-push_words-in-Comp-clause-words : goal.returns-in_ok-push_words-in-Comp-clause-words
returns-in_ok-push_words-in-Comp-clause-words c =
    comp_inside (heap_of c.args.cells.now) c.in-Comp.k c.args.at c.args.walk.now.items c.push_words.new.walk.items c.requires.fit.fit c.requires.inside c.in-Comp.is
    c.requires.words c.in_ok-push_words-in-Comp.ensures

pub returns-in_ok-push_words-in-Comp-clause-counted : goal.returns-in_ok-push_words-in-Comp-clause-counted
returns-in_ok-push_words-in-Comp-clause-counted c =
    comp_counted (heap_of c.args.cells.now) c.in-Comp.k c.head_at.result.count c.args.at c.args.walk.now.items c.push_words.new.walk.items c.requires.fit.fit
    c.requires.inside c.in-Comp.is (ap (λ g. g.count) c.head_at.ensures) c.in_ok-push_words-in-Comp.ensures
