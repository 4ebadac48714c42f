use Rattle.std.proofs.Common.{subst}
use Rattle.term_store.specs.Cells.{IsFree, heap_of}
use Rattle.term_store.proofs.Sizing.{atom_size, int_size, var_size}
use Rattle.term_store.proofs.size.size_of.Goals as goal

pub returns-in-Var : goal.returns-in-Var
returns-in-Var c =
    let h = heap_of c.args.cells.now in
    var_size h c.in-Var.field-0 c.args.at c.requires.fit.fit c.requires.inside c.in-Var.is (subst (IsFree h) c.in-Var.is c.requires.free)

pub returns-in-Int : goal.returns-in-Int
returns-in-Int c = int_size (heap_of c.args.cells.now) c.in-Int.field-0 c.args.at c.in-Int.is

pub returns-in-Atom : goal.returns-in-Atom
returns-in-Atom c = atom_size (heap_of c.args.cells.now) c.in-Atom.field-0 c.args.at c.in-Atom.is
