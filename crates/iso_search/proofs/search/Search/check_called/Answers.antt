use Rattle.std.proofs.Common.{refl, ◌∙◌}
use Rattle.term_store.specs.Heap.{atom_name}
use Rattle.term_store.specs.Contents.{arguments_at}
use Rattle.iso_search.proofs.Calling.{callable_atom, callable_term, refused_integer, refused_variable}
use Rattle.iso_search.proofs.Converting.{grows_none}
use Rattle.iso_search.proofs.search.Search.check_called.Goals as goal

pub returns-in-Variable-clause-grows : goal.returns-in-Variable-clause-grows
returns-in-Variable-clause-grows c = grows_none c.args.self.now.store c.args.self.now.store refl

pub returns-in-Integer-clause-grows : goal.returns-in-Integer-clause-grows
returns-in-Integer-clause-grows c = grows_none c.args.self.now.store c.args.self.now.store refl

pub returns-in-Variable-clause-checked : goal.returns-in-Variable-clause-checked
returns-in-Variable-clause-checked c v view = refused_variable v c.args.self.now.store c.args.argument c.in-Variable.field-0 c.in-Variable.ensures

pub returns-in-Integer-clause-checked : goal.returns-in-Integer-clause-checked
returns-in-Integer-clause-checked c v view = refused_integer v c.args.self.now.store c.args.argument c.in-Integer.field-0 c.in-Integer.ensures

pub returns-in_ok-checked-in-Atom-clause-checked : goal.returns-in_ok-checked-in-Atom-clause-checked
returns-in_ok-checked-in-Atom-clause-checked c v view =
    c.in_ok-checked-in-Atom.ensures.checked v view
    ∙ callable_atom v c.args.self.now.store c.args.argument (atom_name c.in-Atom.field-0) c.in-Atom.ensures

pub returns-in_ok-checked-in-Compound-clause-checked : goal.returns-in_ok-checked-in-Compound-clause-checked
returns-in_ok-checked-in-Compound-clause-checked c v view =
    c.in_ok-checked-in-Compound.ensures.checked v view
    ∙ callable_term v c.args.self.now.store c.args.argument (atom_name c.in-Compound.field-0) (arguments_at c.args.self.now.store c.in-Compound.field-1) c.in-Compound.ensures.0
