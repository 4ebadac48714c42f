use Rattle.builtin_arithmetic.proofs.Opening.{at_atom, at_variable}
use Rattle.builtin_arithmetic.proofs.evaluation.visit.Goals as goal

pub returns-in-Variable : goal.returns-in-Variable
returns-in-Variable c = at_variable c.args.store.now c.args.place c.in-Variable.field-0 c.in-Variable.ensures

pub returns-in-Atom : goal.returns-in-Atom
returns-in-Atom c = at_atom c.args.store.now c.args.place c.in-Atom.name c.in-Atom.ensures
