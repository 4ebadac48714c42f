use Rattle.atom_table.proofs.Using.{one, lasts}
use Rattle.atom_table.proofs.laws.atoms_are_one.Goals as goal

pub returns-clause-one : goal.returns-clause-one
returns-clause-one c = one c.args.size

pub returns-clause-lasts : goal.returns-clause-lasts
returns-clause-lasts c = lasts c.args.size
