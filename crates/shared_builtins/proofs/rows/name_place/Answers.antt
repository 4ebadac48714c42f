use Rattle.shared_builtins.proofs.rows.name_place.Goals as goal

pub returns-in-Alias-clause-inside : goal.returns-in-Alias-clause-inside
returns-in-Alias-clause-inside c s = (c.atom.ensures s).0

pub returns-in-Ok-clause-inside : goal.returns-in-Ok-clause-inside
returns-in-Ok-clause-inside c s = (c.integer.ensures s).0
