use Rattle.atom_api.proofs.FixedTexts.{fixed_apart, fixed_within}
use Rattle.atom_api.proofs.fixed_table.fixed_atoms_differ.Goals as goal

pub returns : goal.returns
returns c = record { apart = fixed_apart; within = fixed_within }
