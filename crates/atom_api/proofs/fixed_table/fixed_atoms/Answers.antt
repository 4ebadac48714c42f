use Rattle.std.proofs.Common.{sym}
use Rattle.atom_api.proofs.FixedTexts.{rows_agree}
use Rattle.atom_api.proofs.fixed_table.fixed_atoms.Goals as goal

pub returns : goal.returns
returns c = rw (sym rows_agree) c.rows_of.ensures
