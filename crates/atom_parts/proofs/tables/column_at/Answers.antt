use Rattle.std.proofs.lemmas.List.{get_or_default}
use Rattle.atom_parts.proofs.tables.column_at.Goals as goal

pub returns : goal.returns
returns c d = get_or_default c.args.columns.now c.args.i d _ c.requires
