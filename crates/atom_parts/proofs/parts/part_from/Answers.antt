use Rattle.atom_parts.proofs.PartLaws.{no_part}
use Rattle.atom_parts.proofs.parts.part_from.Goals as goal

pub returns-in-None-clause-next : goal.returns-in-None-clause-next
returns-in-None-clause-next c = no_part c.args.text.now c.args.parts c.requires.within c.args.line c.in-None.ensures
