use Rattle.pl_consult.proofs.Names.{named}
use Rattle.pl_consult.proofs.bodies.is_named.Goals as goal

pub returns : goal.returns
returns c = named _ _ _ c.utf8.text c.requires c.is.ensures
