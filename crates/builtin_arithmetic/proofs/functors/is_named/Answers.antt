use Rattle.builtin_arithmetic.proofs.Names.{spelled}
use Rattle.builtin_arithmetic.proofs.functors.is_named.Goals as goal

pub returns : goal.returns
returns c = spelled _ _ _ c.utf8.text c.requires c.is.ensures
