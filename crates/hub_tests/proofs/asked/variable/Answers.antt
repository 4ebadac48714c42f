use Rattle.std.proofs.Common.{refl}
use Rattle.pl_term.specs.Tree.{var}
use Rattle.hub_tests.proofs.asked.variable.Goals as goal

pub from_nodes-requires : goal.from_nodes-requires
from_nodes-requires c = (var 0, refl)
