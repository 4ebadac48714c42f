use Rattle.pl_term.proofs.Spelled.{nodes_spelled_some}
use Rattle.pl_term.proofs.flat.Flat.from_nodes.Goals as goal

pub invariant_of-result : goal.invariant_of-result
invariant_of-result c = nodes_spelled_some _ c.requires

pub returns : goal.returns
returns c = nodes_spelled_some _ c.requires
