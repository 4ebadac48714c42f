use Rattle.std.proofs.Common.{arith}
use Rattle.pl_consult.proofs.BodiesNodes.{variables-few}
use Rattle.pl_consult.proofs.bodies.bounded_variables.Goals as goal

pub returns : goal.returns
returns c = omega (arith, variables-few c.args.t.now c.nodes.result.now c.nodes.ensures)
