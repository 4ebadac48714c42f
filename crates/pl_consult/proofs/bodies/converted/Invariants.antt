use Rattle.std.proofs.Common.{drop}
use Rattle.pl_consult.proofs.BodiesConverted.{Converting}
use Rattle.pl_consult.proofs.bodies.converted.Given as goal

abbrev pub invariant-loop-node : goal.invariant-loop-node
invariant-loop-node l = Converting l.body l.all.items (drop l.node-index l.node-items) l.goals l.terms
