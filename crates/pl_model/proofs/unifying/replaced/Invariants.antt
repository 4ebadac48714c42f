use Rattle.std.proofs.Common.{◌≡◌, take}
use Rattle.pl_model.specs.laws.UnifySides.{put_in}
use Rattle.pl_model.proofs.unifying.replaced.Given as goal

abbrev pub invariant-loop-node : goal.invariant-loop-node
invariant-loop-node l = l.put.items ≡ put_in l.variable l.value (take l.node-index l.all)
