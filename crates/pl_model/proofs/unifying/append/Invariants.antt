use Rattle.std.proofs.Common.{◌≡◌, ◌++◌, take}
use Rattle.pl_model.proofs.unifying.append.Given as goal

abbrev pub invariant-loop-node : goal.invariant-loop-node
invariant-loop-node l = l.all.items ≡ l.initial.all.items ++ take l.node-index l.more
