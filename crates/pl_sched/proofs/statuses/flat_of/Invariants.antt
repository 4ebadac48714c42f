use Rattle.std.proofs.Common.{◌≡◌, take}
use Rattle.pl_term.specs.Nodes.{nodes}
use Rattle.pl_sched.proofs.statuses.flat_of.Given as goal

abbrev pub invariant-loop-at : goal.invariant-loop-at
invariant-loop-at l = l.all.items ≡ take l.at (nodes l.term)
