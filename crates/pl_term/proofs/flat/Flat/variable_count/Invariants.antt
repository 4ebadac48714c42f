use Rattle.std.proofs.Common.{◌≡◌, length, take}
use Rattle.pl_term.proofs.NodeLemmas.{met}
use Rattle.pl_term.proofs.flat.Flat.variable_count.Given as goal

abbrev pub invariant-loop-i : goal.invariant-loop-i
invariant-loop-i l = l.count ≡ length (met (take l.i l.nodes))
