use Rattle.std.proofs.Common.{◌≡◌, take}
use Rattle.pl_term.proofs.NodeLemmas.{met}
use Rattle.pl_term.proofs.flat.Flat.variables.Given as goal

abbrev pub invariant-loop-n : goal.invariant-loop-n
invariant-loop-n l = l.met ≡ met (take l.n-index l.n-items)
