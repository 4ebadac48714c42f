use Rattle.std.proofs.Common.{◌≡◌, ◌++◌, take}
use Rattle.pl_term.proofs.flat.append.Given as goal

abbrev pub invariant-loop-n : goal.invariant-loop-n
invariant-loop-n l = l.all.items ≡ l.fn.all.items ++ take l.n-index l.more
