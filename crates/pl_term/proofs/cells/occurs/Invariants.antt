use Rattle.std.proofs.Common.{◌≡◌, drop}
use Rattle.pl_term.specs.Variables.{is_in}
use Rattle.pl_term.specs.NodeLists.{variables_of}
use Rattle.pl_term.proofs.cells.occurs.Given as goal

abbrev pub invariant-loop-n : goal.invariant-loop-n
invariant-loop-n l = is_in l.x (variables_of l.nodes) ≡ is_in l.x (variables_of (drop l.n-index l.nodes))
