use Rattle.std.proofs.Common.{◌≡◌, take}
use Rattle.pl_term.specs.NodeLists.{cells_of}
use Rattle.pl_term.proofs.flat.Flat.cells.Given as goal

abbrev pub invariant-loop-i : goal.invariant-loop-i
invariant-loop-i l = l.sum ≡ cells_of (take l.i l.nodes)
