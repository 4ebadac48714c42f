use Rattle.std.proofs.Common.{◌≡◌, drop}
use Rattle.std.specs.Cmp.Lexicographic.{slice_cmp}
use Rattle.pl_term.specs.NodeLists.{node_order}
use Rattle.pl_term.proofs.order.compare_nodes.Given as goal

abbrev pub invariant-loop-i : goal.invariant-loop-i
invariant-loop-i l = slice_cmp node_order l.left l.right ≡ slice_cmp node_order (drop l.i l.left) (drop l.i l.right)
