use Rattle.std.proofs.Common.{◌≡◌, map, take}
use Rattle.pl_term.specs.Variables.{place}
use Rattle.pl_term.specs.NodeLists.{rename_node}
use Rattle.pl_term.proofs.NodeLemmas.{met}
use Rattle.pl_term.proofs.flat.Flat.variant.Given as goal

abbrev pub invariant-loop-i : goal.invariant-loop-i
invariant-loop-i l =
    (l.here ≡ met (take l.i l.left))
    × (l.there ≡ met (take l.i l.right))
    × (map (rename_node (λ x. place x (met l.left))) (take l.i l.left)
    ≡ map (rename_node (λ x. place x (met l.right))) (take l.i l.right))
