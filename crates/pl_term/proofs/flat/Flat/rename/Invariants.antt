use Rattle.std.proofs.Common.{◌≡◌, ◌+◌, map, take}
use Rattle.pl_term.specs.Variables.{place}
use Rattle.pl_term.specs.NodeLists.{rename_node}
use Rattle.pl_term.proofs.NodeLemmas.{met}
use Rattle.pl_term.proofs.flat.Flat.rename.Given as goal

abbrev pub invariant-loop-n : goal.invariant-loop-n
invariant-loop-n l =
    (l.met ≡ met (take l.n-index l.n-items))
    × (l.all.items ≡ map (rename_node (λ x. l.from + place x (met l.n-items))) (take l.n-index l.n-items))
