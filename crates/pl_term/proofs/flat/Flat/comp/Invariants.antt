use Rattle.std.proofs.Common.{◌≡◌, ◌∷◌, length, take}
use Rattle.pl_term.specs.declared.node.Node.TheVariants.{Comp}
use Rattle.pl_term.specs.Tree.{trees}
use Rattle.pl_term.specs.Nodes.{nodes_all}
use Rattle.pl_term.proofs.flat.Flat.comp.Given as goal

abbrev pub invariant-loop-a : goal.invariant-loop-a
invariant-loop-a l = l.all.items ≡ Comp l.fn.name (length l.args) ∷ nodes_all (trees (take l.a-index l.args))
