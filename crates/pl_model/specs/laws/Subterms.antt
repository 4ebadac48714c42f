-- Terms within the list of another term's nodes in prefix order.
use Rattle.std.specs.Prelude.{◌≡◌, ℕ, List, ◌++◌}
use Rattle.pl_term.specs.declared.node.Node.{Node}
use Rattle.pl_term.specs.declared.node.Node.TheVariants.{Var, Int, Atom, Comp}
use Rattle.pl_term.specs.Tree.{Tree}
use Rattle.pl_term.specs.Nodes.{nodes}

-- The list begins with the nodes of a whole term.
pub record StartsTerm (ns : List Node) : Type 0 where
  pub term : Tree
  pub rest : List Node
  pub parts : ns ≡ nodes term ++ rest

-- The number of terms that belong to a node as its arguments.
abbrev pub arity_of : Node → ℕ
arity_of (Var x) = 0
arity_of (Int i) = 0
arity_of (Atom a) = 0
arity_of (Comp f k) = k
