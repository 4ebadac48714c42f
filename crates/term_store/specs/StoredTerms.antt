-- Terms outside of a store.
use Rattle.std.specs.Prelude.{◌≡◌, ℕ, zero, List, length}
use Rattle.std.specs.List.{All}
use Rattle.pl_term.specs.Cells.{cells}
use Rattle.pl_term.specs.Nodes.{nodes, tree}
use Rattle.pl_term.specs.Variables.{rename, variables}
use Rattle.term_store.specs.declared.nodes.AtomNode.{AtomNode}
use Rattle.term_store.specs.Nodes.{IsNodeBelow, node_views}

-- The nodes spell a term whose variables are numbered from 0 on, and the counts are its numbers of variables and cells.
pub record IsStored (ns : List AtomNode) (count sum : ℕ) : Type 0 where
  pub spelled : nodes (tree (node_views ns)) ≡ node_views ns
  pub numbered : rename zero (tree (node_views ns)) ≡ tree (node_views ns)
  pub below : All (IsNodeBelow count) ns
  pub variables_are : count ≡ length (variables (tree (node_views ns)))
  pub cells_are : sum ≡ cells (tree (node_views ns))
