-- A term whose nodes are written one after the other.
use Rattle.std.specs.Prelude.{◌≡◌, ℕ, List, drop}
use Rattle.pl_term.specs.Nodes.{nodes, nodes_all}
use Rattle.pl_term.specs.Tree.{Tree, Trees, count, more, none}
use Rattle.term_writer.specs.declared.writing.Writing.{Writing}
use Rattle.term_writer.specs.Writings.{finished, wants}

-- So many nodes of the term have come; those that are left are the nodes of the terms that are wanted.
pub record IsWrittenTo (t : Tree) (begun : Writing) (i : ℕ) (w : Writing) : Type 0 where
  pub ahead : Trees
  pub left : nodes_all ahead ≡ drop i (nodes t)
  pub wanted : wants w ≡ count ahead
  pub same : finished w ahead ≡ finished begun (more t none)
