-- The nodes of a term of a store, as they are taken one after the other.
use Rattle.std.specs.Prelude.{◌≡◌, ◌++◌, length}
use Rattle.std.specs.List.{All}
use Rattle.pl_term.specs.Nodes.{nodes, nodes_all}
use Rattle.pl_term.specs.Tree.{Tree}
use Rattle.atom_api.specs.Names.{Names}
use Rattle.term_store.specs.Contents.{Contents}
use Rattle.named_terms.specs.NamedNodes.{IsNodeNamed, nodes_by}
use Rattle.world_builtins.specs.declared.naming.Taking.{Taking}
use Rattle.world_builtins.specs.Following.{AreReadable, terms_ahead}
use Rattle.world_builtins.specs.NamesMet.{Tells}

-- The nodes that were taken, and then those of the terms at the places that are still to come, are those of the term.
pub record IsTaken (m : Names) (s : Contents) (t : Tree) (k : Taking) : Type 0 where
  pub readable : AreReadable m s k.places.items
  pub tells : Tells m k.met.slots.items k.met.names.items
  pub named : All (IsNodeNamed (length k.met.names.items)) k.nodes.items
  pub taken : nodes_by k.met.names.items k.nodes.items ++ nodes_all (terms_ahead m s k.places.items) ≡ nodes t
