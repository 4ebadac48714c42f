-- The terms at the places of a stack, of which one after the other is written.
use Rattle.std.specs.Prelude.{◌≡◌, List, ◌∷◌, ◌++◌, map, reverse}
use Rattle.std.specs.List.{All}
use Rattle.pl_term.specs.declared.node.Node.{Node}
use Rattle.pl_term.specs.Nodes.{nodes, nodes_all}
use Rattle.pl_term.specs.Tree.{Tree, Trees, count, more, none, trees}
use Rattle.atom_api.specs.Names.{Names}
use Rattle.term_store.specs.declared.words.Place.{Place}
use Rattle.term_store.specs.Contents.{Contents, Holds, term_at}
use Rattle.term_writer.specs.declared.writing.Writing.{Writing}
use Rattle.term_writer.specs.Writings.{finished, wants}
use Rattle.world_builtins.specs.Naming.{IsHeldAt, atoms_in}
use Rattle.world_builtins.specs.Spelling.{reads}
use Rattle.std.specs.Prelude.{IsSome}

-- The terms, that of the last place first.
abbrev pub terms_ahead : Names → Contents → List Place → Trees
terms_ahead m s ps = trees (map (reads m s) (reverse ps))

-- The places are of the store, and the atoms of their terms are held.
pub record AreReadable (m : Names) (s : Contents) (ps : List Place) : Type 0 where
  pub inside : All (Holds s) ps
  pub held : All (IsHeldAt m s) ps

-- The node is the first one of the term at a place; the rest of that term, and the terms at the old places, stand at the new ones.
abbrev pub IsFirst : Names → Contents → Place → List Place → Node → List Place → Type 0
IsFirst m s p old n new = nodes (reads m s p) ++ nodes_all (terms_ahead m s old) ≡ n ∷ nodes_all (terms_ahead m s new)

-- Places of these terms were put on the stack, the first term on top.
pub record Precedes (s : Contents) (ts : List Tree) (old new : List Place) : Type 0 where
  pub stand : map (term_at s) (reverse new) ≡ ts ++ map (term_at s) (reverse old)
  pub inside : All (Holds s) old → All (Holds s) new
  pub held : (m : Names) → All (λ t. All (λ a. IsSome (m a)) (atoms_in t)) ts → All (IsHeldAt m s) old → All (IsHeldAt m s) new

-- The terms at the places are those that are still to come of a text that was begun for this term.
pub record IsOn (m : Names) (s : Contents) (t : Tree) (begun : Writing) (ps : List Place) (w : Writing) : Type 0 where
  pub readable : AreReadable m s ps
  pub wanted : wants w ≡ count (terms_ahead m s ps)
  pub same : finished w (terms_ahead m s ps) ≡ finished begun (more t none)
