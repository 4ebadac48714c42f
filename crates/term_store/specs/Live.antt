-- The atoms that terms name, and lists that gather them.
use Rattle.std.specs.Prelude.{◌≡◌, ℕ, ◌⊎◌, List, [], ◌∷◌, ◌++◌, flat_map}
use Rattle.std.specs.List.{All, Contains}
use Rattle.pl_term.specs.Tree.{Chars}
use Rattle.term_store.specs.declared.words.Word.{Word}
use Rattle.term_store.specs.declared.words.Word.TheVariants.{Var, Int, Atom, Comp}
use Rattle.term_store.specs.declared.words.Head.{Head}
use Rattle.term_store.specs.declared.words.Place.{Place}
use Rattle.term_store.specs.declared.nodes.AtomNode.{AtomNode}
use Rattle.term_store.specs.declared.nodes.AtomNode.TheVariants as nodes
use Rattle.term_store.specs.Heap.{Heap, atom_name}
use Rattle.term_store.specs.Contents.{Contents}

-- The list has these atoms, what it had before, and nothing else.
pub record Gathers (atoms old new : List ℕ) : Type 0 where
  pub all : (a : ℕ) → Contains atoms a → Contains new a
  pub kept : (a : ℕ) → Contains old a → Contains new a
  pub only : (a : ℕ) → Contains new a → Contains old a ⊎ Contains atoms a

abbrev pub head_atoms : Head → List ℕ
head_atoms g = g.name ∷ []

abbrev pub word_atoms : Word → List ℕ
word_atoms (Var i) = []
word_atoms (Int i) = []
word_atoms (Atom a) = a ∷ []
word_atoms (Comp k) = []

abbrev pub node_atoms : AtomNode → List ℕ
node_atoms (nodes.Var x) = []
node_atoms (nodes.Int i) = []
node_atoms (nodes.Atom a) = a ∷ []
node_atoms (nodes.Comp a k) = a ∷ []

-- The atom that a place itself names, in every store.
abbrev pub place_atoms : Place → List ℕ
place_atoms p = word_atoms p.word

-- The atoms that the cells name: the names of compound terms, their arguments, and what variables are bound to.
abbrev pub heap_atoms : Heap → List ℕ
heap_atoms h = flat_map head_atoms h.heads ++ (flat_map word_atoms h.args ++ flat_map (λ b. word_atoms b.word) h.trail)

abbrev pub cell_atoms : Contents → List ℕ
cell_atoms s = heap_atoms s.heap

-- Two functions spell the atoms alike, and the name that is no atom's.
pub record SpellsAlike (f g : Chars → Chars) (atoms : List ℕ) : Type 0 where
  pub empty : f [] ≡ g []
  pub alike : All (λ a. f (atom_name a) ≡ g (atom_name a)) atoms
