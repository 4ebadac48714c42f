-- The atoms that a term names.
use Rattle.std.specs.Prelude.{ℕ, zero, List, [], ◌∷◌, ◌++◌, IsSome}
use Rattle.std.specs.List.{All}
use Rattle.pl_term.specs.Tree.{Chars, Tree, Trees, var, int, atom, comp, none, more}
use Rattle.atom_api.specs.Names.{Names}
use Rattle.term_store.specs.declared.words.Place.{Place}
use Rattle.term_store.specs.Contents.{Contents, term_at}

-- The number that stands as a name.
abbrev pub number_of : Chars → ℕ
number_of [] = zero
number_of (a ∷ bs) = a

-- The atoms that a term names, in their order.
abbrev mutual
  pub atoms_in : Tree → List ℕ
  atoms_in (var x) = []
  atoms_in (int i) = []
  atoms_in (atom a) = number_of a ∷ []
  atoms_in (comp f t ts) = number_of f ∷ (atoms_in t ++ atoms_in_all ts)

  pub atoms_in_all : Trees → List ℕ
  atoms_in_all none = []
  atoms_in_all (more t ts) = atoms_in t ++ atoms_in_all ts

-- Each atom that the term at a place names is held.
abbrev pub IsHeldAt : Names → Contents → Place → Type 0
IsHeldAt m s p = All (λ a. IsSome (m a)) (atoms_in (term_at s p))
