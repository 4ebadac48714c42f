-- The parts of a term, and what stands for them in another store.
use Rattle.std.specs.Prelude.{◌≡◌, ◌<◌}
use Rattle.std.specs.List.{All}
use Rattle.pl_term.specs.Tree.{Tree, var, compound}
use Rattle.term_store.specs.declared.words.Place.{Place}
use Rattle.term_store.specs.Heap.{atom_name}
use Rattle.term_store.specs.Contents.{Adds, Contents, Holds, IsArguments, arguments_at, term_at}
use Rattle.iso_search.specs.declared.parts.Compound.{Compound}
use Rattle.iso_search.specs.declared.walk.Step.{Step}
use Rattle.iso_search.specs.declared.walk.Step.TheVariants.{Enter, Leave}
use Rattle.iso_search.specs.declared.transfers.Copies.{Copies}

-- The compound term.
abbrev pub compound_at : Contents → Compound → Tree
compound_at s c = compound (atom_name c.name) (arguments_at s c.arguments)

-- It is one of the store.
pub record IsCompoundIn (s : Contents) (c : Compound) : Type 0 where
  pub inside : IsArguments s c.arguments
  pub some : 0 < c.arguments.count

-- What is to be done is about places and compound terms of the store.
abbrev pub IsStepIn : Contents → Step → Type 0
IsStepIn s (Enter p) = Holds s p
IsStepIn s (Leave c) = IsCompoundIn s c

-- The term stands at the place of the store.
pub record StandsFor (s : Contents) (term : Tree) (p : Place) : Type 0 where
  pub holds : Holds s p
  pub means : term_at s p ≡ term

-- Each variable and each compound term stands where it is said to stand.
pub record AreCopies (s t : Contents) (c : Copies) : Type 0 where
  pub variables : All (λ v. StandsFor t (var v.number) v.place) c.variables.items
  pub compounds : All (λ k. StandsFor t (compound_at s k.compound) k.place) c.compounds.items

-- The store has gained variables and compound terms alone, whose cells are not counted.
pub record Grows (s t : Contents) : Type 0 where
  pub others : (q : Place) → Holds s q → term_at t q ≡ term_at s q
  pub used : t.used ≡ s.used
  pub budget : t.budget ≡ s.budget
  pub adds : Adds s t
