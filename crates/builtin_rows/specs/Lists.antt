-- Lists in a store.
use Rattle.std.specs.Prelude.{◌≡◌, ℕ, zero, List, [], ◌∷◌, map, Some, IsSome, Result, Ok, Err, codes}
use Rattle.std.specs.List.{All}
use Rattle.pl_term.specs.Tree.{Chars, Tree, atom, comp, more, none}
use Rattle.pl_model.specs.Balls.{instantiation_error, type_error}
use Rattle.pl_model.specs.Checks.{elements_within, with_element}
use Rattle.atom_api.specs.FixedNames.{list_cell_name, nil_name}
use Rattle.atom_api.specs.Names.{Names, FixedStand}
use Rattle.term_store.specs.declared.words.Place.{Place}
use Rattle.term_store.specs.Heap.{atom_name}
use Rattle.term_store.specs.Contents.{Contents, Holds, term_at}
use Rattle.world_builtins.specs.Naming.{IsHeldAt, atoms_in}
use Rattle.world_builtins.specs.Spelling.{reads}
use Rattle.builtin_rows.specs.Rows.{Makes}
use Rattle.builtin_rows.specs.declared.lists.ListEnd.{ListEnd}
use Rattle.builtin_rows.specs.declared.lists.ListEnd.TheVariants.{Closed, Open, Broken}
use Rattle.builtin_rows.specs.declared.lists.ListPart.{ListPart}
use Rattle.builtin_rows.specs.declared.lists.ListPart.TheVariants.{Cell, End}

-- The fixed atoms have their texts, and no other atoms have these.
pub record IsNaming (m : Names) : Type 0 where
  pub stands : FixedStand m
  pub unlike : (a b : ℕ) (t : Chars) → m a ≡ Some t → m b ≡ Some t → a ≡ b

-- How the elements of a list, or the error for what is none, come of the end of the walk.
abbrev pub EndsAs : ListEnd → Tree → List Tree → Result (List Tree) Tree → Type 0
EndsAs Closed whole ts r = r ≡ Ok ts
EndsAs Open whole ts r = r ≡ Err instantiation_error
EndsAs Broken whole ts r = r ≡ Err (type_error (codes "list") whole)

-- The elements with some in front of them, or the error.
abbrev pub with_elements : List Tree → Result (List Tree) Tree → Result (List Tree) Tree
with_elements [] r = r
with_elements (t ∷ ts) r = with_element t (with_elements ts r)

abbrev pub IsPart : Names → Contents → Tree → Result (List Tree) Tree → ListPart → Type 0
IsPart m s whole r (Cell x rest) = r ≡ with_element (reads m s x) (elements_within whole (reads m s rest))
IsPart m s whole r (End e) = EndsAs e whole [] r

abbrev pub IsPartIn : Contents → ListPart → Type 0
IsPartIn s (Cell x rest) = Holds s x × Holds s rest
IsPartIn s (End e) = Unit {0}

abbrev pub IsPartHeld : Names → Contents → ListPart → Type 0
IsPartHeld m s (Cell x rest) = IsHeldAt m s x × IsHeldAt m s rest
IsPartHeld m s (End e) = Unit {0}

-- Each atom that one of the terms names is held.
abbrev pub AreHeld : Names → List Tree → Type 0
AreHeld m ts = All (λ t. All (λ a. IsSome (m a)) (atoms_in t)) ts

-- The list of these terms.
abbrev pub cells_of : List Tree → Tree
cells_of [] = atom (atom_name nil_name)
cells_of (t ∷ ts) = comp (atom_name list_cell_name) t (more (cells_of ts) none)

-- The list of the terms at these places was made.
pub record IsListMade (s : Contents) (xs : List Place) (t : Contents) (p : Place) : Type 0 where
  pub makes : Makes s zero zero zero t
  pub inside : Holds t p
  pub means : term_at t p ≡ cells_of (map (term_at s) xs)
