-- What findall/3 has collected. A copy is kept with its variables numbered from 0 on, and the number from which on they are
-- numbered in the copy that it stands for.
use Rattle.std.specs.Prelude.{◌≡◌, ℕ, zero, ◌+◌, ◌≤◌, List, [], ◌∷◌, ◌++◌, length, map, Bool, true, false}
use Rattle.std.specs.List.{All}
use Rattle.pl_term.specs.Tree.{Tree}
use Rattle.pl_term.specs.Cells.{cells}
use Rattle.pl_term.specs.Variables.{rename, variables}
use Rattle.term_store.specs.declared.words.Place.{Place}
use Rattle.term_store.specs.Contents.{Contents, Holds, IsAbove, term_at}
use Rattle.iso_search.specs.declared.choices.Alternative.{Alternative}
use Rattle.iso_search.specs.declared.choices.Alternative.TheVariants.{Findall}
use Rattle.iso_search.specs.declared.choices.ChoicePoint.{ChoicePoint}
use Rattle.iso_search.specs.declared.copies.Collection.{Collection}
use Rattle.iso_search.specs.declared.copies.Copied.{Copied}
use Rattle.iso_search.specs.Conversions.{Stays}
use Rattle.iso_search.specs.Reading.{View}
use Rattle.iso_search.specs.Spelling.{spelled, text_of}

-- The copy, over numbers of atoms and over texts.
abbrev pub copy_over : Copied → Tree
copy_over c = rename c.from c.term

abbrev pub copy_of : View → Copied → Tree
copy_of v c = spelled (text_of v.names) (copy_over c)

abbrev pub copies_of : View → Collection → List Tree
copies_of v f = map (copy_of v) f.copies.items

abbrev pub cells_of : List Copied → ℕ
cells_of [] = 0
cells_of (c ∷ cs) = cells c.term + cells_of cs

-- The numbers of the copies' variables rise from one number to another.
abbrev pub Rise : ℕ → List Copied → ℕ → Type 0
Rise low [] high = low ≤ high
Rise low (c ∷ cs) high = (low ≤ c.from) × Rise (c.from + length (variables c.term)) cs high

-- The cells are counted, and the variables of the store have lower numbers than those of the copies.
pub record IsCollectionIn (s : Contents) (f : Collection) : Type 0 where
  pub counted : f.cells ≡ cells_of f.copies.items
  pub above : All (λ c. IsAbove c.from s) f.copies.items

-- The copies of a choice point, if it is one of findall/3, are older than a number of a variable.
abbrev pub IsOlder : ℕ → Alternative → Type 0
IsOlder next (Findall p f) = Rise zero f.copies.items next
IsOlder next _ = Unit {0}

-- It has no copies.
abbrev pub HoldsNone : Alternative → Type 0
HoldsNone (Findall p f) = f.copies.items ≡ []
HoldsNone _ = Unit {0}

abbrev pub cells_held : Alternative → ℕ
cells_held (Findall p f) = f.cells
cells_held _ = 0

-- The copy is put after the others of a choice point of findall/3.
abbrev pub IsPutAfter : Copied → Alternative → Alternative → Type 0
IsPutAfter c (Findall p f) (Findall q g) = (q ≡ p) × ((g.copies.items ≡ f.copies.items ++ c ∷ []) × (g.cells ≡ f.cells + cells c.term))
IsPutAfter c a b = ⊥

abbrev pub IsNoFindall : Alternative → Type 0
IsNoFindall (Findall p f) = ⊥
IsNoFindall _ = Unit {0}

-- No choice point at the height, of these with the newest first, is one of findall/3.
abbrev pub CollectsNone : ℕ → List ChoicePoint → Type 0
CollectsNone h [] = Unit {0}
CollectsNone h (k ∷ ks) = (length ks ≡ h → IsNoFindall k.alternative) × CollectsNone h ks

-- The choice point at the height is one of findall/3, and has the copy after the others.
pub record HasCopy (c : Copied) (h : ℕ) (ks ls : List ChoicePoint) : Type 0 where
  pub newer : List ChoicePoint
  pub older : List ChoicePoint
  pub was : ChoicePoint
  pub is : Alternative
  pub before : ks ≡ newer ++ was ∷ older
  pub after : ls ≡ newer ++ record was { alternative = is } ∷ older
  pub height : length older ≡ h
  pub put : IsPutAfter c was.alternative is

abbrev pub IsJoined : Bool → Copied → ℕ → List ChoicePoint → List ChoicePoint → Type 0
IsJoined true c h ks ls = HasCopy c h ks ls
IsJoined false c h ks ls = (ls ≡ ks) × CollectsNone h ks

-- Compound terms and variables were made for copies.
pub record AreBuilt (s : Contents) (copies : List Copied) (t : Contents) (places : List Place) : Type 0 where
  pub stays : Stays s t
  pub inside : All (Holds t) places
  pub stand : map (term_at t) places ≡ map copy_over copies
