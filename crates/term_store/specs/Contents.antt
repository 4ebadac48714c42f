-- What contracts see of a store: its heap, the cells used and the cells that may be used.
use Rattle.std.specs.Prelude.{◌≡◌, ℕ, zero, suc, ◌+◌, ◌<◌, ◌≤◌, Bool, true, false, List, [], ◌∷◌, ◌++◌, length, map, take, drop, Some, None}
use Rattle.std.specs.List.{All}
use Rattle.pl_term.specs.Tree.{Tree, var, int, atom, compound}
use Rattle.pl_term.specs.Variables.{has, replace, rename, variables}
use Rattle.pl_term.specs.Cells.{cells}
use Rattle.pl_model.specs.Unify.{Bindings, bound, unify}
use Rattle.term_store.specs.declared.words.Word.{Word}
use Rattle.term_store.specs.declared.words.StoreMark.{StoreMark}
use Rattle.term_store.specs.declared.words.Place.{Place}
use Rattle.term_store.specs.declared.views.View.{View}
use Rattle.term_store.specs.declared.views.View.TheVariants.{Variable, Integer, Atom, Compound}
use Rattle.term_store.specs.declared.views.Arguments.{Arguments}
use Rattle.term_store.specs.declared.faults.StoreFault.{StoreFault}
use Rattle.term_store.specs.declared.faults.StoreFault.TheVariants.{CellsFull, Memory}
use Rattle.term_store.specs.Heap.{Heap, atom_name, blank_heap, meaning}
use Rattle.term_store.specs.Fit.{IsIn, Fit}
use Rattle.term_store.specs.Marks.{IsWithin, cut}

pub record Contents : Type 0 where
  pub heap : Heap
  pub used : ℕ
  pub budget : ℕ

-- A store without terms.
abbrev pub blank : ℕ → Contents
blank budget = record { heap = blank_heap; used = zero; budget = budget }

-- The term that stands at a place. Its names stand for atoms.
abbrev pub term_at : Contents → Place → Tree
term_at s p = meaning s.heap p.word

-- The place is one of the store.
abbrev pub Holds : Contents → Place → Type 0
Holds s p = IsIn s.heap p.word

-- The numbers of the store's variables, which rise.
abbrev pub numbers_of : Contents → List ℕ
numbers_of s = s.heap.numbers

-- How many bindings were made and not undone.
abbrev pub bindings_made : Contents → ℕ
bindings_made s = length s.heap.trail

-- The number is above those of all variables.
abbrev pub IsAbove : ℕ → Contents → Type 0
IsAbove n s = All (λ m. m < n) s.heap.numbers

-- So many numbers from one on.
abbrev pub upwards : ℕ → ℕ → List ℕ
upwards from zero = []
upwards from (suc k) = upwards from k ++ (from + k) ∷ []

-- The mark was taken in this store, and no earlier mark was gone back to since.
pub record IsMark (m : StoreMark) (s : Contents) : Type 0 where
  pub within : IsWithin m s.heap
  pub used : m.used ≤ s.used
  pub fit : Fit (cut m s.heap)

-- The store as it was when the mark was taken.
abbrev pub back_to : StoreMark → Contents → Contents
back_to m s = record { heap = cut m s.heap; used = m.used; budget = s.budget }

-- The first mark was taken before the second, or the store had not changed.
pub record IsEarlier (k m : StoreMark) : Type 0 where
  pub heads : k.heads ≤ m.heads
  pub args : k.args ≤ m.args
  pub numbers : k.numbers ≤ m.numbers
  pub trail : k.trail ≤ m.trail
  pub used : k.used ≤ m.used

-- Places stay places, marks stay marks, and going back to a mark leads to the same store.
pub record Adds (s t : Contents) : Type 0 where
  pub places : (p : Place) → Holds s p → Holds t p
  pub marks : (m : StoreMark) → IsMark m s → IsMark m t
  pub back : (m : StoreMark) → IsMark m s → back_to m t ≡ back_to m s

-- Nothing was taken from the budget, and no variable was made.
pub record SameSize (s t : Contents) : Type 0 where
  pub numbers : numbers_of t ≡ numbers_of s
  pub used : t.used ≡ s.used
  pub budget : t.budget ≡ s.budget

-- What unification does: where bindings unify the two terms, each place has them put into its term, and where none
-- do, nothing has changed.
abbrev pub Unified : Bool → Contents → Place → Place → Contents → Type 0
Unified true s a b t =
    (bs : Bindings) × ((unify (term_at s a) (term_at s b) ≡ Some bs) × ((p : Place) → term_at t p ≡ bound bs (term_at s p)))
Unified false s a b t = (unify (term_at s a) (term_at s b) ≡ None) × (t ≡ s)

-- An unbound variable that may be bound to what stands at another place: it does not occur there, and has the greater
-- number of two variables.
pub record MayBind (s : Contents) (at to : Place) : Type 0 where
  pub variable : ℕ
  pub stands : term_at s at ≡ var variable
  pub absent : has variable (term_at s to) ≡ false
  pub greater : (y : ℕ) → term_at s to ≡ var y → y < variable

-- The variable is bound.
pub record Bound (s : Contents) (at to : Place) (t : Contents) : Type 0 where
  pub variable : ℕ
  pub stands : term_at s at ≡ var variable
  pub replaced : (p : Place) → term_at t p ≡ replace variable (term_at s to) (term_at s p)

-- A term was loaded, with new variables, and what stood at the other places stands there still.
pub record Loaded (s : Contents) (from : ℕ) (term : Tree) (t : Contents) (p : Place) : Type 0 where
  pub holds : Holds t p
  pub means : term_at t p ≡ rename from term
  pub others : (q : Place) → Holds s q → term_at t q ≡ term_at s q
  pub numbers : numbers_of t ≡ numbers_of s ++ upwards from (length (variables term))
  pub used : t.used ≡ s.used + cells term
  pub budget : t.budget ≡ s.budget
  pub fits : s.used + cells term ≤ s.budget

-- The same, where the cells are not counted.
pub record Builds (s : Contents) (from : ℕ) (term : Tree) (t : Contents) (p : Place) : Type 0 where
  pub holds : Holds t p
  pub means : term_at t p ≡ rename from term
  pub others : (q : Place) → Holds s q → term_at t q ≡ term_at s q
  pub numbers : numbers_of t ≡ numbers_of s ++ upwards from (length (variables term))
  pub used : t.used ≡ s.used
  pub budget : t.budget ≡ s.budget

-- The cells do not fit, or there was no memory for cells that fit.
abbrev pub Refused : Contents → ℕ → StoreFault → Type 0
Refused s need (CellsFull used n) = (used ≡ s.used) × ((n ≡ need) × (s.budget < s.used + need))
Refused s need Memory = s.used + need ≤ s.budget

-- The terms of a compound term's arguments.
abbrev pub words_at : Contents → Arguments → List Word
words_at s a = take a.count (drop a.start s.heap.args)

abbrev pub arguments_at : Contents → Arguments → List Tree
arguments_at s a = map (meaning s.heap) (words_at s a)

pub record IsArguments (s : Contents) (a : Arguments) : Type 0 where
  pub within : a.start + a.count ≤ length s.heap.args
  pub inside : All (IsIn s.heap) (words_at s a)

-- What kind of term stands at a place.
abbrev pub Views : Contents → Tree → View → Type 0
Views s t (Variable n) = t ≡ var n
Views s t (Integer i) = t ≡ int i
Views s t (Atom a) = t ≡ atom (atom_name a)
Views s t (Compound f a) = (t ≡ compound (atom_name f) (arguments_at s a)) × (IsArguments s a × (0 < a.count))

-- A compound term or a variable was made.
pub record Makes (s : Contents) (term : Tree) (t : Contents) (p : Place) : Type 0 where
  pub holds : Holds t p
  pub means : term_at t p ≡ term
  pub others : (q : Place) → Holds s q → term_at t q ≡ term_at s q
  pub used : t.used ≡ s.used
  pub budget : t.budget ≡ s.budget
