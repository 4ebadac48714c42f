-- Words of eight bytes, and the words that they stand for.
use Rattle.std.specs.Prelude.{◌≡◌, ◌≢◌, ◌<◌, ◌-◌, ℕ, zero, pos, List, length, slice_index_or, Option, Some, None}
use Rattle.term_store.specs.declared.words.Word.{Word}
use Rattle.term_store.specs.declared.words.Word.TheVariants.{Var, Int, Atom, Comp}
use Rattle.term_store.specs.declared.words.Bond.{Bond}
use Rattle.term_store.specs.declared.shorts.Short.{Short}
use Rattle.term_store.specs.declared.shorts.Short.TheVariants.{Free, Slot, Number, Name, Term, Wide}
use Rattle.term_store.specs.declared.shorts.Beyond.{Beyond}

-- A list of words, and for how many more there is room.
pub record WordList : Type 0 where
  pub items : List Word
  pub room : ℕ

abbrev pub no_beyond : Beyond
no_beyond = record { at = zero; value = pos 0 }

-- The word that a short one stands for.
abbrev pub long_word : List Beyond → Short → Word
long_word bs Free = Int (pos 0)
long_word bs (Slot i) = Var i
long_word bs (Number i) = Int i
long_word bs (Name a) = Atom a
long_word bs (Term k) = Comp k
long_word bs (Wide k) = Int (slice_index_or bs k no_beyond).value

-- The word that a short one stands for, if it stands for one.
abbrev pub value_word : List Beyond → Short → Option Word
value_word bs Free = None
value_word bs (Slot i) = Some (Var i)
value_word bs (Number i) = Some (Int i)
value_word bs (Name a) = Some (Atom a)
value_word bs (Term k) = Some (Comp k)
value_word bs (Wide k) = Some (Int (slice_index_or bs k no_beyond).value)

-- The short word is no integer beyond 32 bits.
abbrev pub IsPlain : Short → Type 0
IsPlain Free = Unit {0}
IsPlain (Slot i) = Unit {0}
IsPlain (Number i) = Unit {0}
IsPlain (Name a) = Unit {0}
IsPlain (Term k) = Unit {0}
IsPlain (Wide k) = ⊥

-- The short word stands for the word, with some list of integers beyond 32 bits.
pub record IsShort (s : Short) (w : Word) : Type 0 where
  pub beyond : List Beyond
  pub is : long_word beyond s ≡ w

-- The same of a word that may be none.
pub record IsShortValue (s : Short) (v : Option Word) : Type 0 where
  pub beyond : List Beyond
  pub is : value_word beyond s ≡ v

-- An integer beyond 32 bits belongs to the word at this place.
abbrev pub IsOwn : List Beyond → ℕ → Short → Type 0
IsOwn bs at Free = Unit {0}
IsOwn bs at (Slot i) = Unit {0}
IsOwn bs at (Number i) = Unit {0}
IsOwn bs at (Name a) = Unit {0}
IsOwn bs at (Term k) = Unit {0}
IsOwn bs at (Wide k) = (k < length bs) × ((slice_index_or bs k no_beyond).at ≡ at)

abbrev pub AreOwn : List Beyond → List Short → Type 0
AreOwn bs ss = (i : ℕ) → i < length ss → IsOwn bs i (slice_index_or ss i (Number (pos 0)))

-- All integers stay at their places.
abbrev pub Stays : List Beyond → List Beyond → Type 0
Stays bs cs = (k : ℕ) → k < length bs → (k < length cs) × (slice_index_or cs k no_beyond ≡ slice_index_or bs k no_beyond)

-- All integers of words below a place stay at their places.
abbrev pub StaysBelow : ℕ → List Beyond → List Beyond → Type 0
StaysBelow n bs cs =
    (k : ℕ) → k < length bs → (slice_index_or bs k no_beyond).at < n
    → (k < length cs) × (slice_index_or cs k no_beyond ≡ slice_index_or bs k no_beyond)

-- All integers stay at their places but those of the word at one place.
abbrev pub StaysBut : ℕ → List Beyond → List Beyond → Type 0
StaysBut n bs cs =
    (k : ℕ) → k < length bs → (slice_index_or bs k no_beyond).at ≢ n
    → (k < length cs) × (slice_index_or cs k no_beyond ≡ slice_index_or bs k no_beyond)

-- What the variables are bound to, by slot, and the bindings in order.
pub record BondList : Type 0 where
  pub values : List (Option Word)
  pub items : List Bond

abbrev pub value_or_zero : Option Word → Word
value_or_zero None = Int (pos 0)
value_or_zero (Some w) = w

-- The binding of a slot.
abbrev pub bond_of : List (Option Word) → ℕ → Bond
bond_of values i = record { slot = i; word = value_or_zero (slice_index_or values i None) }

abbrev pub no_bond : Bond
no_bond = record { slot = zero; word = Int (pos 0) }

abbrev pub last_bond : List Bond → Bond
last_bond bs = slice_index_or bs (length bs - 1) no_bond
