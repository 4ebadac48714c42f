-- What holds of each heap.
use Rattle.std.specs.Prelude.{◌≡◌, ℕ, zero, ◌+◌, ◌<◌, ◌≤◌, true, List, [], ◌∷◌, ◌++◌, length, slice_index_or, Option, None}
use Rattle.std.specs.List.{All}
use Rattle.term_store.specs.declared.words.Word.{Word}
use Rattle.term_store.specs.declared.words.Word.TheVariants.{Var, Int, Atom, Comp}
use Rattle.term_store.specs.declared.words.Head.{Head}
use Rattle.term_store.specs.declared.words.Bond.{Bond}
use Rattle.term_store.specs.Heap.{Heap, words_of, find, equations, fair}

-- A word over so many variables and compound terms.
abbrev pub IsWord : ℕ → ℕ → Word → Type 0
IsWord n m (Var i) = i < n
IsWord n m (Int i) = Unit {0}
IsWord n m (Atom a) = Unit {0}
IsWord n m (Comp k) = k < m

-- The word is one of this heap.
abbrev pub IsIn : Heap → Word → Type 0
IsIn h w = IsWord (length h.numbers) (length h.heads) w

-- A variable is bound to no variable of the same or a higher slot.
abbrev pub Below : ℕ → Word → Type 0
Below i (Var j) = j < i
Below i (Int j) = Unit {0}
Below i (Atom a) = Unit {0}
Below i (Comp k) = Unit {0}

abbrev pub no_head : Head
no_head = record { name = zero; start = zero; count = zero }

-- The head of the compound term number k is one with arguments, which are variables and earlier compound terms.
pub record IsHead (n : ℕ) (args : List Word) (k : ℕ) (h : Head) : Type 0 where
  pub some : 0 < h.count
  pub within : h.start + h.count ≤ length args
  pub earlier : All (IsWord n k) (words_of args h)

-- A binding of a slot and a word of the heap.
pub record IsBond (n m : ℕ) (b : Bond) : Type 0 where
  pub slot : b.slot < n
  pub word : IsWord n m b.word
  pub falls : Below b.slot b.word

-- No slot is bound twice.
abbrev pub OnceFrom : List Bond → List Bond → Type 0
OnceFrom seen [] = Unit {0}
OnceFrom seen (b ∷ bs) = (find b.slot seen ≡ None) × OnceFrom (seen ++ b ∷ []) bs

pub record Fit (h : Heap) : Type 0 where
  pub heads : (k : ℕ) → k < length h.heads → IsHead (length h.numbers) h.args k (slice_index_or h.heads k no_head)
  pub rises : (i j : ℕ) → i < j → j < length h.numbers → slice_index_or h.numbers i 0 < slice_index_or h.numbers j 0
  pub bonds : All (IsBond (length h.numbers) (length h.heads)) h.trail
  pub once : OnceFrom [] h.trail
  pub fairly : fair [] (equations h) ≡ true

-- The values are the bindings once more, by slot.
abbrev pub Cached : List (Option Word) → List Bond → Type 0
Cached values bs = (i : ℕ) → i < length values → slice_index_or values i None ≡ find i bs

pub record IsCache (values : List (Option Word)) (h : Heap) : Type 0 where
  pub long : length values ≡ length h.numbers
  pub found : Cached values h.trail
