-- Compound terms that are marked as ground: they were made of constants and of such terms alone.
use Rattle.std.specs.Prelude.{◌≡◌, ◌<◌, ◌≤◌, ℕ, suc, pos, Bool, true, false, List, length, slice_index_or}
use Rattle.std.specs.List.{All}
use Rattle.term_store.specs.declared.words.Word.{Word}
use Rattle.term_store.specs.declared.words.Word.TheVariants.{Var, Int, Atom, Comp}
use Rattle.term_store.specs.Heap.{Heap, words_of}
use Rattle.term_store.specs.Fit.{no_head}

-- The word is a constant, or a compound term that is marked.
abbrev pub IsMarked : List Bool → Word → Type 0
IsMarked gs (Var i) = ⊥
IsMarked gs (Int i) = Unit {0}
IsMarked gs (Atom a) = Unit {0}
IsMarked gs (Comp k) = slice_index_or gs k false ≡ true

-- A word of a block that is no variable of those met first, up to a number of them, but for one that stands for a constant or for a
-- compound term that is marked.
abbrev pub IsMarkedBefore : List Bool → List Word → ℕ → Word → Type 0
IsMarkedBefore gs known before (Var x) = x < before → IsMarked gs (slice_index_or known x (Int (pos 0)))
IsMarkedBefore gs known before (Int i) = Unit {0}
IsMarkedBefore gs known before (Atom a) = Unit {0}
IsMarkedBefore gs known before (Comp k) = Unit {0}

-- The marks reach no further than the compound terms, and the arguments of one that is marked are constants and compound terms
-- that are marked.
pub record AreMarks (gs : List Bool) (h : Heap) : Type 0 where
  pub long : length gs ≤ length h.heads
  pub parts : (k : ℕ) → slice_index_or gs k false ≡ true → All (IsMarked gs) (words_of h.args (slice_index_or h.heads k no_head))

-- Marks for compound terms of lower numbers than the new one, which is marked or not; the others' are what they were.
pub record IsMarkedToo (marked : Bool) (k : ℕ) (gs hs : List Bool) : Type 0 where
  pub long : length hs ≤ suc k
  pub others : (j : ℕ) → j < k → slice_index_or hs j false ≡ slice_index_or gs j false
  pub last : slice_index_or hs k false ≡ true → marked ≡ true
  pub fits : marked ≡ false → length hs ≤ k
