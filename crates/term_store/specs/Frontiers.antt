-- Variables and compound terms that stay among themselves, whatever is bound.
use Rattle.std.specs.Prelude.{◌≡◌, ◌⊎◌, ◌<◌, ◌≤◌, ℕ, zero, [], length, slice_index_or}
use Rattle.std.specs.List.{All}
use Rattle.term_store.specs.declared.frontier.Frontier.{Frontier}
use Rattle.term_store.specs.declared.shorts.Short.{Short}
use Rattle.term_store.specs.declared.words.Bond.{Bond}
use Rattle.term_store.specs.declared.words.StoreMark.{StoreMark}
use Rattle.term_store.specs.declared.words.Word.{Word}
use Rattle.term_store.specs.Fit.{IsWord, no_head}
use Rattle.term_store.specs.Heap.{Heap, words_of}
use Rattle.term_store.specs.Shorts.{IsPlain, long_word}

abbrev pub before_all : Frontier
before_all = record { slots = zero; heads = zero }

-- What a variable below the frontier is bound to is below it.
abbrev pub StaysBehind : Frontier → Bond → Type 0
StaysBehind f b = b.slot < f.slots → IsWord f.slots f.heads b.word

-- The arguments of the compound terms below the frontier, and what the variables below it are bound to, are below it.
pub record IsClosed (f : Frontier) (h : Heap) : Type 0 where
  pub slots : f.slots ≤ length h.numbers
  pub heads : f.heads ≤ length h.heads
  pub parts : (k : ℕ) → k < f.heads → All (IsWord f.slots k) (words_of h.args (slice_index_or h.heads k no_head))
  pub bonds : All (StaysBehind f) h.trail

-- The frontier where what was made since a mark is given back.
abbrev pub IsCutAt : Frontier → StoreMark → Frontier → Type 0
IsCutAt f m g = ((g ≡ f) × ((f.slots ≤ m.numbers) × (f.heads ≤ m.heads))) ⊎ (g ≡ record { slots = m.numbers; heads = m.heads })

-- The frontier where the variable of a slot is bound to a word: it stays, or is moved behind so many variables and compound terms.
abbrev pub IsPassed : Frontier → ℕ → Word → ℕ → ℕ → Frontier → Type 0
IsPassed f i w n m g = ((g ≡ f) × (i < f.slots → IsWord f.slots f.heads w)) ⊎ (g ≡ record { slots = n; heads = m })

-- The variable of the slot is not below the frontier, and the word is.
abbrev pub IsNewerWord : Frontier → ℕ → Word → Type 0
IsNewerWord f i w = (f.slots ≤ i) × IsWord f.slots f.heads w

abbrev pub IsNewer : Frontier → ℕ → Short → Type 0
IsNewer f i s = IsPlain s × IsNewerWord f i (long_word [] s)
