-- What is known of the parts of a term that a walk has come by.
use Rattle.std.specs.Prelude.{◌≡◌, ◌⊎◌, ℕ, ◌<◌, ◌≤◌, Bool, true, false, ◌&&◌, ◌||◌, nat_lt, List, [], ◌∷◌, length}
use Rattle.std.specs.List.{All}
use Rattle.pl_term.specs.Cells.{compound_cells}
use Rattle.pl_term.specs.Variables.{has}
use Rattle.term_store.specs.declared.words.Word.{Word}
use Rattle.term_store.specs.declared.words.Word.TheVariants.{Comp}
use Rattle.term_store.specs.Heap.{Heap, meaning, numbered}

-- Whether a variable occurs in one of the words that stand for terms of fewer than `n` cells.
abbrev pub less_has : ℕ → ℕ → Heap → List Word → Bool
less_has x n h [] = false
less_has x n h (w ∷ ws) = (nat_lt (compound_cells (meaning h w)) n && has x (meaning h w)) || less_has x n h ws

-- Where the variable occurs in a compound term it occurs in one of the words that stand for smaller terms.
abbrev pub IsClear : ℕ → Heap → List Word → ℕ → Type 0
IsClear x h ws k = has x (meaning h (Comp k)) ≡ true → less_has x (compound_cells (meaning h (Comp k))) h ws ≡ true

-- The variable of the slot, and each of a slot from `top` on, occurs in a compound term that a walk has come by only if it
-- occurs in a smaller one of the words that are still to be looked at.
abbrev pub SeenClear : ℕ → ℕ → Heap → List Word → List ℕ → Type 0
SeenClear top slot h ws ks = (i : ℕ) → i < length h.numbers → (i ≡ slot) ⊎ (top ≤ i) → All (IsClear (numbered h i) h ws) ks
