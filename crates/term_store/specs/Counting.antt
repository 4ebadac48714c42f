-- The cells of what is still to be counted.
use Rattle.std.specs.Prelude.{ℕ, zero, suc, ◌+◌, List, [], ◌∷◌, Option, Some, None}
use Rattle.pl_term.specs.Cells.{compound_cells}
use Rattle.term_store.specs.declared.words.Word.{Word}
use Rattle.term_store.specs.Heap.{Heap, meaning}

-- The cells of the compound terms in what the words stand for.
abbrev pub total : Heap → List Word → ℕ
total h [] = zero
total h (w ∷ ws) = compound_cells (meaning h w) + total h ws

-- The cells of a compound term with so many arguments beside those of its arguments, and of a word that is none.
abbrev pub cost : Option ℕ → ℕ
cost None = zero
cost (Some n) = suc n
