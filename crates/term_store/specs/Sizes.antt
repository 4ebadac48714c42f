-- What is known of the cells of terms.
use Rattle.std.specs.Prelude.{◌≡◌, ℕ, ◌≤◌, ◌^◌, List, map}
use Rattle.std.specs.List.{All}
use Rattle.pl_term.specs.Cells.{compound_cells}
use Rattle.term_store.specs.declared.size.Size.{Size}
use Rattle.term_store.specs.declared.size.Size.TheVariants.{Unknown, Cells, Over}
use Rattle.term_store.specs.declared.words.Word.{Word}
use Rattle.term_store.specs.declared.words.Word.TheVariants.{Comp}
use Rattle.term_store.specs.Heap.{Heap, meaning}

-- What is known is true of so many cells.
abbrev pub IsCount : Size → ℕ → Type 0
IsCount Unknown m = Unit {0}
IsCount (Cells n) m = n ≡ m
IsCount Over m = 2 ^ 64 ≤ m

-- The cells of these compound terms.
abbrev pub sizes_of : Heap → List ℕ → List ℕ
sizes_of h ks = map (λ k. compound_cells (meaning h (Comp k))) ks

abbrev pub IsWithin : Heap → ℕ → Word → Type 0
IsWithin h n w = compound_cells (meaning h w) ≤ n

-- Where no word stood for more cells than a number that is no lower than this one, none does now.
abbrev pub AreWithin : Heap → ℕ → List Word → List Word → Type 0
AreWithin h n old new = (m : ℕ) → n ≤ m → All (IsWithin h m) old → All (IsWithin h m) new
