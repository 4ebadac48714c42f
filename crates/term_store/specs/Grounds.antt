-- What is known of the parts of a term that a walk for variables has come by.
use Rattle.std.specs.Prelude.{ℕ, List}
use Rattle.std.specs.List.{All}
use Rattle.term_store.specs.declared.words.Word.{Word}
use Rattle.term_store.specs.Heap.{Heap}
use Rattle.term_store.specs.Visits.{IsClear}

-- Each variable that occurs in a compound term that the walk has come by occurs in a smaller one of the words that are still to
-- be looked at.
abbrev pub AreClear : Heap → List Word → List ℕ → Type 0
AreClear h ws ks = (x : ℕ) → All (IsClear x h ws) ks
