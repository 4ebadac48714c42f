-- What is found in the arguments of a compound term as it is copied.
use Rattle.std.specs.Prelude.{◌≡◌, ℕ, Bool, false, List}
use Rattle.std.specs.List.{All}
use Rattle.term_store.specs.declared.words.Word.{Word}
use Rattle.term_store.specs.Blocks.{copied}
use Rattle.term_store.specs.GroundMarks.{IsMarked, IsMarkedBefore}

-- One more word: where nothing is found, it is copied as a constant or as a compound term that is marked, and stands for no other if it is a
-- variable that was met before.
pub record IsFound (gs : List Bool) (known : List Word) (low above before : ℕ) (was_any was_met now_any now_met : Bool) (w : Word) : Type 0 where
  pub any : now_any ≡ false → (was_any ≡ false) × IsMarked gs (copied known low above w)
  pub met : now_met ≡ false → (was_met ≡ false) × IsMarkedBefore gs known before w

-- All of these words.
pub record AreFound (gs : List Bool) (known : List Word) (low above before : ℕ) (earlier now_any now_met : Bool) (ws : List Word) : Type 0 where
  pub any : now_any ≡ false → All (λ w. IsMarked gs (copied known low above w)) ws
  pub met : now_met ≡ false → (earlier ≡ false) × All (IsMarkedBefore gs known before) ws
