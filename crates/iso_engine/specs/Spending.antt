-- Inferences.
use Rattle.std.specs.Prelude.{◌≡◌, ℕ, suc, ◌⊎◌}

-- One was made, or none.
abbrev pub IsSpent : ℕ → ℕ → Type 0
IsSpent n m = (m ≡ n) ⊎ (m ≡ suc n)
