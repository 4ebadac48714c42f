-- Counts of faults.
use Rattle.std.specs.Prelude.{◌≡◌, ◌<◌, ◌⊎◌, ◌+◌, ◌-◌, ◌^◌, ℕ, min}

-- A count rose, or it stands at the last value of a counter of 64 bits, from which it cannot rise.
abbrev pub Rose : ℕ → ℕ → Type 0
Rose old new = (old < new) ⊎ (new ≡ 2 ^ 64 - 1)

-- A counter of 64 bits after one step: at its last value it stands still.
abbrev pub one_more : ℕ → ℕ
one_more n = min (n + 1) (2 ^ 64 - 1)
