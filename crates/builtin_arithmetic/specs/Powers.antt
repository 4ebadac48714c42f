-- Powers by squaring.
use Rattle.std.specs.Prelude.{ℕ, ◌*◌, Bool, true, false}

-- The square of a power, times the base once more where the flag is set.
abbrev pub squared : ℕ → ℕ → Bool → ℕ
squared power base false = power * power
squared power base true = power * power * base
