-- Numbers by sign and magnitude.
use Rattle.std.specs.Prelude.{ℕ, ℤ, pos, neg_ℤ, Bool, true, false}

-- The number with this magnitude, negative where the flag is set.
abbrev pub number : Bool → ℕ → ℤ
number false n = pos n
number true n = neg_ℤ (pos n)
