-- The rest of a division.
use Rattle.std.specs.Prelude.{ℤ, pos, negsuc, zero, suc, Bool, true, false}

-- Whether a rest is not zero and has another sign than the divisor.
abbrev pub turns : ℤ → ℤ → Bool
turns (pos zero) y = false
turns (pos (suc r)) (pos b) = false
turns (pos (suc r)) (negsuc b) = true
turns (negsuc r) (pos b) = true
turns (negsuc r) (negsuc b) = false
