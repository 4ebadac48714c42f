-- What a step of skipping answers.
use Rattle.std.specs.Prelude.{◌≡◌, ℕ, List, false, ◌+◌, ◌<◌, ◌≤◌, ◌&&◌, ◌==◌, length, slice_index}
use Rattle.pl_model.specs.LexicalQuoted.{is_digit, digit_count}
use Rattle.pl_model.specs.LexicalTokens.{radix_of}
use Rattle.pl_model.specs.Skipping.{begins_code, skip}
use Rattle.pl_model.specs.declared.skipping.Passing.{Passing}
use Rattle.pl_model.specs.declared.skipping.Passing.TheVariants.{Through, Ends, StaysOpen}

-- Something is passed within this many bytes.
abbrev pub PassesWithin : ℕ → Passing → Type 0
PassesWithin n (Through k) = (0 < k) × (k ≤ n)
PassesWithin n (Ends k) = k ≤ n
PassesWithin n StaysOpen = Unit {0}

-- Skipping from a place goes where skipping from after this goes.
abbrev pub Skips : List ℕ → ℕ → Passing → Type 0
Skips text at (Through n) = (0 < n) × (at + n ≤ length text) × (skip text at ≡ skip text (at + n))
Skips text at (Ends n) = (at + n ≤ length text) × (skip text at ≡ at + n)
Skips text at StaysOpen = skip text at ≡ length text

-- A decimal constant (ISO 6.4.4) of this number of digits begins at the front.
pub record BeginsDecimal (bs : List ℕ) (n : ℕ) : Type 0 where
  pub code : begins_code bs ≡ false
  pub radix : ((slice_index bs 0 == 48) && is_digit (radix_of (slice_index bs 1)) (slice_index bs 2)) ≡ false
  pub digits : digit_count 10 bs ≡ n
