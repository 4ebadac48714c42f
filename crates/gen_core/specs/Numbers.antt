-- The numbers that clauses have in database order, by the place of the update that added them: downwards from 2^49 for
-- those that were added as the first ones, upwards for the others.
use Rattle.std.specs.Prelude.{◌≡◌, ℕ, ◌+◌, ◌-◌, ◌<◌, ◌⊎◌, nat_lt, if◌then◌else◌}

abbrev pub first_number : ℕ → ℕ
first_number place = 562949953421311 - place

abbrev pub last_number : ℕ → ℕ
last_number place = 562949953421312 + place

-- The place of the update that added the clause on the number.
abbrev pub place_of : ℕ → ℕ
place_of number = if nat_lt number 562949953421312 then 562949953421311 - number else number - 562949953421312

-- The number is one of those that the place gives.
pub record IsNumbered (number place : ℕ) : Type 0 where
  pub below : place < 562949953421312
  pub is : (number ≡ first_number place) ⊎ (number ≡ last_number place)
