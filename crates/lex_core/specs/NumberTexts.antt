-- Texts that are read as numbers (ISO 8.16.7).
use Rattle.std.specs.Prelude.{◌≡◌, ◌-◌, ◌^◌, ℕ, ℤ, Option, Some, None, true, false, min}
use Rattle.pl_model.specs.Evaluables.{is_in_range}
use Rattle.lex_core.specs.declared.number_texts.NumberText.{NumberText}
use Rattle.lex_core.specs.declared.number_texts.NumberText.TheVariants.{Illegal, TooLarge, Integer}

-- What a text is, by the integer that is read in it.
abbrev pub IsNumber : Option ℤ → NumberText → Type 0
IsNumber o Illegal = o ≡ None
IsNumber o TooLarge = (i : ℤ) × ((o ≡ Some i) × (is_in_range i ≡ false))
IsNumber o (Integer i) = (o ≡ Some i) × (is_in_range i ≡ true)

-- A value, or 2^64 - 1 where it is more.
abbrev pub saturated : ℕ → ℕ
saturated n = min (2 ^ 64 - 1) n

abbrev pub saturated_value : Option ℕ → Option ℕ
saturated_value None = None
saturated_value (Some n) = Some (saturated n)

-- The same of the value of a numeral, beside its number of bytes.
abbrev pub saturated_numeral : Option (ℕ × ℕ) → Option (ℕ × ℕ)
saturated_numeral None = None
saturated_numeral (Some n) = Some (saturated n.0, n.1)
