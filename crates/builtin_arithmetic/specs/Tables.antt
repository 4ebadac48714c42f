-- The evaluable functors by the numbers of the fixed atoms that are their names.
use Rattle.std.specs.Prelude.{ℕ, List, [], ◌∷◌, Option, Some, None, ◌==◌, if◌then◌else◌}
use Rattle.atom_api.specs.FixedNames.{abs_name, bit_and_name, bit_or_name, caret_name, complement_name, div_name, integer_division_name, max_name, min_name, minus_name, mod_name, plus_name, power_name, rem_name, shift_left_name, shift_right_name, sign_name, times_name}
use Rattle.pl_model.specs.declared.evaluables.Op1.{Op1}
use Rattle.pl_model.specs.declared.evaluables.Op1.TheVariants.{Negate, Plus, Absolute, Sign, Complement}
use Rattle.pl_model.specs.declared.evaluables.Op2.{Op2}
use Rattle.pl_model.specs.declared.evaluables.Op2.TheVariants.{Add, Subtract, Multiply, Minimum, Maximum, Quotient, Rem, Div, Mod, BitAnd, BitOr, ShiftLeft, ShiftRight, Power, IntegerPower}

-- What stands first in a table beside this number.
abbrev pub found : {A : Type 0} → ℕ → List (ℕ × A) → Option A
found a [] = None
found a (e ∷ es) = if a == e.0 then Some e.1 else found a es

abbrev pub numbers1 : List (ℕ × Op1)
numbers1 = (minus_name, Negate) ∷ (plus_name, Plus) ∷ (abs_name, Absolute) ∷ (sign_name, Sign) ∷ (complement_name, Complement) ∷ []

abbrev pub numbers2 : List (ℕ × Op2)
numbers2 =
    (plus_name, Add) ∷ (minus_name, Subtract) ∷ (times_name, Multiply) ∷ (min_name, Minimum) ∷ (max_name, Maximum)
    ∷ (integer_division_name, Quotient) ∷ (rem_name, Rem) ∷ (div_name, Div) ∷ (mod_name, Mod) ∷ (bit_and_name, BitAnd) ∷ (bit_or_name, BitOr)
    ∷ (shift_left_name, ShiftLeft) ∷ (shift_right_name, ShiftRight) ∷ (power_name, Power) ∷ (caret_name, IntegerPower) ∷ []
