-- Flags and their values by the numbers of the fixed atoms.
use Rattle.std.specs.Prelude.{ℕ, ◌==◌, ◌||◌, Bool, false, if◌then◌else◌}
use Rattle.atom_api.specs.FixedNames.{atom_name, bounded_name, chars_name, codes_name, double_quotes_name, error_name, fail_name, integer_rounding_function_name, max_integer_name, min_integer_name, unknown_name}

abbrev pub is_fixed : ℕ → Bool
is_fixed a = (a == bounded_name) || ((a == integer_rounding_function_name) || ((a == max_integer_name) || (a == min_integer_name)))

abbrev pub is_set : ℕ → Bool
is_set a = (a == double_quotes_name) || (a == unknown_name)

abbrev pub is_value : ℕ → ℕ → Bool
is_value a v =
    if a == double_quotes_name then (v == codes_name) || ((v == chars_name) || (v == atom_name)) else
    if a == unknown_name then (v == error_name) || (v == fail_name) else false
