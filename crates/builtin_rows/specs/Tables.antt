-- The table of predicates by the numbers of their names.
use Rattle.std.specs.Prelude.{ℕ, List, [], ◌∷◌, map, get_or, Option, Some, None, ◌==◌, if◌then◌else◌}
use Rattle.std.specs.Borrow.{Bor}
use Rattle.builtin_rows.specs.declared.predicates.Meaning.{Meaning}
use Rattle.builtin_rows.specs.declared.predicates.TheConstants.{PREDICATES}

-- The predicate with so many arguments, of those with one name.
abbrev pub with_count : ℕ → List (ℕ × Meaning) → Option Meaning
with_count n [] = None
with_count n (r ∷ rs) = if r.0 == n then Some r.1 else with_count n rs

abbrev pub rows_of : List (Bor (List (ℕ × Meaning))) → List (List (ℕ × Meaning))
rows_of rows = map (λ (r : Bor (List (ℕ × Meaning))). r.now) rows

-- The rows of the code.
unfoldable pub table : List (List (ℕ × Meaning))
table = map (λ (r : record { now : List (ℕ × Meaning) }). r.now) PREDICATES

-- The predicate with the name of this number and so many arguments.
abbrev pub predicate_at : ℕ → ℕ → Option Meaning
predicate_at a n = with_count n (get_or table a [])
