-- The cells of a ball.
use Rattle.std.specs.Prelude.{◌≡◌, ◌≤◌, ◌^◌, ℕ, Option, Some, None}
use Rattle.pl_term.specs.Tree.{Tree}
use Rattle.pl_term.specs.Cells.{compound_cells}

-- The cells of the term's compound terms, or none where they are 2^64 or more.
abbrev pub IsCount : Tree → Option ℕ → Type 0
IsCount t (Some n) = n ≡ compound_cells t
IsCount t None = 2 ^ 64 ≤ compound_cells t
