-- The answers of a table from a line on.
use Rattle.std.specs.Prelude.{◌≡◌, ◌≢◌, ℕ, List, [], drop, Option, Some, None}
use Rattle.pl_term.specs.Tree.{Trees}
use Rattle.pl_model.specs.BuiltinRows.{Answer, unifying}

-- There are none, or they are those from a later line on.
abbrev pub IsFollowing : Trees → List Answer → ℕ → Option ℕ → Type 0
IsFollowing ts xs from None = unifying ts (drop from xs) ≡ []
IsFollowing ts xs from (Some k) = (unifying ts (drop from xs) ≡ unifying ts (drop k xs)) × (unifying ts (drop from xs) ≢ [])
