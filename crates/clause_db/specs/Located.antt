-- Where in a list the first member stands that passes a test.
use Rattle.std.specs.Prelude.{◌≡◌, ℕ, Bool, true, false, List, ◌∷◌, ◌++◌, find, length, Option, Some, None}
use Rattle.std.specs.List.{slice_get}
use Rattle.std.specs.Option.{option_map_or}

-- The member stands at the index, and none before it passes the test.
pub record IsAt {X : Type 0} (test : X → Bool) (xs : List X) (i : ℕ) : Type 0 where
  pub before : List X
  pub item : X
  pub after : List X
  pub whole : xs ≡ before ++ item ∷ after
  pub index : length before ≡ i
  pub missed : find test before ≡ None
  pub hits : test item ≡ true

abbrev pub Locates : {X : Type 0} → (X → Bool) → List X → Option ℕ → Type 0
Locates test xs None = find test xs ≡ None
Locates test xs (Some i) = IsAt test xs i

-- Whether a member that passes the test stands at the index.
abbrev pub stands_at : {X : Type 0} → (X → Bool) → List X → ℕ → Bool
stands_at test xs i = option_map_or test (slice_get xs i) false
