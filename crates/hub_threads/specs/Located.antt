-- Where in a list a member stands that was looked for.
use Rattle.std.specs.Prelude.{◌≡◌, ℕ, List, ◌∷◌, ◌++◌, length, Option, Some, None}

-- The member stands at the index.
pub record IsAt {X : Type 0} (found : Option X) (xs : List X) (i : ℕ) : Type 0 where
  pub before : List X
  pub item : X
  pub after : List X
  pub whole : xs ≡ before ++ item ∷ after
  pub index : length before ≡ i
  pub found_is : found ≡ Some item

-- The index of what was found, or none where nothing was.
abbrev pub Locates : {X : Type 0} → Option X → List X → Option ℕ → Type 0
Locates found xs None = found ≡ None
Locates found xs (Some i) = IsAt found xs i
