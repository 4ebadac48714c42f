-- Where a search among entries in order ends.
use Rattle.std.specs.Prelude.{◌≡◌, ◌<◌, ◌≤◌, ℕ, List, Result, length, Some, slice_get}
use Rattle.std.specs.Result.{MatchResult}
use Rattle.std.specs.declared.cmp.Ordering.TheVariants.{Less, Equal, Greater}
use Rattle.pl_model.specs.OperatorTable.{Key, Entry, key_order}

-- The keys before a place are below the key.
abbrev pub AllBefore : Key → List (Key × Entry) → ℕ → Type 0
AllBefore k es i = (j : ℕ) (e : Key × Entry) → j < i → slice_get es j ≡ Some e → key_order k e.0 ≡ Greater

-- The keys from a place on are above the key.
abbrev pub AllBehind : Key → List (Key × Entry) → ℕ → Type 0
AllBehind k es i = (j : ℕ) (e : Key × Entry) → i ≤ j → slice_get es j ≡ Some e → key_order k e.0 ≡ Less

-- The entry at this place has the key.
pub record Found (k : Key) (es : List (Key × Entry)) (i : ℕ) : Type 0 where
  pub within : i < length es
  pub here : (e : Key × Entry) → slice_get es i ≡ Some e → key_order k e.0 ≡ Equal

-- No entry has the key, and here it would stand.
pub record Gap (k : Key) (es : List (Key × Entry)) (i : ℕ) : Type 0 where
  pub within : i ≤ length es
  pub before : AllBefore k es i
  pub behind : AllBehind k es i

abbrev pub Searched : Key → List (Key × Entry) → Result ℕ ℕ → Type 0
Searched k es r = MatchResult r (Found k es) (Gap k es)
