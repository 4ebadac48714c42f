-- Numbers under keys.
use Rattle.std.specs.Prelude.{◌≡◌, ℕ, ◌<◌, ◌≤◌, Bool, true, false, ◌||◌, ◌==◌, Option, Some, None}
use Rattle.std.specs.Option.{option_map_or}
use Rattle.std.specs.Ordering.{nat_cmp}
use Rattle.std.specs.declared.cmp.Ordering.{Ordering}
use Rattle.std.specs.BTreeMap as tree
use Rattle.std.specs.BTreeSet as set
use Rattle.std.specs.BTreeMap.{BTreeMap}
use Rattle.gen_core.specs.declared.index.Numbers.{Numbers}

-- Whether the number is one of these.
abbrev pub is_in : Numbers → ℕ → Bool
is_in s q = (q == s.one) || set.contains nat_cmp s.others q

-- Whether the number is listed under the key.
abbrev pub is_listed : {K : Type 0} → (K → K → Ordering) → BTreeMap K Numbers → K → ℕ → Bool
is_listed order m k q = option_map_or (λ s. is_in s q) (tree.get order m k) false

-- The answer is the first number from `from` on that passes, if there is one.
abbrev pub IsNext : (ℕ → Bool) → ℕ → Option ℕ → Type 0
IsNext P from None = (q : ℕ) → from ≤ q → P q ≡ false
IsNext P from (Some r) = (from ≤ r) × (P r ≡ true) × ((q : ℕ) → from ≤ q → q < r → P q ≡ false)
