-- Values by numbers, in rows of the numbers that have one quotient by 64.
use Rattle.std.specs.Prelude.{◌≡◌, ℕ, ◌<◌, ◌≤◌, ◌/◌, List, [], ◌∷◌, ◌++◌, cond, map, Option, Some, None, ⊤, zero, suc, Vec}
use Rattle.std.specs.declared.alloc.Global.{Global}
use Rattle.std.specs.Ordering.{nat_cmp}
use Rattle.std.specs.List.{slice_get, AllByRecursion}
use Rattle.std.specs.List.Sorted.{IsStrictlySortedBy}
use Rattle.std.specs.Map.{keys_of, lookup, values_of}
use Rattle.std.specs.BTreeMap.{is_at}
use Rattle.std.specs.declared.result.Result.{Result}
use Rattle.std.specs.declared.result.Result.TheVariants.{Ok, Err}
use Rattle.gen_core.specs.declared.number_map.Item.{Item}

-- The numbers with their values, in the order of the numbers.
pub record ByNumber (V : Type 0) : Type 0 where
  pub entries : List (ℕ × V)

module _ {V : Type 0} where
  -- The value on a number.
  abbrev pub get : ByNumber V → ℕ → Option V
  get m q = lookup (is_at (nat_cmp q)) m.entries

  -- The values, in the order of their numbers.
  abbrev pub values : ByNumber V → List V
  values m = values_of m.entries

  -- The numbers ascend.
  abbrev pub IsOrdered : ByNumber V → Type 0
  IsOrdered m = IsStrictlySortedBy nat_cmp (keys_of m.entries)

  -- n has w on the number (`None` takes it out), and has on each other number what m has.
  abbrev pub Updates : ByNumber V → ByNumber V → ℕ → Option V → Type 0
  Updates m n k w = ((q : ℕ) → get n q ≡ cond (is_at (nat_cmp k) q) w (get m q)) × (get n k ≡ w)

-- ---- rows

-- The numbers of items, and these with the values.
abbrev pub numbers_of : {V : Type 0} → List (Item V) → List ℕ
numbers_of xs = map (λ x. x.number) xs

abbrev pub pairs_of : {V : Type 0} → List (Item V) → List (ℕ × V)
pairs_of xs = map (λ x. (x.number, x.value)) xs

-- The items stand in the order of their numbers.
abbrev pub IsAscending : {V : Type 0} → List (Item V) → Type 0
IsAscending xs = IsStrictlySortedBy nat_cmp (numbers_of xs)

-- A number that is not there would stand before the place.
abbrev pub IsGap : List ℕ → ℕ → ℕ → Type 0
IsGap [] q zero = ⊤
IsGap [] q (suc i) = ⊥
IsGap (k ∷ ks) q zero = q < k
IsGap (k ∷ ks) q (suc i) = (k < q) × IsGap ks q i

-- Where a number stands, or would stand.
abbrev pub IsPlace : {V : Type 0} → List (Item V) → ℕ → Result ℕ ℕ → Type 0
IsPlace xs q (Ok i) = slice_get (numbers_of xs) i ≡ Some q
IsPlace xs q (Err i) = IsGap (numbers_of xs) q i

-- A row: the items whose numbers have one quotient, under that.
abbrev pub Row : Type 0 → Type 0
Row V = Item (Vec (Item V) Global)

-- The pairs of all rows, one behind the other.
abbrev pub flat : {V : Type 0} → List (Row V) → List (ℕ × V)
flat [] = []
flat (r ∷ rs) = pairs_of r.value.items ++ flat rs

-- The items of a row stand in order, and the row has the quotient of their numbers.
pub record IsRow {V : Type 0} (r : Row V) : Type 0 where
  pub ascending : IsAscending r.value.items
  pub quotient : AllByRecursion (λ k. k / 64 ≡ r.number) (numbers_of r.value.items)

abbrev pub AreRows : {V : Type 0} → List (Row V) → Type 0
AreRows [] = ⊤
AreRows (r ∷ rs) = IsRow r × AreRows rs

-- The item is the first one from a number on, among pairs in order; where there is none, no pair is on a number from there on.
pub record IsFirstFrom {V : Type 0} (es : List (ℕ × V)) (from : ℕ) (x : Item V) : Type 0 where
  pub later : from ≤ x.number
  pub there : lookup (is_at (nat_cmp x.number)) es ≡ Some x.value
  pub between : (q : ℕ) → from ≤ q → q < x.number → lookup (is_at (nat_cmp q)) es ≡ None

abbrev pub NoneFrom : {V : Type 0} → List (ℕ × V) → ℕ → Type 0
NoneFrom es from = (q : ℕ) → from ≤ q → lookup (is_at (nat_cmp q)) es ≡ None
