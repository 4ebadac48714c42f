-- What is read of clauses row by row, and from the first one on.
use Rattle.std.proofs.Common.{◌≡◌, ℕ, zero, suc, ◌+◌, ◌<◌, ◌≤◌, Bool, true, false, not, ◌&&◌, ◌||◌, List, [], ◌∷◌, ◌++◌, map, take, Option, Some, None, refl, sym, ap, ap₂, ◌∙◌, subst, arith, inl, inr}
use Rattle.std.specs.Prelude.{sum_by, min}
use Rattle.std.specs.List.{list_any, slice_get}
use Rattle.std.specs.Option.{IfSome, option_map, option_map_or}
use Rattle.std.specs.declared.cmp.Ordering.{Ordering}
use Rattle.std.specs.Map.{values_of}
use Rattle.std.proofs.lemmas.Bool.{cases_lt, false≢true}
use Rattle.std.proofs.lemmas.List.{map-append}
use Rattle.std.proofs.lemmas.List.Sums.{sum_by-cons}
use Rattle.gen_core.specs.declared.dated_clause.DatedClause.{DatedClause}
use Rattle.gen_core.specs.declared.clause_index.Entry.{Entry}
use Rattle.gen_core.specs.declared.clause_index.ClauseIndex.{ClauseIndex}
use Rattle.gen_core.specs.declared.number_map.Item.{Item}
use Rattle.pl_model.specs.FirstArguments.{are_apart}
use Rattle.gen_core.specs.Index.{IsNext}
use Rattle.gen_core.specs.Numbers.{IsNumbered}
use Rattle.gen_core.specs.NumberMaps.{ByNumber, IsFirstFrom, NoneFrom, Row, flat, pairs_of}
use Rattle.gen_core.specs.Visible.{is_choice, is_visible, live_size}
use Rattle.gen_core.specs.ClauseIndex.{IsSound, erased_from, holds}
use Rattle.gen_core.proofs.Calls.{tried_is}

or-joined : (a b c : Bool) → (a || (b || c)) ≡ ((a || b) || c)
or-joined true b c = refl
or-joined false b c = refl

ends : {X : Type 0} (xs : List X) → xs ++ [] ≡ xs
ends [] = refl
ends (x ∷ xs) = ap (λ ys. x ∷ ys) (ends xs)

joined : {X : Type 0} (xs ys zs : List X) → xs ++ (ys ++ zs) ≡ (xs ++ ys) ++ zs
joined [] ys zs = refl
joined (x ∷ xs) ys zs = ap (λ ws. x ∷ ws) (joined xs ys zs)

-- ---- lists that are read from the front

pub mapped_same : {X : Type 0} (xs : List X) → map (λ x. x) xs ≡ xs
mapped_same [] = refl
mapped_same (x ∷ xs) = ap (λ ys. x ∷ ys) (mapped_same xs)

module _ {X Y : Type 0} (f : X → Y) where
  map_take : (xs : List X) (i : ℕ) (x : X) → slice_get xs i ≡ Some x → map f (take (suc i) xs) ≡ map f (take i xs) ++ f x ∷ []
  map_take [] i x h = absurd (cc)
  map_take (y ∷ ys) zero x h = let same : y ≡ x = cc in ap (λ z. f z ∷ []) same
  map_take (y ∷ ys) (suc i) x h = ap (λ zs. f y ∷ zs) (map_take ys i x h)

  -- One more is pushed.
  pub pushed_more : (old now new : List Y) (xs : List X) (i : ℕ) (x : X) (y : Y) → slice_get xs i ≡ Some x → y ≡ f x → now ≡ old ++ map f (take i xs) → new ≡ now ++ y ∷ [] → new ≡ old ++ map f (take (suc i) xs)
  pushed_more old now new xs i x y h e was is =
      is ∙ ap₂ (λ zs z. zs ++ z ∷ []) was e ∙ sym (joined old (map f (take i xs)) (f x ∷ [])) ∙ ap (λ zs. old ++ zs) (sym (map_take xs i x h))

module _ {X : Type 0} (f : X → ℕ) where
  sum_take : (xs : List X) (i : ℕ) (x : X) → slice_get xs i ≡ Some x → sum_by f (take (suc i) xs) ≡ sum_by f (take i xs) + f x
  sum_take [] i x h = absurd (cc)
  sum_take (y ∷ ys) zero x h =
      let same : y ≡ x = cc in
      let a : sum_by f (y ∷ []) ≡ f y + 0 = sum_by-cons f y [] in
      let b = ap f same in
      omega (arith, a, b)
  sum_take (y ∷ ys) (suc i) x h =
      let a = sum_by-cons f y (take (suc i) ys) in
      let b = sum_by-cons f y (take i ys) in
      let c = sum_take ys i x h in
      omega (arith, a, b, c)

  -- A sum that stops at a bound, with one number more that stops there.
  pub summed_more : (bound : ℕ) (xs : List X) (i : ℕ) (x : X) (n m k : ℕ) → slice_get xs i ≡ Some x → n ≡ min (sum_by f (take i xs)) bound → m ≡ min (f x) bound → k ≡ min (n + m) bound
      → k ≡ min (sum_by f (take (suc i) xs)) bound
  summed_more bound xs i x n m k h a b c = let d = sum_take xs i x h in omega (arith, a, b, c, d)

module _ {X : Type 0} (t : X → Bool) where
  pub any_more : (xs : List X) (i : ℕ) (x : X) → slice_get xs i ≡ Some x → list_any t (take i xs) ≡ false → t x ≡ false → list_any t (take (suc i) xs) ≡ false
  any_more [] i x h a n = absurd (cc)
  any_more (y ∷ ys) zero x h a n = let same : y ≡ x = cc in ap (λ b. b || false) (ap t same ∙ n)
  any_more (y ∷ ys) (suc i) x h a n =
      let e = neither (t y) (list_any t (take i ys)) a in
      ap₂ ◌||◌ e.0 (any_more ys i x h e.1 n)
    where
      neither : (b c : Bool) → (b || c) ≡ false → (b ≡ false) × (c ≡ false)
      neither true c m = absurd (false≢true (sym m))
      neither false c m = (refl, m)

module _ {V : Type 0} (t : V → Bool) where
  any_row : (xs : List (Item V)) (es : List (ℕ × V)) → list_any t (values_of (pairs_of xs ++ es)) ≡ (list_any (λ x. t x.value) xs || list_any t (values_of es))
  any_row [] es = refl
  any_row (x ∷ xs) es = ap (λ b. t x.value || b) (any_row xs es) ∙ or-joined (t x.value) (list_any (λ y. t y.value) xs) (list_any t (values_of es))

  -- Whether one of all values passes.
  pub any_flat : (rs : List (Row V)) → list_any (λ r. list_any (λ x. t x.value) r.value.items) rs ≡ list_any t (values_of (flat rs))
  any_flat [] = refl
  any_flat (r ∷ rs) = ap (λ b. list_any (λ x. t x.value) r.value.items || b) (any_flat rs) ∙ sym (any_row r.value.items (flat rs))

module _ {C K : Type 0} where
  -- ---- cells

  module _ (size : C → ℕ) where
    abbrev pub item_cells : Item (Entry C K) → ℕ
    item_cells x = live_size size x.value.dated

    cells_row : (xs : List (Item (Entry C K))) (es : List (ℕ × Entry C K))
        → sum_by (live_size size) (map (λ e. e.1.dated) (pairs_of xs ++ es)) ≡ sum_by item_cells xs + sum_by (live_size size) (map (λ e. e.1.dated) es)
    cells_row [] es = let more : (n : ℕ) → n ≡ 0 + n = λ n. omega arith in more (sum_by (live_size size) (map (λ (e : ℕ × Entry C K). e.1.dated) es))
    cells_row (x ∷ xs) es =
        let a = sum_by-cons (live_size size) x.value.dated (map (λ e. e.1.dated) (pairs_of xs ++ es)) in
        let b = sum_by-cons item_cells x xs in
        let c = cells_row xs es in
        omega (arith, a, b, c)

    pub cells_flat : (rs : List (Row (Entry C K))) → sum_by (λ r. sum_by item_cells r.value.items) rs ≡ sum_by (live_size size) (map (λ e. e.1.dated) (flat rs))
    cells_flat [] = refl
    cells_flat (r ∷ rs) =
        let a = sum_by-cons (λ (x : Row (Entry C K)). sum_by item_cells x.value.items) r rs in
        let b = cells_row r.value.items (flat rs) in
        let c = cells_flat rs in
        omega (arith, a, b, c)

  -- ---- erasures

  abbrev pub erasure_of : ℕ → ℕ × Entry C K → ℕ × ℕ
  erasure_of place e = (erased_from place e.1.dated, e.0)

  erasures_row : (place : ℕ) (xs : List (Item (Entry C K))) → map (erasure_of place) (pairs_of xs) ≡ map (λ x. (erased_from place x.value.dated, x.number)) xs
  erasures_row place [] = refl
  erasures_row place (x ∷ xs) = ap (λ ps. (erased_from place x.value.dated, x.number) ∷ ps) (erasures_row place xs)

  -- The erasures of a row more.
  pub erasures_more : (place : ℕ) (rs : List (Row (Entry C K))) (i : ℕ) (row : Row (Entry C K)) → slice_get rs i ≡ Some row
      → map (erasure_of place) (flat (take (suc i) rs)) ≡ map (erasure_of place) (flat (take i rs)) ++ map (λ x. (erased_from place x.value.dated, x.number)) row.value.items
  erasures_more place [] i row h = absurd (cc)
  erasures_more place (r ∷ rs) zero row h =
      let same : r ≡ row = cc in
      map-append (erasure_of place) (pairs_of r.value.items) []
      ∙ ends (map (erasure_of place) (pairs_of r.value.items))
      ∙ erasures_row place r.value.items
      ∙ ap (λ (x : Row (Entry C K)). map (λ y. (erased_from place y.value.dated, y.number)) x.value.items) same
  erasures_more place (r ∷ rs) (suc i) row h =
      map-append (erasure_of place) (pairs_of r.value.items) (flat (take (suc i) rs))
      ∙ ap (λ ps. map (erasure_of place) (pairs_of r.value.items) ++ ps) (erasures_more place rs i row h)
      ∙ joined (map (erasure_of place) (pairs_of r.value.items)) (map (erasure_of place) (flat (take i rs))) (map (λ x. (erased_from place x.value.dated, x.number)) row.value.items)
      ∙ ap (λ ps. ps ++ map (λ x. (erased_from place x.value.dated, x.number)) row.value.items) (sym (map-append (erasure_of place) (pairs_of r.value.items) (flat (take i rs))))

  -- ---- the first one from a number on

  module _ (m : ByNumber (Entry C K)) (t : DatedClause C → Bool) where
    abbrev passes : Option (Entry C K) → Bool
    passes o = option_map_or t (option_map (λ e. e.dated) o) false

    pub tried_next : (start from : ℕ) (x : Item (Entry C K)) → start ≤ from → ((q : ℕ) → start ≤ q → q < from → holds m t q ≡ false)
        → IsFirstFrom m.entries from x → t x.value.dated ≡ true → IsNext (holds m t) start (Some x.number)
    tried_next start from x le passed f h = (
      (let l = f.later in omega (arith, l, le)),
      ap passes f.there ∙ h,
      λ q l n. elim (cases_lt q from) [ inl b ↦ passed q l b | inr b ↦ ap passes (f.between q b n) ],
    )

    pub tried_past : (start from : ℕ) (x : Item (Entry C K)) → start ≤ from → ((q : ℕ) → start ≤ q → q < from → holds m t q ≡ false)
        → IsFirstFrom m.entries from x → t x.value.dated ≡ false → (q : ℕ) → start ≤ q → q < x.number + 1 → holds m t q ≡ false
    tried_past start from x le passed f h q l n = elim (cases_lt q from) [
      | inl b ↦ passed q l b
      | inr b ↦ elim (cases_lt q x.number) [
        | inl c ↦ ap passes (f.between q b c)
        | inr c ↦ let same : q ≡ x.number = omega (arith, n, c) in ap (holds m t) same ∙ ap passes f.there ∙ h
      ]
    ]

    pub tried_none : (start from : ℕ) → ((q : ℕ) → start ≤ q → q < from → holds m t q ≡ false) → NoneFrom m.entries from → IsNext (holds m t) start None
    tried_none start from passed none = λ q l. elim (cases_lt q from) [ inl b ↦ passed q l b | inr b ↦ ap passes (none q b) ]

-- The key that is kept with the first one is that of its clause.
module _ {C K : Type 0} (order : K → K → Ordering) (any : K → Bool) (key_of : C → K) (s : ClauseIndex C K) (sound : IsSound order any key_of s) (g : ℕ) (first : K) where
  pub tried_by_key : (from : ℕ) (x : Item (Entry C K)) (b : Bool) → IsFirstFrom s.clauses.entries from x
      → b ≡ (is_visible g x.value.dated && not (are_apart order any first x.value.key)) → is_choice order any key_of g first x.value.dated ≡ b
  tried_by_key from x b f is =
      let p : IfSome (Some x.value) (λ e. IsNumbered x.number e.dated.place × (e.key ≡ key_of e.dated.clause)) = subst (λ o. IfSome o (λ e. IsNumbered x.number e.dated.place × (e.key ≡ key_of e.dated.clause))) f.there (sound.numbered x.number) in
      tried_is order any key_of g first x.value b p.1 is
