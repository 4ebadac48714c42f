-- Items in the order of their numbers.
use Rattle.std.proofs.Common.{◌≡◌, ℕ, zero, suc, ◌<◌, ◌≤◌, Bool, true, false, cond, List, [], ◌∷◌, ◌++◌, map, Some, None, length, get_or, set, refl, sym, ap, subst, ◌∙◌, arith}
use Rattle.std.specs.Option.{option_map}
use Rattle.std.specs.Ordering.{is_eq, nat_cmp, match_ordering, MatchOrdering}
use Rattle.std.specs.declared.cmp.Ordering.{Ordering}
use Rattle.std.specs.Cmp.{nat_cmp_is, ranks}
use Rattle.std.specs.declared.cmp.Ordering.TheVariants.{Less, Equal, Greater}
use Rattle.std.specs.List.{slice_get, AllByRecursion, insert, remove}
use Rattle.std.specs.List.Sorted.{IsStrictlySortedBy}
use Rattle.std.specs.Map.{lookup, set_value, remove_entry}
use Rattle.std.specs.BTreeMap.{insert_entry, is_at}
use Rattle.std.proofs.lemmas.Option.{slice_get-get_or}
use Rattle.std.proofs.lemmas.Map.Keys.{sorted_head, sorted_tail}
use Rattle.gen_core.specs.declared.number_map.Item.{Item}
use Rattle.gen_core.specs.NumberMaps.{IsAscending, IsGap, numbers_of, pairs_of}

-- Whether a number is the one that is looked for.
abbrev pub at : ℕ → ℕ → Bool
at q = is_at (nat_cmp q)

-- ---- how numbers compare

module _ (q k : ℕ) where
  pub compares_less : q < k → nat_cmp q k ≡ Less
  compares_less h = sym (nat_cmp_is q k Less h)

  pub compares_greater : k < q → nat_cmp q k ≡ Greater
  compares_greater h = sym (nat_cmp_is q k Greater h)

  pub compares_equal : q ≡ k → nat_cmp q k ≡ Equal
  compares_equal h = sym (nat_cmp_is q k Equal h)

  pub less_is : nat_cmp q k ≡ Less → q < k
  less_is h = subst (λ r. MatchOrdering r (q < k) (q ≡ k) (k < q)) h (ranks q k)

-- No numbers, and one.
pub none_sorted : IsStrictlySortedBy nat_cmp []
unfolding IsStrictlySortedBy
none_sorted = tt

pub rising_one : (k : ℕ) → IsStrictlySortedBy nat_cmp (k ∷ [])
unfolding IsStrictlySortedBy
rising_one k = (tt, tt)

-- What a number is not.
pub tests_less : (q k : ℕ) → k < q → at q k ≡ false
tests_less q k h = ap is_eq (compares_greater q k h)

pub tests_greater : (q k : ℕ) → q < k → at q k ≡ false
tests_greater q k h = ap is_eq (compares_less q k h)

-- ---- what holds of all numbers

pub all_more : {P Q : ℕ → Type 0} → ((y : ℕ) → P y → Q y) → (ks : List ℕ) → AllByRecursion P ks → AllByRecursion Q ks
all_more f [] a = tt
all_more f (k ∷ ks) a = (f k a.0, all_more f ks a.1)

pub all_at : (P : ℕ → Type 0) (ks : List ℕ) (i q : ℕ) → AllByRecursion P ks → slice_get ks i ≡ Some q → P q
all_at P [] i q a h = absurd (cc)
all_at P (k ∷ ks) zero q a h = subst P (cc) a.0
all_at P (k ∷ ks) (suc i) q a h = all_at P ks i q a.1 h

pub all_append : (P : ℕ → Type 0) (ks js : List ℕ) → AllByRecursion P ks → AllByRecursion P js → AllByRecursion P (ks ++ js)
all_append P [] js a b = b
all_append P (k ∷ ks) js a b = (a.0, all_append P ks js a.1 b)

pub rising_head : (k : ℕ) (ks : List ℕ) → IsStrictlySortedBy nat_cmp (k ∷ ks) → AllByRecursion (λ y. k < y) ks
rising_head k ks s = all_more (λ y h. less_is k y h) ks (sorted_head nat_cmp k ks s)

pub rising_cons : (k : ℕ) (ks : List ℕ) → AllByRecursion (λ y. k < y) ks → IsStrictlySortedBy nat_cmp ks → IsStrictlySortedBy nat_cmp (k ∷ ks)
unfolding IsStrictlySortedBy
rising_cons k ks a s = (all_more (λ y h. compares_less k y h) ks a, s)

gap_front : (q k : ℕ) (ks : List ℕ) → q < k → AllByRecursion (λ y. k < y) ks → IsGap ks q 0
gap_front q k [] lt a = tt
gap_front q k (y ∷ ys) lt a = let more : k < y = a.0 in omega arith

-- ---- items

module _ {V : Type 0} where
  -- Where the numbers before a place are smaller and the one at the place is greater.
  pub gap_is : (xs : List (Item V)) (i q : ℕ) → i ≤ length xs → ((k : ℕ) (d : Item V) → k < i → (get_or xs k d).number < q)
      → ((d : Item V) → i < length xs → q < (get_or xs i d).number) → IsGap (numbers_of xs) q i
  gap_is [] zero q le below above = tt
  gap_is [] (suc i) q le below above = omega arith
  gap_is (x ∷ xs) zero q le below above = above x (omega arith)
  gap_is (x ∷ xs) (suc i) q le below above = (below 0 x (omega arith), gap_is xs i q (omega arith) (λ k d lt. below (suc k) d (omega arith)) (λ d lt. above d (omega arith)))

  -- What holds of all numbers holds of that of the item at a place.
  pub all_get : (P : ℕ → Type 0) (xs : List (Item V)) (j : ℕ) (d : Item V) → AllByRecursion P (numbers_of xs) → j < length xs → P (get_or xs j d).number
  all_get P [] j d a lt = let no : ⊥ = omega arith in absurd no
  all_get P (x ∷ xs) zero d a lt = a.0
  all_get P (x ∷ xs) (suc j) d a lt = all_get P xs j d a.1 (omega arith)

  -- Numbers do not fall.
  pub not_falling : (xs : List (Item V)) → IsAscending xs → (i j : ℕ) (d : Item V) → i ≤ j → j < length xs → (get_or xs i d).number ≤ (get_or xs j d).number
  not_falling [] s i j d le lt = let no : ⊥ = omega arith in absurd no
  not_falling (x ∷ xs) s zero zero d le lt = omega arith
  not_falling (x ∷ xs) s zero (suc j) d le lt = let less = all_get (λ k. x.number < k) xs j d (rising_head x.number (numbers_of xs) s) (omega arith) in omega arith
  not_falling (x ∷ xs) s (suc i) zero d le lt = let no : ⊥ = omega arith in absurd no
  not_falling (x ∷ xs) s (suc i) (suc j) d le lt = not_falling xs (sorted_tail nat_cmp x.number (numbers_of xs) s) i j d (omega arith) (omega arith)

  pub all_put : (P : ℕ → Type 0) (xs : List (Item V)) (i : ℕ) (y : Item V) → AllByRecursion P (numbers_of xs) → P y.number → AllByRecursion P (numbers_of (insert xs i y))
  all_put P [] zero y a h = (h, tt)
  all_put P [] (suc i) y a h = (h, tt)
  all_put P (x ∷ xs) zero y a h = (h, a)
  all_put P (x ∷ xs) (suc i) y a h = (a.0, all_put P xs i y a.1 h)

  pub all_out : (P : ℕ → Type 0) (xs : List (Item V)) (i : ℕ) → AllByRecursion P (numbers_of xs) → AllByRecursion P (numbers_of (remove xs i))
  all_out P [] zero a = tt
  all_out P [] (suc i) a = tt
  all_out P (x ∷ xs) zero a = a.1
  all_out P (x ∷ xs) (suc i) a = (a.0, all_out P xs i a.1)

  -- What the order is after an item is put in and taken out.
  pub sorted_put : (xs : List (Item V)) (i : ℕ) (y : Item V) → IsAscending xs → IsGap (numbers_of xs) y.number i → IsAscending (insert xs i y)
  sorted_put [] zero y s g = rising_cons y.number [] tt s
  sorted_put [] (suc i) y s g = absurd g
  sorted_put (x ∷ xs) zero y s g = rising_cons y.number (x.number ∷ numbers_of xs) (g, all_more (λ k h. omega arith) (numbers_of xs) (rising_head x.number (numbers_of xs) s)) s
  sorted_put (x ∷ xs) (suc i) y s g =
      rising_cons x.number (numbers_of (insert xs i y)) (all_put (λ k. x.number < k) xs i y (rising_head x.number (numbers_of xs) s) g.0)
      (sorted_put xs i y (sorted_tail nat_cmp x.number (numbers_of xs) s) g.1)

  pub sorted_out : (xs : List (Item V)) (i : ℕ) → IsAscending xs → IsAscending (remove xs i)
  sorted_out [] zero s = s
  sorted_out [] (suc i) s = s
  sorted_out (x ∷ xs) zero s = sorted_tail nat_cmp x.number (numbers_of xs) s
  sorted_out (x ∷ xs) (suc i) s =
      rising_cons x.number (numbers_of (remove xs i)) (all_out (λ k. x.number < k) xs i (rising_head x.number (numbers_of xs) s)) (sorted_out xs i (sorted_tail nat_cmp x.number (numbers_of xs) s))

  -- Where a number stands there is an item with it.
  pub place_within : (xs : List (Item V)) (i q : ℕ) → slice_get (numbers_of xs) i ≡ Some q → i < length xs
  place_within [] i q h = absurd (cc)
  place_within (x ∷ xs) zero q h = omega arith
  place_within (x ∷ xs) (suc i) q h = let lt = place_within xs i q h in omega arith

  pub place_number : (xs : List (Item V)) (i q : ℕ) (d : Item V) → slice_get (numbers_of xs) i ≡ Some q → (get_or xs i d).number ≡ q
  place_number [] i q d h = absurd (cc)
  place_number (x ∷ xs) zero q d h = cc
  place_number (x ∷ xs) (suc i) q d h = place_number xs i q d h

  pub gap_within : (xs : List (Item V)) (i q : ℕ) → IsGap (numbers_of xs) q i → i ≤ length xs
  gap_within [] zero q g = omega arith
  gap_within [] (suc i) q g = absurd g
  gap_within (x ∷ xs) zero q g = omega arith
  gap_within (x ∷ xs) (suc i) q g = let le = gap_within xs i q g.1 in omega arith

  -- What would stand before a place is all that is smaller than the number there and not than what would stand there too.
  pub gap_moves : (xs : List (Item V)) (i from q : ℕ) → IsGap (numbers_of xs) from i → from ≤ q → ((d : Item V) → i < length xs → q < (get_or xs i d).number) → IsGap (numbers_of xs) q i
  gap_moves [] zero from q g le above = tt
  gap_moves [] (suc i) from q g le above = absurd g
  gap_moves (x ∷ xs) zero from q g le above = above x (omega arith)
  gap_moves (x ∷ xs) (suc i) from q g le above = (let less : x.number < from = g.0 in omega arith, gap_moves xs i from q g.1 le (λ d lt. above d (omega arith)))

  pub number_there : (xs : List (Item V)) (i : ℕ) (x : Item V) → slice_get xs i ≡ Some x → slice_get (numbers_of xs) i ≡ Some x.number
  number_there [] i x h = absurd (cc)
  number_there (y ∷ xs) zero x h = let same : y ≡ x = cc in ap (λ (z : Item V). Some z.number) same
  number_there (y ∷ xs) (suc i) x h = number_there xs i x h

  pub gap_above : (xs : List (Item V)) (i q : ℕ) (x : Item V) → IsGap (numbers_of xs) q i → slice_get xs i ≡ Some x → q < x.number
  gap_above [] i q x g h = absurd (cc)
  gap_above (y ∷ xs) zero q x g h = let same : y ≡ x = cc in subst (λ (z : Item V). q < z.number) same g
  gap_above (y ∷ xs) (suc i) q x g h = gap_above xs i q x g.1 h

  module _ (q : ℕ) where
    -- A number at a place is greater than the first one.
    later : (x : Item V) (xs : List (Item V)) (i : ℕ) → IsAscending (x ∷ xs) → slice_get (numbers_of xs) i ≡ Some q → at q x.number ≡ false
    later x xs i s h = tests_less q x.number (all_at (λ k. x.number < k) (numbers_of xs) i q (rising_head x.number (numbers_of xs) s) h)

    -- The value on a number that stands at a place, and none where none stands.
    pub lookup_place : (xs : List (Item V)) (i : ℕ) → IsAscending xs → slice_get (numbers_of xs) i ≡ Some q
        → lookup (at q) (pairs_of xs) ≡ option_map (λ (x : Item V). x.value) (slice_get xs i)
    lookup_place [] i s h = refl
    lookup_place (x ∷ xs) zero s h = ap (λ b. cond b (Some x.value) (lookup (at q) (pairs_of xs))) (ap is_eq (compares_equal q x.number (cc)))
    lookup_place (x ∷ xs) (suc i) s h = ap (λ b. cond b (Some x.value) (lookup (at q) (pairs_of xs))) (later x xs i s h) ∙ lookup_place xs i (sorted_tail nat_cmp x.number (numbers_of xs) s) h

    pub value_place : (xs : List (Item V)) (i : ℕ) (d : Item V) → IsAscending xs → slice_get (numbers_of xs) i ≡ Some q → Some (get_or xs i d).value ≡ lookup (at q) (pairs_of xs)
    value_place xs i d s h = sym (lookup_place xs i s h ∙ ap (option_map (λ (x : Item V). x.value)) (slice_get-get_or xs i d (place_within xs i q h)))

    pub lookup_gap : (xs : List (Item V)) (i : ℕ) → IsAscending xs → IsGap (numbers_of xs) q i → lookup (at q) (pairs_of xs) ≡ None
    lookup_gap [] i s g = refl
    lookup_gap (x ∷ xs) zero s g =
        ap (λ b. cond b (Some x.value) (lookup (at q) (pairs_of xs))) (tests_greater q x.number g)
        ∙ lookup_gap xs 0 (sorted_tail nat_cmp x.number (numbers_of xs) s) (gap_front q x.number (numbers_of xs) g (rising_head x.number (numbers_of xs) s))
    lookup_gap (x ∷ xs) (suc i) s g = ap (λ b. cond b (Some x.value) (lookup (at q) (pairs_of xs))) (tests_less q x.number g.0) ∙ lookup_gap xs i (sorted_tail nat_cmp x.number (numbers_of xs) s) g.1

    -- An item is put where its number is missing.
    pub insert_gap : (xs : List (Item V)) (i : ℕ) (v : V) → IsGap (numbers_of xs) q i → insert_entry nat_cmp (pairs_of xs) q v ≡ pairs_of (insert xs i (record { number = q; value = v }))
    insert_gap [] zero v g = refl
    insert_gap [] (suc i) v g = absurd g
    insert_gap (x ∷ xs) zero v g =
        ap (λ o. match_ordering o ((q, v) ∷ (x.number, x.value) ∷ pairs_of xs) ((x.number, v) ∷ pairs_of xs) ((x.number, x.value) ∷ insert_entry nat_cmp (pairs_of xs) q v)) (compares_less q x.number g)
    insert_gap (x ∷ xs) (suc i) v g =
        ap (λ o. match_ordering o ((q, v) ∷ (x.number, x.value) ∷ pairs_of xs) ((x.number, v) ∷ pairs_of xs) ((x.number, x.value) ∷ insert_entry nat_cmp (pairs_of xs) q v)) (compares_greater q x.number g.0)
        ∙ ap (λ es. (x.number, x.value) ∷ es) (insert_gap xs i v g.1)

    -- A value is put on a number that has one.
    pub insert_place : (xs : List (Item V)) (i : ℕ) (v : V) → IsAscending xs → slice_get (numbers_of xs) i ≡ Some q → insert_entry nat_cmp (pairs_of xs) q v ≡ pairs_of (set xs i (record { number = q; value = v }))
    insert_place [] i v s h = absurd (cc)
    insert_place (x ∷ xs) zero v s h =
        let same : q ≡ x.number = cc in
        ap (λ o. match_ordering o ((q, v) ∷ (x.number, x.value) ∷ pairs_of xs) ((x.number, v) ∷ pairs_of xs) ((x.number, x.value) ∷ insert_entry nat_cmp (pairs_of xs) q v)) (compares_equal q x.number same)
        ∙ ap (λ n. (n, v) ∷ pairs_of xs) (sym same)
    insert_place (x ∷ xs) (suc i) v s h =
        let more = all_at (λ k. x.number < k) (numbers_of xs) i q (rising_head x.number (numbers_of xs) s) h in
        ap (λ o. match_ordering o ((q, v) ∷ (x.number, x.value) ∷ pairs_of xs) ((x.number, v) ∷ pairs_of xs) ((x.number, x.value) ∷ insert_entry nat_cmp (pairs_of xs) q v)) (compares_greater q x.number more)
        ∙ ap (λ es. (x.number, x.value) ∷ es) (insert_place xs i v (sorted_tail nat_cmp x.number (numbers_of xs) s) h)

    -- The numbers stay.
    pub numbers_set : (xs : List (Item V)) (i : ℕ) (y : Item V) → y.number ≡ q → slice_get (numbers_of xs) i ≡ Some q → numbers_of (set xs i y) ≡ numbers_of xs
    numbers_set [] i y e h = refl
    numbers_set (x ∷ xs) zero y e h = let same : q ≡ x.number = cc in ap (λ n. n ∷ numbers_of xs) (e ∙ same)
    numbers_set (x ∷ xs) (suc i) y e h = ap (λ ns. x.number ∷ ns) (numbers_set xs i y e h)

    -- The value of the item at a place is another.
    pub set_place : (xs : List (Item V)) (i : ℕ) (x : Item V) (w : V) → IsAscending xs → slice_get (numbers_of xs) i ≡ Some q → slice_get xs i ≡ Some x → set_value (at q) (pairs_of xs) w ≡ pairs_of (set xs i (record x { value = w }))
    set_place [] i x w s h here = absurd (cc)
    set_place (y ∷ ys) zero x w s h here =
        let same : y ≡ x = cc in
        ap (λ b. cond b ((y.number, w) ∷ pairs_of ys) ((y.number, y.value) ∷ set_value (at q) (pairs_of ys) w)) (ap is_eq (compares_equal q y.number (cc)))
        ∙ ap (λ (z : Item V). (z.number, w) ∷ pairs_of ys) same
    set_place (y ∷ ys) (suc i) x w s h here =
        ap (λ b. cond b ((y.number, w) ∷ pairs_of ys) ((y.number, y.value) ∷ set_value (at q) (pairs_of ys) w)) (later y ys i s h)
        ∙ ap (λ es. (y.number, y.value) ∷ es) (set_place ys i x w (sorted_tail nat_cmp y.number (numbers_of ys) s) h here)

    -- The item at a place is taken out.
    pub remove_place : (xs : List (Item V)) (i : ℕ) → IsAscending xs → slice_get (numbers_of xs) i ≡ Some q → remove_entry (at q) (pairs_of xs) ≡ pairs_of (remove xs i)
    remove_place [] i s h = absurd (cc)
    remove_place (x ∷ xs) zero s h = ap (λ b. cond b (pairs_of xs) ((x.number, x.value) ∷ remove_entry (at q) (pairs_of xs))) (ap is_eq (compares_equal q x.number (cc)))
    remove_place (x ∷ xs) (suc i) s h =
        ap (λ b. cond b (pairs_of xs) ((x.number, x.value) ∷ remove_entry (at q) (pairs_of xs))) (later x xs i s h)
        ∙ ap (λ es. (x.number, x.value) ∷ es) (remove_place xs i (sorted_tail nat_cmp x.number (numbers_of xs) s) h)

-- ---- lists of pairs, one behind the other

module _ {X : Type 0} (q : ℕ) where
  none_found : (e : ℕ × X) (es : List (ℕ × X)) (b : Bool) → cond b (Some e.1) (lookup (at q) es) ≡ None → (b ≡ false) × (lookup (at q) es ≡ None)
  none_found e es true n = absurd (cc)
  none_found e es false n = (refl, n)

  -- What is missing of two lists is missing of each.
  pub missing_both : (es fs : List (ℕ × X)) → lookup (at q) (es ++ fs) ≡ None → (lookup (at q) es ≡ None) × (lookup (at q) fs ≡ None)
  missing_both [] fs h = (refl, h)
  missing_both (e ∷ es) fs h =
      let n = none_found e (es ++ fs) (at q e.0) h in
      let m = missing_both es fs n.1 in
      (ap (λ b. cond b (Some e.1) (lookup (at q) es)) n.0 ∙ m.0, m.1)

  pub lookup_right : (es fs : List (ℕ × X)) → lookup (at q) es ≡ None → lookup (at q) (es ++ fs) ≡ lookup (at q) fs
  lookup_right [] fs h = refl
  lookup_right (e ∷ es) fs h =
      let n = none_found e es (at q e.0) h in
      ap (λ b. cond b (Some e.1) (lookup (at q) (es ++ fs))) n.0 ∙ lookup_right es fs n.1

  pub lookup_left : (es fs : List (ℕ × X)) → lookup (at q) fs ≡ None → lookup (at q) (es ++ fs) ≡ lookup (at q) es
  lookup_left [] fs h = h
  lookup_left (e ∷ es) fs h = ap (λ o. cond (at q e.0) (Some e.1) o) (lookup_left es fs h)

  pub insert_left : (es fs : List (ℕ × X)) (v : X) → AllByRecursion (λ k. q < k) (map (λ (e : ℕ × X). e.0) fs) → insert_entry nat_cmp (es ++ fs) q v ≡ insert_entry nat_cmp es q v ++ fs
  insert_left [] [] v a = refl
  insert_left [] (f ∷ fs) v a = ap (λ o. match_ordering o ((q, v) ∷ f ∷ fs) ((f.0, v) ∷ fs) (f ∷ insert_entry nat_cmp fs q v)) (compares_less q f.0 a.0)
  insert_left (e ∷ es) fs v a = go (nat_cmp q e.0) (insert_left es fs v a)
    where
      go : (o : Ordering) → insert_entry nat_cmp (es ++ fs) q v ≡ insert_entry nat_cmp es q v ++ fs
          → match_ordering o ((q, v) ∷ e ∷ (es ++ fs)) ((e.0, v) ∷ (es ++ fs)) (e ∷ insert_entry nat_cmp (es ++ fs) q v) ≡ match_ordering o ((q, v) ∷ e ∷ es) ((e.0, v) ∷ es) (e ∷ insert_entry nat_cmp es q v) ++ fs
      go Less same = refl
      go Equal same = refl
      go Greater same = ap (λ l. e ∷ l) same

  pub insert_right : (es fs : List (ℕ × X)) (v : X) → AllByRecursion (λ k. k < q) (map (λ (e : ℕ × X). e.0) es) → insert_entry nat_cmp (es ++ fs) q v ≡ es ++ insert_entry nat_cmp fs q v
  insert_right [] fs v a = refl
  insert_right (e ∷ es) fs v a =
      ap (λ o. match_ordering o ((q, v) ∷ e ∷ (es ++ fs)) ((e.0, v) ∷ (es ++ fs)) (e ∷ insert_entry nat_cmp (es ++ fs) q v)) (compares_greater q e.0 a.0)
      ∙ ap (λ l. e ∷ l) (insert_right es fs v a.1)

  pub remove_none : (es : List (ℕ × X)) → lookup (at q) es ≡ None → remove_entry (at q) es ≡ es
  remove_none [] h = refl
  remove_none (e ∷ es) h =
      let n = none_found e es (at q e.0) h in
      ap (λ b. cond b es (e ∷ remove_entry (at q) es)) n.0 ∙ ap (λ l. e ∷ l) (remove_none es n.1)

  pub remove_right : (es fs : List (ℕ × X)) → lookup (at q) es ≡ None → remove_entry (at q) (es ++ fs) ≡ es ++ remove_entry (at q) fs
  remove_right [] fs h = refl
  remove_right (e ∷ es) fs h =
      let n = none_found e es (at q e.0) h in
      ap (λ b. cond b (es ++ fs) (e ∷ remove_entry (at q) (es ++ fs))) n.0 ∙ ap (λ l. e ∷ l) (remove_right es fs n.1)

  pub remove_left : (es fs : List (ℕ × X)) → lookup (at q) fs ≡ None → remove_entry (at q) (es ++ fs) ≡ remove_entry (at q) es ++ fs
  remove_left [] fs h = remove_none fs h
  remove_left (e ∷ es) fs h = go (at q e.0) (remove_left es fs h)
    where
      go : (b : Bool) → remove_entry (at q) (es ++ fs) ≡ remove_entry (at q) es ++ fs → cond b (es ++ fs) (e ∷ remove_entry (at q) (es ++ fs)) ≡ cond b es (e ∷ remove_entry (at q) es) ++ fs
      go true same = refl
      go false same = ap (λ l. e ∷ l) same

  pub set_none : (es : List (ℕ × X)) (w : X) → lookup (at q) es ≡ None → set_value (at q) es w ≡ es
  set_none [] w h = refl
  set_none (e ∷ es) w h =
      let n = none_found e es (at q e.0) h in
      ap (λ b. cond b ((e.0, w) ∷ es) (e ∷ set_value (at q) es w)) n.0 ∙ ap (λ l. e ∷ l) (set_none es w n.1)

  pub set_right : (es fs : List (ℕ × X)) (w : X) → lookup (at q) es ≡ None → set_value (at q) (es ++ fs) w ≡ es ++ set_value (at q) fs w
  set_right [] fs w h = refl
  set_right (e ∷ es) fs w h =
      let n = none_found e es (at q e.0) h in
      ap (λ b. cond b ((e.0, w) ∷ (es ++ fs)) (e ∷ set_value (at q) (es ++ fs) w)) n.0 ∙ ap (λ l. e ∷ l) (set_right es fs w n.1)

  pub set_left : (es fs : List (ℕ × X)) (w : X) → lookup (at q) fs ≡ None → set_value (at q) (es ++ fs) w ≡ set_value (at q) es w ++ fs
  set_left [] fs w h = set_none fs w h
  set_left (e ∷ es) fs w h = go (at q e.0) (set_left es fs w h)
    where
      go : (b : Bool) → set_value (at q) (es ++ fs) w ≡ set_value (at q) es w ++ fs
          → cond b ((e.0, w) ∷ (es ++ fs)) (e ∷ set_value (at q) (es ++ fs) w) ≡ cond b ((e.0, w) ∷ es) (e ∷ set_value (at q) es w) ++ fs
      go true same = refl
      go false same = ap (λ l. e ∷ l) same
