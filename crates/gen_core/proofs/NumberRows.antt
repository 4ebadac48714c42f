-- Rows of items: what is looked for, put in and taken out in one of them.
use Rattle.std.proofs.Common.{◌≡◌, ℕ, zero, suc, ◌/◌, ◌<◌, ◌≤◌, ◌==◌, true, false, cond, List, [], ◌∷◌, ◌++◌, map, length, set, take, Bor, Option, Some, None, inl, inr, refl, sym, ap, subst, ◌∙◌, arith}
use Rattle.std.specs.Prelude.{◌⊎◌}
use Rattle.std.specs.Ordering.{is_eq, nat_cmp}
use Rattle.std.specs.List.{slice_get, AllByRecursion, insert, remove}
use Rattle.std.specs.List.Sorted.{IsStrictlySortedBy}
use Rattle.std.specs.Option.{IfNone, IfSome, option_map}
use Rattle.std.specs.Slice.{IsItemAt}
use Rattle.std.specs.Result.{IfErr, OnOk}
use Rattle.std.specs.declared.result.Result.{Result}
use Rattle.std.specs.declared.result.Result.TheVariants.{Ok, Err}
use Rattle.std.proofs.lemmas.Option.{get_or_from_slice_get, slice_get_read}
use Rattle.std.specs.Map.{keys_of, lookup, set_value, remove_entry}
use Rattle.std.specs.BTreeMap.{insert_entry}
use Rattle.std.proofs.lemmas.Bool.{cases_lt}
use borrow.Author.Tests.{eqb-true}
use Rattle.std.proofs.lemmas.Nat.{le-div}
use Rattle.std.proofs.Math.Nat.{div-mul-le_self}
use Rattle.std.proofs.lemmas.Map.Keys.{sorted_tail}
use Rattle.gen_core.specs.declared.number_map.Item.{Item}
use Rattle.gen_core.specs.NumberMaps.{AreRows, IsAscending, IsFirstFrom, IsGap, IsRow, NoneFrom, Row, flat, numbers_of, pairs_of}
use Rattle.gen_core.proofs.NumberLaws.{at, all_at, all_more, compares_greater, compares_less, gap_above, gap_moves, insert_left, insert_right, lookup_gap, lookup_left, lookup_place, lookup_right, missing_both, none_sorted, number_there, place_number, remove_left, remove_right, rising_cons, rising_head, set_left, set_right, tests_greater, tests_less}

-- Of numbers with quotients that rise the numbers rise.
pub quotients_rise : (a b : ℕ) → a / 64 < b / 64 → a < b
quotients_rise a b h = go (cases_lt a b)
  where
    go : (a < b) ⊎ (b ≤ a) → a < b
    go (inl l) = l
    go (inr le) =
        let up : b / 64 ≤ a / 64 = le-div (b / 64) a 64 (omega arith) (let m = div-mul-le_self b 64 in omega arith) in
        let no : ⊥ = omega arith in absurd no

-- No items where there are none to count.
pub empty_is : {X : Type 0} (xs : List X) → (length xs == 0) ≡ true → xs ≡ []
empty_is [] h = refl
empty_is (x ∷ xs) h = let none : length (x ∷ xs) ≡ 0 = eqb-true (length (x ∷ xs)) 0 h in let no : ⊥ = omega (arith, none) in absurd no

-- Quotients do not fall.
pub quotients_up : (a b : ℕ) → a ≤ b → a / 64 ≤ b / 64
quotients_up a b h = le-div (a / 64) b 64 (omega arith) (let m = div-mul-le_self a 64 in omega arith)

module _ {V : Type 0} where
  firsts : (P : ℕ → Type 0) (xs : List (Item V)) → AllByRecursion P (numbers_of xs) → AllByRecursion P (map (λ (e : ℕ × V). e.0) (pairs_of xs))
  firsts P [] a = tt
  firsts P (x ∷ xs) a = (a.0, firsts P xs a.1)

  firsts_append : (P : ℕ → Type 0) (es fs : List (ℕ × V)) → AllByRecursion P (map (λ (e : ℕ × V). e.0) es) → AllByRecursion P (map (λ (e : ℕ × V). e.0) fs)
      → AllByRecursion P (map (λ (e : ℕ × V). e.0) (es ++ fs))
  firsts_append P [] fs a b = b
  firsts_append P (e ∷ es) fs a b = (a.0, firsts_append P es fs a.1 b)

  module _ (q : ℕ) where
    misses : (es : List (ℕ × V)) → AllByRecursion (λ k. at q k ≡ false) (map (λ (e : ℕ × V). e.0) es) → lookup (at q) es ≡ None
    misses [] a = refl
    misses (e ∷ es) a = ap (λ b. cond b (Some e.1) (lookup (at q) es)) a.0 ∙ misses es a.1

    -- The numbers of a row with a smaller or a greater quotient.
    row_less : (r : Row V) → IsRow r → r.number < q / 64 → AllByRecursion (λ k. k < q) (map (λ (e : ℕ × V). e.0) (pairs_of r.value.items))
    row_less r row less = firsts (λ k. k < q) r.value.items (all_more (λ k h. quotients_rise k q (let e : k / 64 ≡ r.number = h in omega arith)) (numbers_of r.value.items) row.quotient)

    row_more : (r : Row V) → IsRow r → q / 64 < r.number → AllByRecursion (λ k. q < k) (map (λ (e : ℕ × V). e.0) (pairs_of r.value.items))
    row_more r row more = firsts (λ k. q < k) r.value.items (all_more (λ k h. quotients_rise q k (let e : k / 64 ≡ r.number = h in omega arith)) (numbers_of r.value.items) row.quotient)

    flat_more : (rs : List (Row V)) → AreRows rs → AllByRecursion (λ k. q / 64 < k) (numbers_of rs) → AllByRecursion (λ k. q < k) (map (λ (e : ℕ × V). e.0) (flat rs))
    flat_more [] a h = tt
    flat_more (r ∷ rs) a h = firsts_append (λ k. q < k) (pairs_of r.value.items) (flat rs) (row_more r a.0 h.0) (flat_more rs a.1 h.1)

    missing_less : (es : List (ℕ × V)) → AllByRecursion (λ k. k < q) (map (λ (e : ℕ × V). e.0) es) → lookup (at q) es ≡ None
    missing_less es a = misses es (all_more (λ k h. ap is_eq (compares_greater q k h)) (map (λ (e : ℕ × V). e.0) es) a)

    missing_more : (es : List (ℕ × V)) → AllByRecursion (λ k. q < k) (map (λ (e : ℕ × V). e.0) es) → lookup (at q) es ≡ None
    missing_more es a = misses es (all_more (λ k h. ap is_eq (compares_less q k h)) (map (λ (e : ℕ × V). e.0) es) a)

    -- The rows behind the one of a number have greater quotients.
    behind : (r : Row V) (rs : List (Row V)) → IsAscending (r ∷ rs) → r.number ≡ q / 64 → AllByRecursion (λ k. q / 64 < k) (numbers_of rs)
    behind r rs s e = subst (λ n. AllByRecursion (λ k. n < k) (numbers_of rs)) e (rising_head r.number (numbers_of rs) s)

    before : (r : Row V) (rs : List (Row V)) (i : ℕ) → IsAscending (r ∷ rs) → slice_get (numbers_of rs) i ≡ Some (q / 64) → r.number < q / 64
    before r rs i s h = all_at (λ k. r.number < k) (numbers_of rs) i (q / 64) (rising_head r.number (numbers_of rs) s) h

    numbered : (rs : List (Row V)) (i : ℕ) (row : Row V) → slice_get rs i ≡ Some row → row.number ≡ q / 64 → slice_get (numbers_of rs) i ≡ Some (q / 64)
    numbered [] i row h e = absurd (cc)
    numbered (r ∷ rs) zero row h e = let same : r ≡ row = cc in ap (λ (x : Row V). Some x.number) same ∙ ap (λ n. Some n) e
    numbered (r ∷ rs) (suc i) row h e = numbered rs i row h e

    -- What is looked for in the row of its quotient, and where there is no such row.
    pub lookup_in : (rs : List (Row V)) (i : ℕ) (row : Row V) → IsAscending rs → AreRows rs → slice_get rs i ≡ Some row → row.number ≡ q / 64
        → lookup (at q) (flat rs) ≡ lookup (at q) (pairs_of row.value.items)
    lookup_in [] i row s a h e = absurd (cc)
    lookup_in (r ∷ rs) zero row s a h e =
        let same : r ≡ row = cc in
        lookup_left q (pairs_of r.value.items) (flat rs) (missing_more (flat rs) (flat_more rs a.1 (behind r rs s (ap (λ (x : Row V). x.number) same ∙ e))))
        ∙ ap (λ (x : Row V). lookup (at q) (pairs_of x.value.items)) same
    lookup_in (r ∷ rs) (suc i) row s a h e =
        lookup_right q (pairs_of r.value.items) (flat rs) (missing_less (pairs_of r.value.items) (row_less r a.0 (before r rs i s (numbered rs i row h e))))
        ∙ lookup_in rs i row (sorted_tail nat_cmp r.number (numbers_of rs) s) a.1 h e

    -- Where no row has the number's quotient there is none.
    pub lookup_none : (rs : List (Row V)) (i : ℕ) → IsAscending rs → AreRows rs → IsGap (numbers_of rs) (q / 64) i → lookup (at q) (flat rs) ≡ None
    lookup_none [] i s a g = refl
    lookup_none (r ∷ rs) zero s a g =
        missing_more (pairs_of r.value.items ++ flat rs)
        (firsts_append (λ k. q < k) (pairs_of r.value.items) (flat rs) (row_more r a.0 g)
        (flat_more rs a.1 (all_more (λ k h. omega arith) (numbers_of rs) (rising_head r.number (numbers_of rs) s))))
    lookup_none (r ∷ rs) (suc i) s a g =
        lookup_right q (pairs_of r.value.items) (flat rs) (missing_less (pairs_of r.value.items) (row_less r a.0 g.0)) ∙ lookup_none rs i (sorted_tail nat_cmp r.number (numbers_of rs) s) a.1 g.1

    -- A pair is put into the row of its quotient, of which the items are then others.
    pub insert_in : (rs : List (Row V)) (i : ℕ) (row now : Row V) (v : V) → IsAscending rs → AreRows rs → slice_get rs i ≡ Some row → row.number ≡ q / 64
        → insert_entry nat_cmp (pairs_of row.value.items) q v ≡ pairs_of now.value.items → insert_entry nat_cmp (flat rs) q v ≡ flat (set rs i now)
    insert_in [] i row now v s a h e p = absurd (cc)
    insert_in (r ∷ rs) zero row now v s a h e p =
        let same : r ≡ row = cc in
        insert_left q (pairs_of r.value.items) (flat rs) v (flat_more rs a.1 (behind r rs s (ap (λ (x : Row V). x.number) same ∙ e)))
        ∙ ap (λ es. es ++ flat rs) (ap (λ (x : Row V). insert_entry nat_cmp (pairs_of x.value.items) q v) same ∙ p)
    insert_in (r ∷ rs) (suc i) row now v s a h e p =
        insert_right q (pairs_of r.value.items) (flat rs) v (row_less r a.0 (before r rs i s (numbered rs i row h e)))
        ∙ ap (λ es. pairs_of r.value.items ++ es) (insert_in rs i row now v (sorted_tail nat_cmp r.number (numbers_of rs) s) a.1 h e p)

    -- A pair is put into a row of its own.
    pub insert_row : (rs : List (Row V)) (i : ℕ) (row : Row V) (v : V) → IsAscending rs → AreRows rs → IsGap (numbers_of rs) (q / 64) i
        → pairs_of row.value.items ≡ (q, v) ∷ [] → insert_entry nat_cmp (flat rs) q v ≡ flat (insert rs i row)
    insert_row [] zero row v s a g p = sym (ap (λ es. es ++ []) p)
    insert_row [] (suc i) row v s a g p = absurd g
    insert_row (r ∷ rs) zero row v s a g p =
        insert_left q [] (flat (r ∷ rs)) v
        (firsts_append (λ k. q < k) (pairs_of r.value.items) (flat rs) (row_more r a.0 g)
        (flat_more rs a.1 (all_more (λ k h. omega arith) (numbers_of rs) (rising_head r.number (numbers_of rs) s))))
        ∙ ap (λ es. es ++ flat (r ∷ rs)) (sym p)
    insert_row (r ∷ rs) (suc i) row v s a g p =
        insert_right q (pairs_of r.value.items) (flat rs) v (row_less r a.0 g.0)
        ∙ ap (λ es. pairs_of r.value.items ++ es) (insert_row rs i row v (sorted_tail nat_cmp r.number (numbers_of rs) s) a.1 g.1 p)

    -- A pair is taken out of the row of its quotient.
    pub remove_in : (rs : List (Row V)) (i : ℕ) (row now : Row V) → IsAscending rs → AreRows rs → slice_get rs i ≡ Some row → row.number ≡ q / 64
        → remove_entry (at q) (pairs_of row.value.items) ≡ pairs_of now.value.items → remove_entry (at q) (flat rs) ≡ flat (set rs i now)
    remove_in [] i row now s a h e p = absurd (cc)
    remove_in (r ∷ rs) zero row now s a h e p =
        let same : r ≡ row = cc in
        remove_left q (pairs_of r.value.items) (flat rs) (missing_more (flat rs) (flat_more rs a.1 (behind r rs s (ap (λ (x : Row V). x.number) same ∙ e))))
        ∙ ap (λ es. es ++ flat rs) (ap (λ (x : Row V). remove_entry (at q) (pairs_of x.value.items)) same ∙ p)
    remove_in (r ∷ rs) (suc i) row now s a h e p =
        remove_right q (pairs_of r.value.items) (flat rs) (missing_less (pairs_of r.value.items) (row_less r a.0 (before r rs i s (numbered rs i row h e))))
        ∙ ap (λ es. pairs_of r.value.items ++ es) (remove_in rs i row now (sorted_tail nat_cmp r.number (numbers_of rs) s) a.1 h e p)

    -- A value is changed in the row of its quotient.
    pub set_in : (rs : List (Row V)) (i : ℕ) (row now : Row V) (w : V) → IsAscending rs → AreRows rs → slice_get rs i ≡ Some row → row.number ≡ q / 64
        → set_value (at q) (pairs_of row.value.items) w ≡ pairs_of now.value.items → set_value (at q) (flat rs) w ≡ flat (set rs i now)
    set_in [] i row now w s a h e p = absurd (cc)
    set_in (r ∷ rs) zero row now w s a h e p =
        let same : r ≡ row = cc in
        set_left q (pairs_of r.value.items) (flat rs) w (missing_more (flat rs) (flat_more rs a.1 (behind r rs s (ap (λ (x : Row V). x.number) same ∙ e))))
        ∙ ap (λ es. es ++ flat rs) (ap (λ (x : Row V). set_value (at q) (pairs_of x.value.items) w) same ∙ p)
    set_in (r ∷ rs) (suc i) row now w s a h e p =
        set_right q (pairs_of r.value.items) (flat rs) w (missing_less (pairs_of r.value.items) (row_less r a.0 (before r rs i s (numbered rs i row h e))))
        ∙ ap (λ es. pairs_of r.value.items ++ es) (set_in rs i row now w (sorted_tail nat_cmp r.number (numbers_of rs) s) a.1 h e p)

  -- Values are put, or are handed back, in the row of their quotient.
  pub insert_ok : {T E : Type 0} (r : Result T E) (q : ℕ) (rs : List (Row V)) (i : ℕ) (row now : Row V) (v : V) → IsAscending rs → AreRows rs → slice_get rs i ≡ Some row → row.number ≡ q / 64
      → OnOk r (pairs_of now.value.items ≡ insert_entry nat_cmp (pairs_of row.value.items) q v) → OnOk r (flat (set rs i now) ≡ insert_entry nat_cmp (flat rs) q v)
  insert_ok (Ok x) q rs i row now v s a h e p = sym (insert_in q rs i row now v s a h e (sym p))
  insert_ok (Err x) q rs i row now v s a h e p = tt

  pub same_pairs : (rs : List (Row V)) (i : ℕ) (row now : Row V) → slice_get rs i ≡ Some row → pairs_of now.value.items ≡ pairs_of row.value.items → flat (set rs i now) ≡ flat rs
  same_pairs [] i row now h e = refl
  same_pairs (r ∷ rs) zero row now h e =
      let same : r ≡ row = cc in
      ap (λ es. es ++ flat rs) e ∙ ap (λ (x : Row V). pairs_of x.value.items ++ flat rs) (sym same)
  same_pairs (r ∷ rs) (suc i) row now h e = ap (λ es. pairs_of r.value.items ++ es) (same_pairs rs i row now h e)

  pub insert_err : {T : Type 0} (r : Result T V) (rs : List (Row V)) (i : ℕ) (row now : Row V) (v : V) → slice_get rs i ≡ Some row
      → IfErr r (λ w. (w ≡ v) × (now.value.items ≡ row.value.items)) → IfErr r (λ w. (w ≡ v) × (flat (set rs i now) ≡ flat rs))
  insert_err (Ok x) rs i row now v h p = tt
  insert_err (Err w) rs i row now v h p = (p.0, same_pairs rs i row now h (ap pairs_of p.1))

  -- ---- the order of all

  behind_sorted : (xs : List (Item V)) (es : List (ℕ × V)) → IsAscending xs → IsStrictlySortedBy nat_cmp (keys_of es)
      → AllByRecursion (λ n. AllByRecursion (λ k. n < k) (map (λ (e : ℕ × V). e.0) es)) (numbers_of xs) → IsStrictlySortedBy nat_cmp (keys_of (pairs_of xs ++ es))
  behind_sorted [] es s t a = t
  behind_sorted (x ∷ xs) es s t a =
      rising_cons x.number (keys_of (pairs_of xs ++ es))
      (firsts_append (λ k. x.number < k) (pairs_of xs) es (firsts (λ k. x.number < k) xs (rising_head x.number (numbers_of xs) s)) a.0)
      (behind_sorted xs es (sorted_tail nat_cmp x.number (numbers_of xs) s) t a.1)

  -- The numbers of all rows, one behind the other, ascend.
  pub flat_sorted : (rs : List (Row V)) → IsAscending rs → AreRows rs → IsStrictlySortedBy nat_cmp (keys_of (flat rs))
  flat_sorted [] s a = none_sorted
  flat_sorted (r ∷ rs) s a =
      behind_sorted r.value.items (flat rs) a.0.ascending (flat_sorted rs (sorted_tail nat_cmp r.number (numbers_of rs) s) a.1)
      (all_more (λ n e. flat_more n rs a.1 (all_more (λ k l. let same : n / 64 ≡ r.number = e in let less : r.number < k = l in omega (arith, same, less)) (numbers_of rs) (rising_head r.number (numbers_of rs) s))) (numbers_of r.value.items) a.0.quotient)

  -- ---- the first one from a number on

  -- What holds of all numbers holds of one on which a value is.
  all_lookup : (P : ℕ → Type 0) (xs : List (Item V)) (k : ℕ) (v : V) → AllByRecursion P (numbers_of xs) → lookup (at k) (pairs_of xs) ≡ Some v → P k
  all_lookup P [] k v a h = absurd (cc)
  all_lookup P (x ∷ xs) k v a h = elim (cases_lt k x.number) [
    | inl l ↦ all_lookup P xs k v a.1 (sym (ap (λ b. cond b (Some x.value) (lookup (at k) (pairs_of xs))) (tests_greater k x.number l)) ∙ h)
    | inr l ↦ elim (cases_lt x.number k) [
      | inl m ↦ all_lookup P xs k v a.1 (sym (ap (λ b. cond b (Some x.value) (lookup (at k) (pairs_of xs))) (tests_less k x.number m)) ∙ h)
      | inr m ↦ let same : x.number ≡ k = omega arith in subst P same a.0
    ]
  ]

  pub first_at : (xs : List (Item V)) (i from : ℕ) (x : Item V) → IsAscending xs → slice_get (numbers_of xs) i ≡ Some from → slice_get xs i ≡ Some x → IsFirstFrom (pairs_of xs) from x
  first_at xs i from x s h here =
      let same : x.number ≡ from = sym (ap (λ (y : Item V). y.number) (get_or_from_slice_get xs i x x here)) ∙ place_number xs i from x h in
      record {
        later = omega arith;
        there = lookup_place x.number xs i s (number_there xs i x here) ∙ ap (option_map (λ (y : Item V). y.value)) here;
        between = λ q le lt. (let no : ⊥ = omega arith in absurd no);
      }

  pub first_gap : (xs : List (Item V)) (i from : ℕ) (x : Item V) → IsAscending xs → IsGap (numbers_of xs) from i → slice_get xs i ≡ Some x → IsFirstFrom (pairs_of xs) from x
  first_gap xs i from x s g here =
      let more = gap_above xs i from x g here in
      record {
        later = omega (arith, more);
        there = lookup_place x.number xs i s (number_there xs i x here) ∙ ap (option_map (λ (y : Item V). y.value)) here;
        between = λ q le lt. lookup_gap q xs i s (gap_moves xs i from q g le (λ d l. subst (λ (y : Item V). q < y.number) (sym (get_or_from_slice_get xs i x d here)) lt));
      }

  pub none_gap : (xs : List (Item V)) (i from : ℕ) → IsAscending xs → IsGap (numbers_of xs) from i → length xs ≤ i → NoneFrom (pairs_of xs) from
  none_gap xs i from s g past = λ q le. lookup_gap q xs i s (gap_moves xs i from q g le (λ d l. let no : ⊥ = omega (arith, past, l) in absurd no))

  pub first_read : (xs : List (Item V)) (i from : ℕ) (r : Option (Bor (Item V))) → IsAscending xs → IsGap (numbers_of xs) from i → IsItemAt xs i r → IfSome r (λ x. IsFirstFrom (pairs_of xs) from x.now)
  first_read xs i from None s g h = tt
  first_read xs i from (Some x) s g h = first_gap xs i from x.now s g (slice_get_read xs (length xs) i x.now refl h.3.0 h.1)

  pub none_read : (xs : List (Item V)) (i from : ℕ) (r : Option (Bor (Item V))) → IsAscending xs → IsGap (numbers_of xs) from i → IsItemAt xs i r → IfNone r (NoneFrom (pairs_of xs) from)
  none_read xs i from None s g h = none_gap xs i from s g h.3
  none_read xs i from (Some x) s g h = tt

  -- Rows before the one of a number have none from it on.
  pub none_before_place : (from : ℕ) (rs : List (Row V)) (i : ℕ) → IsAscending rs → AreRows rs → slice_get (numbers_of rs) i ≡ Some (from / 64) → NoneFrom (flat (take i rs)) from
  none_before_place from [] i s a h = λ q le. absurd (cc)
  none_before_place from (r ∷ rs) zero s a h = λ q le. refl
  none_before_place from (r ∷ rs) (suc i) s a h = λ q le.
      let less = before from r rs i s h in
      let up = quotients_up from q le in
      lookup_right q (pairs_of r.value.items) (flat (take i rs)) (missing_less q (pairs_of r.value.items) (row_less q r a.0 (omega (arith, less, up))))
      ∙ none_before_place from rs i (sorted_tail nat_cmp r.number (numbers_of rs) s) a.1 h q le

  pub none_before_gap : (from : ℕ) (rs : List (Row V)) (i : ℕ) → IsAscending rs → AreRows rs → IsGap (numbers_of rs) (from / 64) i → NoneFrom (flat (take i rs)) from
  none_before_gap from [] zero s a g = λ q le. refl
  none_before_gap from [] (suc i) s a g = absurd g
  none_before_gap from (r ∷ rs) zero s a g = λ q le. refl
  none_before_gap from (r ∷ rs) (suc i) s a g = λ q le.
      let less : r.number < from / 64 = g.0 in
      let up = quotients_up from q le in
      lookup_right q (pairs_of r.value.items) (flat (take i rs)) (missing_less q (pairs_of r.value.items) (row_less q r a.0 (omega (arith, less, up))))
      ∙ none_before_gap from rs i (sorted_tail nat_cmp r.number (numbers_of rs) s) a.1 g.1 q le

  -- A row more has none.
  pub none_more : (from : ℕ) (rs : List (Row V)) (i : ℕ) (row : Row V) → slice_get rs i ≡ Some row → NoneFrom (flat (take i rs)) from → NoneFrom (pairs_of row.value.items) from → NoneFrom (flat (take (suc i) rs)) from
  none_more from [] i row h b n = λ q le. absurd (cc)
  none_more from (r ∷ rs) zero row h b n = λ q le.
      let same : r ≡ row = cc in
      lookup_left q (pairs_of r.value.items) [] refl ∙ ap (λ (x : Row V). lookup (at q) (pairs_of x.value.items)) same ∙ n q le
  none_more from (r ∷ rs) (suc i) row h b n = λ q le.
      lookup_right q (pairs_of r.value.items) (flat (take (suc i) rs)) (missing_both q (pairs_of r.value.items) (flat (take i rs)) (b q le)).0
      ∙ none_more from rs i row h (λ p l. (missing_both p (pairs_of r.value.items) (flat (take i rs)) (b p l)).1) n q le

  -- The first one of a row, where the rows before have none, is the first one of all.
  pub first_row_in : (from : ℕ) (rs : List (Row V)) (i : ℕ) (row : Row V) (x : Item V) → IsAscending rs → AreRows rs → slice_get rs i ≡ Some row
      → NoneFrom (flat (take i rs)) from → IsFirstFrom (pairs_of row.value.items) from x → IsFirstFrom (flat rs) from x
  first_row_in from [] i row x s a h b f = absurd (cc)
  first_row_in from (r ∷ rs) zero row x s a h b f =
      let same : row ≡ r = cc in
      let g = subst (λ (y : Row V). IsFirstFrom (pairs_of y.value.items) from x) same f in
      let own : x.number / 64 ≡ r.number = all_lookup (λ k. k / 64 ≡ r.number) r.value.items x.number x.value a.0.quotient g.there in
      let rest : (q : ℕ) → q ≤ x.number → lookup (at q) (flat rs) ≡ None = λ q le.
      missing_more q (flat rs) (flat_more q rs a.1 (all_more (λ k l. let less : r.number < k = l in let up = quotients_up q x.number le in omega (arith, own, less, up)) (numbers_of rs) (rising_head r.number (numbers_of rs) s))) in
      record {
        later = g.later;
        there = lookup_left x.number (pairs_of r.value.items) (flat rs) (rest x.number (omega arith)) ∙ g.there;
        between = λ q le lt. lookup_left q (pairs_of r.value.items) (flat rs) (rest q (omega (arith, lt))) ∙ g.between q le lt;
      }
  first_row_in from (r ∷ rs) (suc i) row x s a h b f =
      let g = first_row_in from rs i row x (sorted_tail nat_cmp r.number (numbers_of rs) s) a.1 h (λ q le. (missing_both q (pairs_of r.value.items) (flat (take i rs)) (b q le)).1) f in
      let none : (q : ℕ) → from ≤ q → lookup (at q) (pairs_of r.value.items) ≡ None = λ q le. (missing_both q (pairs_of r.value.items) (flat (take i rs)) (b q le)).0 in
      record {
        later = g.later;
        there = lookup_right x.number (pairs_of r.value.items) (flat rs) (none x.number g.later) ∙ g.there;
        between = λ q le lt. lookup_right q (pairs_of r.value.items) (flat rs) (none q le) ∙ g.between q le lt;
      }

  -- A row without items may be left out.
  pub without : (rs : List (Row V)) (i : ℕ) (row : Row V) → slice_get rs i ≡ Some row → row.value.items ≡ [] → flat (remove rs i) ≡ flat rs
  without [] i row h e = absurd (cc)
  without (r ∷ rs) zero row h e =
      let same : r ≡ row = cc in
      sym (ap (λ (x : Row V). pairs_of x.value.items ++ flat rs) same ∙ ap (λ es. pairs_of es ++ flat rs) e)
  without (r ∷ rs) (suc i) row h e = ap (λ es. pairs_of r.value.items ++ es) (without rs i row h e)

  -- Rows stay rows.
  pub rows_set : (rs : List (Row V)) (i : ℕ) (now : Row V) → AreRows rs → IsRow now → AreRows (set rs i now)
  rows_set [] i now a r = a
  rows_set (x ∷ rs) zero now a r = (r, a.1)
  rows_set (x ∷ rs) (suc i) now a r = (a.0, rows_set rs i now a.1 r)

  pub rows_put : (rs : List (Row V)) (i : ℕ) (now : Row V) → AreRows rs → IsRow now → AreRows (insert rs i now)
  rows_put [] zero now a r = (r, tt)
  rows_put [] (suc i) now a r = (r, tt)
  rows_put (x ∷ rs) zero now a r = (r, a)
  rows_put (x ∷ rs) (suc i) now a r = (a.0, rows_put rs i now a.1 r)

  pub rows_out : (rs : List (Row V)) (i : ℕ) → AreRows rs → AreRows (remove rs i)
  rows_out [] zero a = a
  rows_out [] (suc i) a = a
  rows_out (x ∷ rs) zero a = a.1
  rows_out (x ∷ rs) (suc i) a = (a.0, rows_out rs i a.1)

  pub row_at : (rs : List (Row V)) (i : ℕ) (row : Row V) → AreRows rs → slice_get rs i ≡ Some row → IsRow row
  row_at [] i row a h = absurd (cc)
  row_at (r ∷ rs) zero row a h = subst IsRow (cc) a.0
  row_at (r ∷ rs) (suc i) row a h = row_at rs i row a.1 h
