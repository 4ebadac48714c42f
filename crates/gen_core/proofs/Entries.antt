-- Entries in the order of their numbers, and what is seen of them.
use Rattle.std.proofs.Common.{◌≡◌, ℕ, ◌+◌, ◌<◌, ◌≤◌, Bool, true, false, cond, not, ◌||◌, ◌==◌, List, [], ◌∷◌, ◌++◌, map, Some, None, refl, sym, ap, ap₂, ◌∙◌, arith, eq-eqb, inl, inr}
use Rattle.std.specs.Prelude.{filter, nat_lt}
use Rattle.std.specs.List.{AllByRecursion, list_any}
use Rattle.std.specs.List.Sorted.{IsStrictlySortedBy}
use Rattle.std.specs.Option.{option_map_or}
use Rattle.std.specs.Ordering.{is_eq, nat_cmp, match_ordering}
use Rattle.std.specs.Cmp.{nat_cmp_is}
use Rattle.std.specs.declared.cmp.Ordering.TheVariants.{Less, Equal, Greater}
use Rattle.std.specs.Map.{lookup, remove_entry, set_value, keys_of}
use Rattle.std.specs.BTreeMap.{insert_entry, is_at}
use Rattle.std.proofs.lemmas.Bool.{cases_lt, ne_eqb}
use Rattle.std.proofs.lemmas.Map.Keys.{sorted_head, sorted_tail}
use borrow.Author.Tests.{ltb-true, lt-ltb}

pub ge-ltb : (a b : ℕ) → b ≤ a → nat_lt a b ≡ false
ge-ltb a b h = go (nat_lt a b) refl
  where
    go : (r : Bool) → nat_lt a b ≡ r → nat_lt a b ≡ false
    go true e = absurd (let l : a < b = ltb-true a b e in omega arith)
    go false e = e

less : (a b : ℕ) → a < b → nat_cmp a b ≡ Less
less a b l = sym (nat_cmp_is a b Less l)

greater : (a b : ℕ) → b < a → nat_cmp a b ≡ Greater
greater a b l = sym (nat_cmp_is a b Greater l)

equal : (a b : ℕ) → a ≡ b → nat_cmp a b ≡ Equal
equal a b e = sym (nat_cmp_is a b Equal e)

below_from_less : (a b : ℕ) → nat_cmp a b ≡ Less → a < b
below_from_less a b e = elim (cases_lt a b) [
  | inl l ↦ l
  | inr l ↦ elim (cases_lt b a) [
    | inl m ↦ absurd (let x = sym e ∙ greater a b m in cc)
    | inr m ↦ absurd (let q : a ≡ b = omega arith in let x = sym e ∙ equal a b q in cc)
  ]
]

module _ {X D : Type 0} (of : X → D) where
  abbrev pub values : List (ℕ × X) → List D
  values es = map (λ e. of e.1) es

  -- The entries from a number on.
  abbrev pub from_number : ℕ → List (ℕ × X) → List (ℕ × X)
  from_number n es = filter (λ e. not (nat_lt e.0 n)) es

  all_above : (n : ℕ) (es : List (ℕ × X)) → AllByRecursion (λ k. nat_cmp n k ≡ Less) (keys_of es) → AllByRecursion (λ e. n < e.0) es
  all_above n [] h = tt
  all_above n (e ∷ es) h = (below_from_less n e.0 h.0, all_above n es h.1)

  pub after_head : (e : ℕ × X) (es : List (ℕ × X)) → IsStrictlySortedBy nat_cmp (keys_of (e ∷ es)) → AllByRecursion (λ x. e.0 < x.0) es
  after_head e es h = all_above e.0 es (sorted_head nat_cmp e.0 (keys_of es) h)

  from_all : (n m : ℕ) (es : List (ℕ × X)) → n ≤ m + 1 → AllByRecursion (λ e. m < e.0) es → from_number n es ≡ es
  from_all n m [] l h = refl
  from_all n m (e ∷ es) l h =
      ap (λ b. cond (not b) (e ∷ from_number n es) (from_number n es)) (ge-ltb e.0 n (let p = h.0 in omega arith))
      ∙ ap (λ fs. e ∷ fs) (from_all n m es l h.1)

  -- No entry before these has the number.
  pub lookup_above : (r m : ℕ) (es : List (ℕ × X)) → r ≤ m → AllByRecursion (λ e. m < e.0) es → lookup (is_at (nat_cmp r)) es ≡ None
  lookup_above r m [] l h = refl
  lookup_above r m (e ∷ es) l h =
      ap (λ o. cond (is_eq o) (Some e.1) (lookup (is_at (nat_cmp r)) es)) (less r e.0 (let p = h.0 in omega arith)) ∙ lookup_above r m es l h.1

  lookup_first : (r : ℕ) (e : ℕ × X) (es : List (ℕ × X)) → r ≡ e.0 → lookup (is_at (nat_cmp r)) (e ∷ es) ≡ Some e.1
  lookup_first r e es h = ap (λ o. cond (is_eq o) (Some e.1) (lookup (is_at (nat_cmp r)) es)) (equal r e.0 h)

  lookup_later : (r : ℕ) (e : ℕ × X) (es : List (ℕ × X)) → e.0 < r → lookup (is_at (nat_cmp r)) (e ∷ es) ≡ lookup (is_at (nat_cmp r)) es
  lookup_later r e es h = ap (λ o. cond (is_eq o) (Some e.1) (lookup (is_at (nat_cmp r)) es)) (greater r e.0 h)

  -- ---- each entry is found on its number

  lift : (h : ℕ × X) (fs es : List (ℕ × X)) → AllByRecursion (λ x. h.0 < x.0) es → AllByRecursion (λ e. lookup (is_at (nat_cmp e.0)) fs ≡ Some e.1) es
      → AllByRecursion (λ e. lookup (is_at (nat_cmp e.0)) (h ∷ fs) ≡ Some e.1) es
  lift h fs [] a b = tt
  lift h fs (e ∷ es) a b = (lookup_later e.0 h fs a.0 ∙ b.0, lift h fs es a.1 b.1)

  pub each_found : (es : List (ℕ × X)) → IsStrictlySortedBy nat_cmp (keys_of es) → AllByRecursion (λ e. lookup (is_at (nat_cmp e.0)) es ≡ Some e.1) es
  each_found [] h = tt
  each_found (e ∷ es) h =
      (lookup_first e.0 e es refl, lift e es es (after_head e es h) (each_found es (sorted_tail nat_cmp e.0 (keys_of es) h)))

  -- What holds on each number holds of each entry.
  pub each_from : (P : ℕ → D → Type 0) (fs es : List (ℕ × X)) → AllByRecursion (λ e. lookup (is_at (nat_cmp e.0)) fs ≡ Some e.1) es
      → ((q : ℕ) (x : X) → lookup (is_at (nat_cmp q)) fs ≡ Some x → P q (of x)) → AllByRecursion (λ e. P e.0 (of e.1)) es
  each_from P fs [] h f = tt
  each_from P fs (e ∷ es) h f = (f e.0 e.1 h.0, each_from P fs es h.1 f)

  -- ---- what passes a test from a number on

  pub none_from : (t : D → Bool) (from : ℕ) (es : List (ℕ × X)) → AllByRecursion (λ e. from ≤ e.0 → t (of e.1) ≡ false) es → filter t (values (from_number from es)) ≡ []
  none_from t from [] h = refl
  none_from t from (e ∷ es) h = elim (cases_lt e.0 from) [
    | inl l ↦ ap (λ b. filter t (values (cond (not b) (e ∷ from_number from es) (from_number from es)))) (lt-ltb e.0 from l) ∙ none_from t from es h.1
    | inr l ↦ ap (λ b. filter t (values (cond (not b) (e ∷ from_number from es) (from_number from es)))) (ge-ltb e.0 from l)
        ∙ ap (λ b. cond b (of e.1 ∷ filter t (values (from_number from es))) (filter t (values (from_number from es)))) (h.0 l) ∙ none_from t from es h.1
  ]

  pub some_from : (t : D → Bool) (from r : ℕ) (x : X) → from ≤ r → t (of x) ≡ true → (es : List (ℕ × X)) → IsStrictlySortedBy nat_cmp (keys_of es)
      → AllByRecursion (λ e. from ≤ e.0 → e.0 < r → t (of e.1) ≡ false) es → lookup (is_at (nat_cmp r)) es ≡ Some x
      → filter t (values (from_number from es)) ≡ of x ∷ filter t (values (from_number (r + 1) es))
  some_from t from r x l pass [] sorted h at = absurd (cc)
  some_from t from r x l pass (e ∷ es) sorted h at = elim (cases_lt e.0 r) [
    | inl m ↦ left m ∙ some_from t from r x l pass es (sorted_tail nat_cmp e.0 (keys_of es) sorted) h.1 (sym (lookup_later r e es m) ∙ at)
        ∙ ap (λ b. of x ∷ filter t (values (cond (not b) (e ∷ from_number (r + 1) es) (from_number (r + 1) es)))) (sym (lt-ltb e.0 (r + 1) (omega arith)))
    | inr m ↦ elim (cases_lt r e.0) [
      | inl n ↦ absurd (let none : lookup (is_at (nat_cmp r)) (e ∷ es) ≡ None = ap (λ o. cond (is_eq o) (Some e.1) (lookup (is_at (nat_cmp r)) es)) (less r e.0 n) ∙ lookup_above r e.0 es m (after_head e es sorted) in let y = sym none ∙ at in cc)
      | inr n ↦
          let same : r ≡ e.0 = omega arith in
          let found : Some e.1 ≡ Some x = sym (lookup_first r e es same) ∙ at in
          let is : of e.1 ≡ of x = ap (λ o. option_map_or of o (of x)) found in
          ap (λ b. filter t (values (cond (not b) (e ∷ from_number from es) (from_number from es)))) (ge-ltb e.0 from (omega arith))
          ∙ ap (λ b. cond b (of e.1 ∷ filter t (values (from_number from es))) (filter t (values (from_number from es)))) (ap t is ∙ pass)
          ∙ ap₂ (λ d fs. d ∷ filter t (values fs)) is
          (from_all from e.0 es (omega arith) (after_head e es sorted) ∙ sym (from_all (r + 1) e.0 es (omega arith) (after_head e es sorted))
          ∙ ap (λ b. cond (not b) (e ∷ from_number (r + 1) es) (from_number (r + 1) es)) (sym (lt-ltb e.0 (r + 1) (omega arith))))
    ]
  ]
    where
      left : e.0 < r → filter t (values (from_number from (e ∷ es))) ≡ filter t (values (from_number from es))
      left m = elim (cases_lt e.0 from) [
        | inl k ↦ ap (λ b. filter t (values (cond (not b) (e ∷ from_number from es) (from_number from es)))) (lt-ltb e.0 from k)
        | inr k ↦ ap (λ b. filter t (values (cond (not b) (e ∷ from_number from es) (from_number from es)))) (ge-ltb e.0 from k)
            ∙ ap (λ b. cond b (of e.1 ∷ filter t (values (from_number from es))) (filter t (values (from_number from es)))) (h.0 k m)
      ]

  -- All entries are from 0 on.
  pub from_zero : (es : List (ℕ × X)) → from_number 0 es ≡ es
  from_zero [] = refl
  from_zero (e ∷ es) = ap (λ b. cond (not b) (e ∷ from_number 0 es) (from_number 0 es)) (ge-ltb e.0 0 (omega arith)) ∙ ap (λ fs. e ∷ fs) (from_zero es)

  -- ---- a test that one entry alone passes

  -- What stands after the first that passes.
  abbrev pub past : (D → Bool) → List D → List D
  past t [] = []
  past t (d ∷ ds) = cond (t d) ds (past t ds)

  pub past_one : (t : D → Bool) (r : ℕ) (x : X) (es : List (ℕ × X)) → IsStrictlySortedBy nat_cmp (keys_of es) → AllByRecursion (λ e. t (of e.1) ≡ (e.0 == r)) es
      → lookup (is_at (nat_cmp r)) es ≡ Some x → past t (values es) ≡ values (from_number (r + 1) es)
  past_one t r x [] sorted h at = refl
  past_one t r x (e ∷ es) sorted h at = elim (cases_lt e.0 r) [
    | inl m ↦ ap (λ b. cond b (values es) (past t (values es))) (h.0 ∙ ne_eqb e.0 r (λ q. omega arith))
        ∙ past_one t r x es (sorted_tail nat_cmp e.0 (keys_of es) sorted) h.1 (sym (lookup_later r e es m) ∙ at)
        ∙ ap (λ b. values (cond (not b) (e ∷ from_number (r + 1) es) (from_number (r + 1) es))) (sym (lt-ltb e.0 (r + 1) (omega arith)))
    | inr m ↦ elim (cases_lt r e.0) [
      | inl n ↦ absurd (let none : lookup (is_at (nat_cmp r)) (e ∷ es) ≡ None = ap (λ o. cond (is_eq o) (Some e.1) (lookup (is_at (nat_cmp r)) es)) (less r e.0 n) ∙ lookup_above r e.0 es m (after_head e es sorted) in let y = sym none ∙ at in cc)
      | inr n ↦
          let same : e.0 ≡ r = omega arith in
          ap (λ b. cond b (values es) (past t (values es))) (h.0 ∙ eq-eqb e.0 r same)
          ∙ ap values (sym (from_all (r + 1) e.0 es (omega arith) (after_head e es sorted)))
          ∙ ap (λ b. values (cond (not b) (e ∷ from_number (r + 1) es) (from_number (r + 1) es))) (sym (lt-ltb e.0 (r + 1) (omega arith)))
    ]
  ]

  pub past_none : (t : D → Bool) (es : List (ℕ × X)) → AllByRecursion (λ e. t (of e.1) ≡ false) es → past t (values es) ≡ []
  past_none t [] h = refl
  past_none t (e ∷ es) h = ap (λ b. cond b (values es) (past t (values es))) h.0 ∙ past_none t es h.1

  -- ---- tests of a list

  pub any_false : (t : D → Bool) (es : List (ℕ × X)) → AllByRecursion (λ e. t (of e.1) ≡ false) es → list_any t (values es) ≡ false
  any_false t [] h = refl
  any_false t (e ∷ es) h = ap (λ b. b || list_any t (values es)) h.0 ∙ any_false t es h.1

  pub any_true : (t : D → Bool) (r : ℕ) (x : X) (es : List (ℕ × X)) → lookup (is_at (nat_cmp r)) es ≡ Some x → t (of x) ≡ true → list_any t (values es) ≡ true
  any_true t r x [] at h = absurd (cc)
  any_true t r x (e ∷ es) at h = go (λ q. any_true t r x es q h) (is_eq (nat_cmp r e.0)) at
    where
      right : (b : Bool) → (b || true) ≡ true
      right true = refl
      right false = refl

      go : (lookup (is_at (nat_cmp r)) es ≡ Some x → list_any t (values es) ≡ true) → (b : Bool) → cond b (Some e.1) (lookup (is_at (nat_cmp r)) es) ≡ Some x → list_any t (values (e ∷ es)) ≡ true
      go next true q = ap (λ b. b || list_any t (values es)) (ap (λ o. t (option_map_or of o (of x))) q ∙ h)
      go next false q = ap (λ b. t (of e.1) || b) (next q) ∙ right (t (of e.1))

  -- ---- changes

  -- A change of those that pass, where none does.
  pub map_none : (t : D → Bool) (f : D → D) (es : List (ℕ × X)) → AllByRecursion (λ e. t (of e.1) ≡ false) es → map (λ d. cond (t d) (f d) d) (values es) ≡ values es
  map_none t f [] h = refl
  map_none t f (e ∷ es) h =
      ap₂ (λ b ds. cond b (f (of e.1)) (of e.1) ∷ ds) h.0 (map_none t f es h.1)

  later_fail : (t : D → Bool) (r m : ℕ) (es : List (ℕ × X)) → r ≤ m → AllByRecursion (λ e. m < e.0) es → AllByRecursion (λ e. t (of e.1) ≡ (e.0 == r)) es → AllByRecursion (λ e. t (of e.1) ≡ false) es
  later_fail t r m [] l a h = tt
  later_fail t r m (e ∷ es) l a h = (h.0 ∙ ne_eqb e.0 r (λ q. (let p = a.0 in omega arith)), later_fail t r m es l a.1 h.1)

  pub map_one : (t : D → Bool) (f : D → D) (r : ℕ) (x y : X) → of y ≡ f (of x) → (es : List (ℕ × X)) → IsStrictlySortedBy nat_cmp (keys_of es) → AllByRecursion (λ e. t (of e.1) ≡ (e.0 == r)) es
      → lookup (is_at (nat_cmp r)) es ≡ Some x → values (set_value (is_at (nat_cmp r)) es y) ≡ map (λ d. cond (t d) (f d) d) (values es)
  map_one t f r x y same [] sorted h at = refl
  map_one t f r x y same (e ∷ es) sorted h at = elim (cases_lt e.0 r) [
    | inl m ↦ ap (λ o. values (cond (is_eq o) ((e.0, y) ∷ es) (e ∷ set_value (is_at (nat_cmp r)) es y))) (greater r e.0 m)
        ∙ ap₂ (λ b ds. cond b (f (of e.1)) (of e.1) ∷ ds) (sym (h.0 ∙ ne_eqb e.0 r (λ q. omega arith)))
        (map_one t f r x y same es (sorted_tail nat_cmp e.0 (keys_of es) sorted) h.1 (sym (lookup_later r e es m) ∙ at))
    | inr m ↦ elim (cases_lt r e.0) [
      | inl n ↦ absurd (let none : lookup (is_at (nat_cmp r)) (e ∷ es) ≡ None = ap (λ o. cond (is_eq o) (Some e.1) (lookup (is_at (nat_cmp r)) es)) (less r e.0 n) ∙ lookup_above r e.0 es m (after_head e es sorted) in let z = sym none ∙ at in cc)
      | inr n ↦
          let here : e.0 ≡ r = omega arith in
          let found : Some e.1 ≡ Some x = sym (lookup_first r e es (sym here)) ∙ at in
          let is : of e.1 ≡ of x = ap (λ o. option_map_or of o (of x)) found in
          ap (λ o. values (cond (is_eq o) ((e.0, y) ∷ es) (e ∷ set_value (is_at (nat_cmp r)) es y))) (equal r e.0 (sym here))
          ∙ ap₂ (λ d ds. d ∷ ds) (same ∙ ap f (sym is) ∙ ap (λ b. cond b (f (of e.1)) (of e.1)) (sym (h.0 ∙ eq-eqb e.0 r here)))
          (sym (map_none t f es (later_fail t r e.0 es m (after_head e es sorted) h.1)))
    ]
  ]

  -- Where an entry stands that is taken out.
  pub record Parted (r : ℕ) (x : X) (es : List (ℕ × X)) : Type 0 where
    pub before : List D
    pub after : List D
    pub whole : values es ≡ before ++ of x ∷ after
    pub left : values (remove_entry (is_at (nat_cmp r)) es) ≡ before ++ after

  pub parted : (r : ℕ) (x : X) (es : List (ℕ × X)) → lookup (is_at (nat_cmp r)) es ≡ Some x → Parted r x es
  parted r x [] at = absurd (cc)
  parted r x (e ∷ es) at = go (parted r x es) (is_eq (nat_cmp r e.0)) refl at
    where
      go : (lookup (is_at (nat_cmp r)) es ≡ Some x → Parted r x es) → (b : Bool) → is_eq (nat_cmp r e.0) ≡ b → cond b (Some e.1) (lookup (is_at (nat_cmp r)) es) ≡ Some x → Parted r x (e ∷ es)
      go next true h q = record {
        before = [];
        after = values es;
        whole = ap (λ o. option_map_or of o (of x) ∷ values es) q;
        left = ap (λ b. values (cond b es (e ∷ remove_entry (is_at (nat_cmp r)) es))) h;
      }
      go next false h q =
          let p = next q in
          record {
            before = of e.1 ∷ p.before;
            after = p.after;
            whole = ap (λ ds. of e.1 ∷ ds) p.whole;
            left = ap (λ b. values (cond b es (e ∷ remove_entry (is_at (nat_cmp r)) es))) h ∙ ap (λ ds. of e.1 ∷ ds) p.left;
          }

  pub insert_last : (n : ℕ) (x : X) (es : List (ℕ × X)) → AllByRecursion (λ e. e.0 < n) es → values (insert_entry nat_cmp es n x) ≡ values es ++ of x ∷ []
  insert_last n x [] h = refl
  insert_last n x (e ∷ es) h =
      ap (λ o. values (match_ordering o ((n, x) ∷ e ∷ es) ((e.0, x) ∷ es) (e ∷ insert_entry nat_cmp es n x))) (greater n e.0 h.0)
      ∙ ap (λ ds. of e.1 ∷ ds) (insert_last n x es h.1)

  pub insert_first : (n : ℕ) (x : X) (es : List (ℕ × X)) → AllByRecursion (λ e. n < e.0) es → values (insert_entry nat_cmp es n x) ≡ of x ∷ values es
  insert_first n x [] h = refl
  insert_first n x (e ∷ es) h =
      ap (λ o. values (match_ordering o ((n, x) ∷ e ∷ es) ((e.0, x) ∷ es) (e ∷ insert_entry nat_cmp es n x))) (less n e.0 h.0)
