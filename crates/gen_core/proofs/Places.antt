-- The places of the clauses of an index.
use Rattle.std.proofs.Common.{◌≡◌, ℕ, ◌-◌, ◌<◌, ◌≤◌, Bool, true, false, cond, not, ◌&&◌, ◌||◌, ◌==◌, List, [], ◌∷◌, map, length, Option, Some, None, IsSome, refl, sym, ap, ap₂, ◌∙◌, subst, arith, eq-eqb, inl, inr}
use Rattle.std.specs.Prelude.{filter, nat_lt}
use Rattle.std.specs.List.{AllByRecursion, list_any}
use Rattle.std.specs.List.Sorted.{IsStrictlySortedBy}
use Rattle.std.specs.Option.{IfSome, option_map, option_map_or}
use Rattle.std.specs.Ordering.{is_eq, is_le, nat_cmp, ordering_then}
use Rattle.std.specs.Cmp.{nat_cmp_is}
use Rattle.std.specs.declared.cmp.Ordering.{Ordering}
use Rattle.std.specs.declared.cmp.Ordering.TheVariants.{Less, Equal, Greater}
use Rattle.std.specs.declared.ops.Bound.TheVariants.{Excluded, Unbounded}
use Rattle.std.specs.Map.{lookup, keys_of}
use Rattle.std.specs.BTreeMap.{is_at}
use Rattle.std.specs.BTreeMap.Range.{range_contains}
use Rattle.std.proofs.lemmas.Bool.{false≢true, cases_lt}
use Rattle.std.proofs.lemmas.Map.Keys.{sorted_tail}
use borrow.Author.Tests.{eqb-true, ltb-true, lt-ltb}
use Rattle.gen_core.specs.NumberMaps as numbers
use Rattle.gen_core.specs.declared.dated_clause.DatedClause.{DatedClause}
use Rattle.gen_core.specs.declared.clause_index.Entry.{Entry}
use Rattle.gen_core.specs.declared.clause_index.ClauseIndex.{ClauseIndex}
use Rattle.gen_core.specs.Numbers.{IsNumbered, first_number, last_number, place_of}
use Rattle.gen_core.specs.Visible.{is_droppable, is_droppable_at}
use Rattle.gen_core.specs.ClauseIndex.{IsSound, holds, pair_order, is_erased_at, clauses_of}
use Rattle.gen_core.proofs.Entries.{ge-ltb, after_head, each_found, each_from, any_true}
use Rattle.gen_core.proofs.Erasures.{is_at-pair, erased_at, droppable_below}

and-left : (a b : Bool) → (a && b) ≡ true → a ≡ true
and-left true b h = refl
and-left false b h = absurd (false≢true h)

and-right : (a b : Bool) → (a && b) ≡ true → b ≡ true
and-right true b h = h
and-right false b h = absurd (false≢true h)

or-right : (a : Bool) → (a || true) ≡ true
or-right true = refl
or-right false = refl

-- Two tests are the same where each follows from the other.
same-tests : (a b : Bool) → (a ≡ true → b ≡ true) → (b ≡ true → a ≡ true) → a ≡ b
same-tests true b f g = sym (f refl)
same-tests false true f g = g refl
same-tests false false f g = refl

-- ---- pairs of a list

-- The pairs below the floor are those of erasures below it.
below-floor : (floor k n : ℕ) → range_contains pair_order Unbounded (Excluded (floor, 0)) (k, n) ≡ nat_lt k floor
below-floor floor k n = elim (cases_lt k floor) [
  | inl l ↦ ap (λ r. not (is_le (ordering_then r (nat_cmp 0 n)))) (sym (nat_cmp_is floor k Greater l)) ∙ sym (lt-ltb k floor l)
  | inr l ↦ elim (cases_lt floor k) [
    | inl m ↦ ap (λ r. not (is_le (ordering_then r (nat_cmp 0 n)))) (sym (nat_cmp_is floor k Less m)) ∙ sym (ge-ltb k floor l)
    | inr m ↦
        let e : floor ≡ k = omega arith in
        ap (λ r. not (is_le (ordering_then r (nat_cmp 0 n)))) (sym (nat_cmp_is floor k Equal e)) ∙ ap not (zero-le n) ∙ sym (ge-ltb k floor l)
  ]
]
  where
    zero-le : (n : ℕ) → is_le (nat_cmp 0 n) ≡ true
    zero-le n = elim (cases_lt 0 n) [
      | inl l ↦ ap is_le (sym (nat_cmp_is 0 n Less l))
      | inr l ↦ let e : 0 ≡ n = omega arith in ap is_le (sym (nat_cmp_is 0 n Equal e))
    ]

any-filtered : {X : Type 0} (f : X → ℕ) (r : X → Bool) (p : ℕ) (xs : List X) → list_any (λ q. q == p) (map f (filter r xs)) ≡ list_any (λ x. r x && (f x == p)) xs
any-filtered f r p [] = refl
any-filtered f r p (x ∷ xs) = go (any-filtered f r p xs) (r x) refl
  where
    go : list_any (λ q. q == p) (map f (filter r xs)) ≡ list_any (λ x. r x && (f x == p)) xs
        → (b : Bool) → r x ≡ b → list_any (λ q. q == p) (map f (cond (r x) (x ∷ filter r xs) (filter r xs))) ≡ ((r x && (f x == p)) || list_any (λ y. r y && (f y == p)) xs)
    go next true h =
        ap (λ b. list_any (λ q. q == p) (map f (cond b (x ∷ filter r xs) (filter r xs)))) h
        ∙ ap₂ ◌||◌ (ap (λ b. b && (f x == p)) (sym h)) next
    go next false h =
        ap (λ b. list_any (λ q. q == p) (map f (cond b (x ∷ filter r xs) (filter r xs)))) h
        ∙ next
        ∙ ap (λ b. (b && (f x == p)) || list_any (λ y. r y && (f y == p)) xs) (sym h)

-- One of the pairs that passes.
found-pair : (t : ℕ × ℕ → Bool) (ps : List (ℕ × ℕ)) → list_any t ps ≡ true → (x : ℕ × ℕ) × (t x ≡ true) × (list_any (is_at (pair_order x)) ps ≡ true)
found-pair t [] h = absurd (false≢true h)
found-pair t (p ∷ ps) h = go (t p) refl h (found-pair t ps)
  where
    go : (b : Bool) → t p ≡ b → (b || list_any t ps) ≡ true → (list_any t ps ≡ true → (x : ℕ × ℕ) × (t x ≡ true) × (list_any (is_at (pair_order x)) ps ≡ true))
        → (x : ℕ × ℕ) × (t x ≡ true) × (list_any (is_at (pair_order x)) (p ∷ ps) ≡ true)
    go true e m next =
        (p, e, ap (λ b. b || list_any (is_at (pair_order p)) ps) (is_at-pair p.0 p.1 p.0 p.1 ∙ ap₂ ◌&&◌ (eq-eqb p.0 p.0 refl) (eq-eqb p.1 p.1 refl)))
    go false e m next =
        let x = next m in
        (x.0, x.1, ap (λ b. is_eq (pair_order x.0 p) || b) x.2 ∙ or-right (is_eq (pair_order x.0 p)))

-- A pair that is there and passes.
any-pair : (t : ℕ × ℕ → Bool) (k n : ℕ) (ps : List (ℕ × ℕ)) → t (k, n) ≡ true → list_any (is_at (pair_order (k, n))) ps ≡ true → list_any t ps ≡ true
any-pair t k n [] h m = absurd (false≢true m)
any-pair t k n (p ∷ ps) h m = go (is_eq (pair_order (k, n) p)) refl m (any-pair t k n ps h)
  where
    go : (b : Bool) → is_eq (pair_order (k, n) p) ≡ b → (b || list_any (is_at (pair_order (k, n))) ps) ≡ true → (list_any (is_at (pair_order (k, n))) ps ≡ true → list_any t ps ≡ true) → list_any t (p ∷ ps) ≡ true
    go true e m next =
        let both = sym (is_at-pair k n p.0 p.1) ∙ e in
        let a : k ≡ p.0 = eqb-true k p.0 (and-left (k == p.0) (p.1 == n) both) in
        let b : p.1 ≡ n = eqb-true p.1 n (and-right (k == p.0) (p.1 == n) both) in
        ap (λ c. c || list_any t ps) (ap₂ (λ x y. t (x, y)) (sym a) b ∙ h)
    go false e m next = ap (λ c. t p || c) (next m) ∙ or-right (t p)

-- ---- entries

place-of : (number place : ℕ) → IsNumbered number place → place_of number ≡ place
place-of number place h = elim h.is [
  | inl e ↦ let l = h.below in let m : number < 562949953421312 = omega arith in ap (λ b. cond b (562949953421311 - number) (number - 562949953421312)) (lt-ltb number 562949953421312 m) ∙ omega arith
  | inr e ↦ let m : 562949953421312 ≤ number = omega arith in ap (λ b. cond b (562949953421311 - number) (number - 562949953421312)) (ge-ltb number 562949953421312 m) ∙ omega arith
]

any-found : {C K : Type 0} (t : DatedClause C → Bool) (fs es : List (ℕ × Entry C K)) → AllByRecursion (λ e. lookup (is_at (nat_cmp e.0)) fs ≡ Some e.1) es → list_any t (map (λ e. e.1.dated) es) ≡ true
    → (q : ℕ) × (x : Entry C K) × (lookup (is_at (nat_cmp q)) fs ≡ Some x) × (t x.dated ≡ true)
any-found t fs [] a h = absurd (false≢true h)
any-found {C} {K} t fs (e ∷ es) a h = go (t e.1.dated) refl h (any-found t fs es a.1)
  where
    go : (b : Bool) → t e.1.dated ≡ b → (b || list_any t (map (λ e. e.1.dated) es)) ≡ true
        → (list_any t (map (λ e. e.1.dated) es) ≡ true → (q : ℕ) × (x : Entry C K) × (lookup (is_at (nat_cmp q)) fs ≡ Some x) × (t x.dated ≡ true))
        → (q : ℕ) × (x : Entry C K) × (lookup (is_at (nat_cmp q)) fs ≡ Some x) × (t x.dated ≡ true)
    go true i m next = (e.0, e.1, a.0, i)
    go false i m next = next m

none-later : {C K : Type 0} (t : DatedClause C → Bool) (r : ℕ) (es : List (ℕ × Entry C K)) → AllByRecursion (λ e. r < e.0) es → AllByRecursion (λ e. t e.1.dated ≡ true → e.0 ≡ r) es → filter t (map (λ e. e.1.dated) es) ≡ []
none-later t r [] l h = refl
none-later t r (e ∷ es) l h = go (none-later t r es l.1 h.1) (t e.1.dated) refl
  where
    go : filter t (map (λ e. e.1.dated) es) ≡ []
        → (b : Bool) → t e.1.dated ≡ b → cond (t e.1.dated) (e.1.dated ∷ filter t (map (λ e. e.1.dated) es)) (filter t (map (λ e. e.1.dated) es)) ≡ []
    go next true i = absurd (let m : e.0 ≡ r = h.0 i in let k = l.0 in omega (arith, m, k))
    go next false i = ap (λ b. cond b (e.1.dated ∷ filter t (map (λ e. e.1.dated) es)) (filter t (map (λ e. e.1.dated) es))) i ∙ next

at-most-one : {C K : Type 0} (t : DatedClause C → Bool) (r : ℕ) (es : List (ℕ × Entry C K)) → IsStrictlySortedBy nat_cmp (keys_of es) → AllByRecursion (λ e. t e.1.dated ≡ true → e.0 ≡ r) es → length (filter t (map (λ e. e.1.dated) es)) ≤ 1
at-most-one t r [] sorted h = omega arith
at-most-one {C} {K} t r (e ∷ es) sorted h = go (at-most-one t r es (sorted_tail nat_cmp e.0 (keys_of es) sorted) h.1) (t e.1.dated) refl
  where
    go : length (filter t (map (λ e. e.1.dated) es)) ≤ 1
        → (b : Bool) → t e.1.dated ≡ b → length (cond (t e.1.dated) (e.1.dated ∷ filter t (map (λ e. e.1.dated) es)) (filter t (map (λ e. e.1.dated) es))) ≤ 1
    go next true i =
        let none = none-later t r es (subst (λ n. AllByRecursion (λ x. n < x.0) es) (h.0 i) (after_head (λ (x : Entry C K). x.dated) e es sorted)) h.1 in
        let one : length (cond (t e.1.dated) (e.1.dated ∷ filter t (map (λ e. e.1.dated) es)) (filter t (map (λ e. e.1.dated) es))) ≡ 1 = ap₂ (λ b ds. length (cond b (e.1.dated ∷ ds) ds)) i none in
        omega (arith, one)
    go next false i =
        subst (λ b. length (cond b (e.1.dated ∷ filter t (map (λ e. e.1.dated) es)) (filter t (map (λ e. e.1.dated) es))) ≤ 1) (sym i) next

module _ {C K : Type 0} (order : K → K → Ordering) (any : K → Bool) (key_of : C → K) (s : ClauseIndex C K) (sound : IsSound order any key_of s) where
  found : AllByRecursion (λ e. lookup (is_at (nat_cmp e.0)) s.clauses.entries ≡ Some e.1) s.clauses.entries
  found = each_found (λ (e : Entry C K). e.dated) s.clauses.entries sound.ordered

  numbered-on : (q : ℕ) (x : Entry C K) → numbers.get s.clauses q ≡ Some x → IsNumbered q x.dated.place
  numbered-on q x at =
      let p : IfSome (Some x) (λ e. IsNumbered q e.dated.place × (e.key ≡ key_of e.dated.clause)) = subst (λ o. IfSome o (λ e. IsNumbered q e.dated.place × (e.key ≡ key_of e.dated.clause))) at (sound.numbered q) in p.0

  here : (t : DatedClause C → Bool) (q : ℕ) (x : Entry C K) → numbers.get s.clauses q ≡ Some x → holds s.clauses t q ≡ t x.dated
  here t q x at = ap (λ o. option_map_or t (option_map (λ (e : Entry C K). e.dated) o) false) at

  there : (t : DatedClause C → Bool) (q : ℕ) → holds s.clauses t q ≡ true → (x : Entry C K) × (numbers.get s.clauses q ≡ Some x)
  there t q h = go (numbers.get s.clauses q) refl h
    where
      go : (o : Option (Entry C K)) → numbers.get s.clauses q ≡ o → option_map_or t (option_map (λ (e : Entry C K). e.dated) o) false ≡ true → (x : Entry C K) × (numbers.get s.clauses q ≡ Some x)
      go None at n = absurd (false≢true n)
      go (Some x) at n = (x, at)

  -- ---- the places of what can be dropped

  abbrev wanted : ℕ → ℕ → ℕ × ℕ → Bool
  wanted floor p x = range_contains pair_order Unbounded (Excluded (floor, 0)) x && (place_of x.1 == p)

  listed-droppable : (floor p : ℕ) → list_any (wanted floor p) s.erased.keys ≡ true → list_any (is_droppable_at floor p) (clauses_of s.clauses) ≡ true
  listed-droppable floor p h =
      let x = found-pair (wanted floor p) s.erased.keys h in
      let k = x.0.0 in
      let n = x.0.1 in
      let l : nat_lt k floor ≡ true = sym (below-floor floor k n) ∙ and-left (range_contains pair_order Unbounded (Excluded (floor, 0)) (k, n)) (place_of n == p) x.1 in
      let m : (place_of n == p) ≡ true = and-right (range_contains pair_order Unbounded (Excluded (floor, 0)) (k, n)) (place_of n == p) x.1 in
      let at : holds s.clauses (is_erased_at k) n ≡ true = sym (sound.listed_erased k n) ∙ x.2 in
      let e = there (is_erased_at k) n at in
      let gone = erased_at s.clauses k n e.0 e.1 at in
      any_true (λ (y : Entry C K). y.dated) (is_droppable_at floor p) n e.0 s.clauses.entries e.1
      (ap₂ ◌&&◌ (ap (λ j. j == p) (sym (place-of n e.0.dated.place (numbered-on n e.0 e.1))) ∙ m) (droppable_below e.0.dated k floor gone (ltb-true k floor l)))

  droppable-listed : (floor p : ℕ) → list_any (is_droppable_at floor p) (clauses_of s.clauses) ≡ true → list_any (wanted floor p) s.erased.keys ≡ true
  droppable-listed floor p h =
      let x = any-found (is_droppable_at floor p) s.clauses.entries s.clauses.entries found h in
      let q = x.0 in
      let e = x.1 in
      let m : (e.dated.place == p) ≡ true = and-left (e.dated.place == p) (is_droppable floor e.dated) x.3 in
      go q e x.2 m e.dated.erased refl (and-right (e.dated.place == p) (is_droppable floor e.dated) x.3)
    where
      go : (q : ℕ) (e : Entry C K) → numbers.get s.clauses q ≡ Some e → (e.dated.place == p) ≡ true → (o : Option ℕ) → e.dated.erased ≡ o → option_map_or (λ k. nat_lt k floor) o false ≡ true → list_any (wanted floor p) s.erased.keys ≡ true
      go q e at m None i d = absurd (false≢true d)
      go q e at m (Some k) i d =
          any-pair (wanted floor p) k q s.erased.keys
          (ap₂ ◌&&◌ (below-floor floor k q ∙ d) (ap (λ j. j == p) (place-of q e.dated.place (numbered-on q e at)) ∙ m))
          (sound.listed_erased k q ∙ here (is_erased_at k) q e at ∙ ap (λ o. option_map_or (λ j. j == k) o false) i ∙ eq-eqb k k refl)

  pub places-are : (floor p : ℕ) → list_any (λ q. q == p) (map (λ x. place_of x.1) (filter (range_contains pair_order Unbounded (Excluded (floor, 0))) s.erased.keys)) ≡ list_any (is_droppable_at floor p) (clauses_of s.clauses)
  places-are floor p =
      any-filtered (λ x. place_of x.1) (range_contains pair_order Unbounded (Excluded (floor, 0))) p s.erased.keys
      ∙ same-tests (list_any (wanted floor p) s.erased.keys) (list_any (is_droppable_at floor p) (clauses_of s.clauses)) (listed-droppable floor p) (droppable-listed floor p)

  -- ---- no two clauses have the same place

  only-number : (p : ℕ) → (o : Option (Entry C K)) → numbers.get s.clauses (first_number p) ≡ o → (r : ℕ) × ((q : ℕ) (x : Entry C K) → numbers.get s.clauses q ≡ Some x → (x.dated.place == p) ≡ true → q ≡ r)
  only-number p None none = (last_number p, λ q x at h. is-last q x at (eqb-true x.dated.place p h) (numbered-on q x at))
    where
      is-last : (q : ℕ) (x : Entry C K) → numbers.get s.clauses q ≡ Some x → x.dated.place ≡ p → IsNumbered q x.dated.place → q ≡ last_number p
      is-last q x at e n = elim n.is [
        | inl i ↦ absurd (let there : Some x ≡ None = sym at ∙ ap (numbers.get s.clauses) (i ∙ ap first_number e) ∙ none in cc there)
        | inr i ↦ i ∙ ap last_number e
      ]
  only-number p (Some y) some = (first_number p, λ q x at h. is-first q x at (eqb-true x.dated.place p h) (numbered-on q x at))
    where
      is-first : (q : ℕ) (x : Entry C K) → numbers.get s.clauses q ≡ Some x → x.dated.place ≡ p → IsNumbered q x.dated.place → q ≡ first_number p
      is-first q x at e n = elim n.is [
        | inl i ↦ i ∙ ap first_number e
        | inr i ↦ absurd (let none = sound.once p (subst (λ j. j < 562949953421312) e n.below) (subst IsSome (sym some) refl) in let there : Some x ≡ None = sym at ∙ ap (numbers.get s.clauses) (i ∙ ap last_number e) ∙ none in cc there)
      ]

  pub places-once : (p : ℕ) → length (filter (λ d. d.place == p) (clauses_of s.clauses)) ≤ 1
  places-once p =
      let r = only-number p (numbers.get s.clauses (first_number p)) refl in
      at-most-one (λ (d : DatedClause C). d.place == p) r.0 s.clauses.entries sound.ordered
      (each_from (λ (e : Entry C K). e.dated) (λ q d. (d.place == p) ≡ true → q ≡ r.0) s.clauses.entries s.clauses.entries found r.1)
