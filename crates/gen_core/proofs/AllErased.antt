-- All clauses of an index are erased.
use Rattle.std.proofs.Common.{◌≡◌, ℕ, suc, ◌+◌, ◌<◌, Bool, true, false, cond, not, ◌&&◌, ◌||◌, ◌==◌, List, [], ◌∷◌, map, length, Option, Some, None, IsSome, refl, sym, ap, ap₂, ◌∙◌, subst, arith}
use Rattle.std.specs.Prelude.{sum_by}
use Rattle.std.specs.List.{AllByRecursion, IsDistinct, list_any}
use Rattle.std.specs.List.Sorted.{IsStrictlySortedBy}
use Rattle.std.specs.Option.{IfSome, option_map, option_map_or, is_some, unwrap_or}
use Rattle.std.specs.Ordering.{is_eq, eq_by_cmp, nat_cmp}
use Rattle.std.specs.Cmp.{IsTotalOrder, eq_by_cmp_equiv, nat_cmp_total, nat_eq_equiv, on_total, then_total}
use Rattle.std.specs.declared.cmp.Ordering.{Ordering}
use Rattle.std.specs.Map.{lookup, values_of, keys_of}
use Rattle.std.specs.BTreeSet as set
use Rattle.std.specs.BTreeMap.{is_at}
use Rattle.std.proofs.lemmas.Bool.{ne_eqb}
use Rattle.std.proofs.lemmas.List.Sums.{sum_by-cons}
use borrow.Author.Tests.{eqb-true}
use Rattle.std.proofs.lemmas.Map.Keys.{sorted_tail}
use Rattle.std.proofs.lemmas.Map.Made.{lookup-map_values, distinct_count-from_IsDistinct}
use Rattle.std.proofs.lemmas.Map.Views.{btree_set_len-from_list}
use Rattle.gen_core.specs.NumberMaps as numbers
use Rattle.gen_core.specs.declared.dated_clause.DatedClause.{DatedClause}
use Rattle.gen_core.specs.declared.clause_index.Entry.{Entry}
use Rattle.gen_core.specs.declared.clause_index.ClauseIndex.{ClauseIndex}
use Rattle.gen_core.specs.Index.{is_listed}
use Rattle.gen_core.specs.Numbers.{IsNumbered, first_number, last_number}
use Rattle.gen_core.specs.Visible.{is_live, erased_all, counted}
use Rattle.gen_core.specs.ClauseIndex.{IsSound, holds, pair_order, is_erased_at, erased_from, marked_all}
use Rattle.gen_core.proofs.Additions.{is_at-number}
use Rattle.gen_core.proofs.Erasures.{is_at-pair}
use Rattle.gen_core.proofs.Entries.{after_head}

-- ---- one clause

-- Its place and the clause itself stay.
pub place-all : {C : Type 0} (place : ℕ) (d : DatedClause C) → (erased_all place d).place ≡ d.place
place-all {C} place d = go (is_live d)
  where
    go : (b : Bool) → (cond b (record d { erased = Some place }) d).place ≡ d.place
    go true = refl
    go false = refl

pub clause-all : {C : Type 0} (place : ℕ) (d : DatedClause C) → (erased_all place d).clause ≡ d.clause
clause-all {C} place d = go (is_live d)
  where
    go : (b : Bool) → (cond b (record d { erased = Some place }) d).clause ≡ d.clause
    go true = refl
    go false = refl

-- It is erased, at the place where it was not erased before.
erased-all : {C : Type 0} (place : ℕ) (d : DatedClause C) → (erased_all place d).erased ≡ Some (erased_from place d)
erased-all {C} place d = go d.erased refl
  where
    go : (e : Option ℕ) → d.erased ≡ e → (cond (not (is_some d.erased)) (record d { erased = Some place }) d).erased ≡ Some (unwrap_or d.erased place)
    go None h =
        ap (λ o. (cond (not (is_some o)) (record d { erased = Some place }) d).erased) h ∙ ap (λ o. Some (unwrap_or o place)) (sym h)
    go (Some k) h =
        ap (λ o. (cond (not (is_some o)) (record d { erased = Some place }) d).erased) h ∙ h ∙ ap (λ o. Some (unwrap_or o place)) (sym h)

map-length : {X Y : Type 0} (f : X → Y) (xs : List X) → length (map f xs) ≡ length xs
map-length f [] = refl
map-length f (x ∷ xs) = ap suc (map-length f xs)

-- ---- the set of erasures

abbrev pub erasure : {C K : Type 0} → ℕ → ℕ × Entry C K → ℕ × ℕ
erasure place e = (erased_from place e.1.dated, e.0)

pub pairs_total : IsTotalOrder pair_order
pairs_total = then_total (on_total (λ (p : ℕ × ℕ). p.0) nat_cmp_total) (on_total (λ (p : ℕ × ℕ). p.1) nat_cmp_total)

module _ {C K : Type 0} (place : ℕ) where
  none_above : (k q : ℕ) (es : List (ℕ × Entry C K)) → AllByRecursion (λ e. q < e.0) es → list_any (eq_by_cmp pair_order (k, q)) (map (erasure place) es) ≡ false
  none_above k q [] h = refl
  none_above k q (e ∷ es) h =
      ap₂ ◌||◌
      (is_at-pair k q (erased_from place e.1.dated) e.0 ∙ ap (λ b. (k == erased_from place e.1.dated) && b) (ne_eqb e.0 q (λ i. (let l = h.0 in omega arith))) ∙ right (k == erased_from place e.1.dated))
      (none_above k q es h.1)
    where
      right : (b : Bool) → (b && false) ≡ false
      right true = refl
      right false = refl

  abbrev at_all : ℕ → Entry C K → Bool
  at_all k e = is_erased_at k (erased_all place e.dated)

  at_all-is : (k : ℕ) (e : Entry C K) → at_all k e ≡ (k == erased_from place e.dated)
  at_all-is k e = ap (λ o. option_map_or (λ j. j == k) o false) (erased-all place e.dated) ∙ turned (erased_from place e.dated) k
    where
      turned : (a b : ℕ) → (a == b) ≡ (b == a)
      turned a b = nat_eq_equiv.symm a b

  -- An erasure is listed exactly where a clause has it.
  pub listed_all : (k q : ℕ) (es : List (ℕ × Entry C K)) → IsStrictlySortedBy nat_cmp (keys_of es)
      → list_any (eq_by_cmp pair_order (k, q)) (map (erasure place) es) ≡ option_map_or (at_all k) (lookup (is_at (nat_cmp q)) es) false
  listed_all k q [] sorted = refl
  listed_all k q (e ∷ es) sorted = go (listed_all k q es (sorted_tail nat_cmp e.0 (keys_of es) sorted)) (e.0 == q) refl
    where
      go : list_any (eq_by_cmp pair_order (k, q)) (map (erasure place) es) ≡ option_map_or (at_all k) (lookup (is_at (nat_cmp q)) es) false
          → (b : Bool) → (e.0 == q) ≡ b → list_any (eq_by_cmp pair_order (k, q)) (map (erasure place) (e ∷ es)) ≡ option_map_or (at_all k) (lookup (is_at (nat_cmp q)) (e ∷ es)) false
      go next true h =
          ap₂ ◌||◌ (is_at-pair k q (erased_from place e.1.dated) e.0 ∙ ap (λ b. (k == erased_from place e.1.dated) && b) h)
          (none_above k q es (subst (λ n. AllByRecursion (λ x. n < x.0) es) (eqb-true e.0 q h) (after_head (λ (x : Entry C K). x) e es sorted)))
          ∙ simple (k == erased_from place e.1.dated)
          ∙ sym (at_all-is k e.1)
          ∙ ap (λ b. option_map_or (at_all k) (cond b (Some e.1) (lookup (is_at (nat_cmp q)) es)) false) (sym (is_at-number q e.0 ∙ h))
        where
          simple : (x : Bool) → ((x && true) || false) ≡ x
          simple true = refl
          simple false = refl
      go next false h =
          ap₂ ◌||◌ (is_at-pair k q (erased_from place e.1.dated) e.0 ∙ ap (λ b. (k == erased_from place e.1.dated) && b) h) next
          ∙ simple (k == erased_from place e.1.dated) (option_map_or (at_all k) (lookup (is_at (nat_cmp q)) es) false)
          ∙ ap (λ b. option_map_or (at_all k) (cond b (Some e.1) (lookup (is_at (nat_cmp q)) es)) false) (sym (is_at-number q e.0 ∙ h))
        where
          simple : (x y : Bool) → ((x && false) || y) ≡ y
          simple true y = refl
          simple false y = refl

  apart : (e : ℕ × Entry C K) (es : List (ℕ × Entry C K)) → AllByRecursion (λ x. e.0 < x.0) es → AllByRecursion (λ p. eq_by_cmp pair_order (erasure place e) p ≡ false) (map (erasure place) es)
  apart e [] h = tt
  apart e (x ∷ es) h = (
    is_at-pair (erased_from place e.1.dated) e.0 (erased_from place x.1.dated) x.0
        ∙ ap (λ b. (erased_from place e.1.dated == erased_from place x.1.dated) && b) (ne_eqb x.0 e.0 (λ i. (let l = h.0 in omega arith)))
        ∙ right (erased_from place e.1.dated == erased_from place x.1.dated),
    apart e es h.1,
  )
    where
      right : (b : Bool) → (b && false) ≡ false
      right true = refl
      right false = refl

  distinct_all : (es : List (ℕ × Entry C K)) → IsStrictlySortedBy nat_cmp (keys_of es) → IsDistinct (eq_by_cmp pair_order) (map (erasure place) es)
  unfolding IsDistinct
  distinct_all [] sorted = tt
  distinct_all (e ∷ es) sorted = (apart e es (after_head (λ (x : Entry C K). x) e es sorted), distinct_all es (sorted_tail nat_cmp e.0 (keys_of es) sorted))

  -- Each clause counts once.
  all_counted : (es : List (ℕ × Entry C K)) → sum_by (λ (e : Entry C K). counted e.dated) (values_of (map (λ e. (e.0, marked_all place e.1)) es)) ≡ length es
  all_counted [] = refl
  all_counted (e ∷ es) =
      sum_by-cons (λ (e : Entry C K). counted e.dated) (marked_all place e.1) (values_of (map (λ e. (e.0, marked_all place e.1)) es))
      ∙ ap₂ (λ o n. cond (is_some o) 1 0 + n) (erased-all place e.1.dated) (all_counted es)
      ∙ one (length es)
    where
      one : (n : ℕ) → 1 + n ≡ suc n
      one n = omega arith

  pub clauses_all : (es : List (ℕ × Entry C K)) → map (λ (e : ℕ × Entry C K). e.1.dated) (map (λ e. (e.0, marked_all place e.1)) es) ≡ map (erased_all place) (map (λ e. e.1.dated) es)
  clauses_all [] = refl
  clauses_all (e ∷ es) = ap (λ ds. erased_all place e.1.dated ∷ ds) (clauses_all es)

module _ {C K : Type 0} (order : K → K → Ordering) (any : K → Bool) (key_of : C → K) (old new : ClauseIndex C K) (place : ℕ)
    (sound : IsSound order any key_of old)
    (ordered : numbers.IsOrdered new.clauses)
    (entries : new.clauses.entries ≡ map (λ e. (e.0, marked_all place e.1)) old.clauses.entries)
    (by_key : new.index ≡ old.index)
    (by_any : new.any ≡ old.any)
    (erased : set.IsFromIterResult pair_order (map (erasure place) old.clauses.entries) new.erased)
  where
    get-all : (q : ℕ) → numbers.get new.clauses q ≡ option_map (marked_all place) (numbers.get old.clauses q)
    get-all q = ap (lookup (is_at (nat_cmp q))) entries ∙ lookup-map_values (marked_all place) (is_at (nat_cmp q)) old.clauses.entries

    abbrev Fits : ℕ → Entry C K → Type 0
    Fits q e = IsNumbered q e.dated.place × (e.key ≡ key_of e.dated.clause)

    fits-all : (q : ℕ) (o : Option (Entry C K)) → IfSome o (Fits q) → IfSome (option_map (marked_all place) o) (Fits q)
    fits-all q None h = tt
    fits-all q (Some e) h = (subst (IsNumbered q) (sym (place-all place e.dated)) h.0, h.1 ∙ ap key_of (sym (clause-all place e.dated)))

    -- A test that does not read the erasure answers as before.
    as_before : (t : DatedClause C → Bool) → ((d : DatedClause C) → t (erased_all place d) ≡ t d) → (q : ℕ) → holds old.clauses t q ≡ holds new.clauses t q
    as_before t same q = go (numbers.get old.clauses q) ∙ ap (λ o. option_map_or t (option_map (λ (e : Entry C K). e.dated) o) false) (sym (get-all q))
      where
        go : (o : Option (Entry C K)) → option_map_or t (option_map (λ (e : Entry C K). e.dated) o) false ≡ option_map_or t (option_map (λ (e : Entry C K). e.dated) (option_map (marked_all place) o)) false
        go None = refl
        go (Some e) = sym (same e.dated)

    some-all : (o : Option (Entry C K)) → IsSome (option_map (marked_all place) o) → IsSome o
    some-all None h = h
    some-all (Some e) h = refl

    erased_listed : (k q : ℕ) → set.contains pair_order new.erased (k, q) ≡ holds new.clauses (is_erased_at k) q
    erased_listed k q =
        erased.0 (k, q) ∙ listed_all place k q old.clauses.entries sound.ordered
        ∙ go (numbers.get old.clauses q)
        ∙ ap (λ o. option_map_or (is_erased_at k) (option_map (λ (e : Entry C K). e.dated) o) false) (sym (get-all q))
      where
        go : (o : Option (Entry C K)) → option_map_or (at_all place k) o false ≡ option_map_or (is_erased_at k) (option_map (λ (e : Entry C K). e.dated) (option_map (marked_all place) o)) false
        go None = refl
        go (Some e) = refl

    gone-all : set.btree_set_len new.erased ≡ sum_by (λ e. counted e.dated) (numbers.values new.clauses)
    gone-all =
        btree_set_len-from_list pairs_total (map (erasure place) old.clauses.entries) new.erased erased
        ∙ distinct_count-from_IsDistinct (eq_by_cmp_equiv pairs_total) (map (erasure place) old.clauses.entries) (distinct_all place old.clauses.entries sound.ordered)
        ∙ map-length (erasure place) old.clauses.entries
        ∙ sym (ap (λ es. sum_by (λ (e : Entry C K). counted e.dated) (values_of es)) entries ∙ all_counted place old.clauses.entries)

    pub sound_all : IsSound order any key_of new
    sound_all = record {
      ordered = ordered;
      numbered = λ q. subst (λ o. IfSome o (Fits q)) (sym (get-all q)) (fits-all q (numbers.get old.clauses q) (sound.numbered q));
      once = λ p l some. get-all (last_number p) ∙ ap (option_map (marked_all place)) (sound.once p l (some-all (numbers.get old.clauses (first_number p)) (subst IsSome (get-all (first_number p)) some)));
      listed = λ k q. ap (λ i. is_listed order i.by_key k q) by_key ∙ sound.listed k q
          ∙ as_before (λ d. not (any (key_of d.clause)) && is_eq (order k (key_of d.clause))) (λ d. ap (λ c. not (any (key_of c)) && is_eq (order k (key_of c))) (clause-all place d)) q;
      listed_any = λ q. ap (λ s. set.contains nat_cmp s q) by_any ∙ sound.listed_any q ∙ as_before (λ d. any (key_of d.clause)) (λ d. ap (λ c. any (key_of c)) (clause-all place d)) q;
      listed_erased = erased_listed;
      gone_is = gone-all;
    }
