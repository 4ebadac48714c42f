-- What a call finds among the clauses of an index.
use Rattle.std.proofs.Common.{◌≡◌, ℕ, Bool, true, false, cond, not, ◌&&◌, List, [], ◌∷◌, ◌++◌, map, Option, Some, None, refl, sym, ap, ap₂, subst, ◌∙◌, arith, inl, inr}
use Rattle.std.specs.Prelude.{filter, nat_lt}
use Rattle.std.specs.List.{AllByRecursion}
use Rattle.std.specs.Option.{option_map, is_some}
use Rattle.pl_model.specs.FirstArguments.{are_apart}
use Rattle.std.specs.Ordering.{is_le, nat_cmp}
use Rattle.std.specs.Cmp.{nat_cmp_is}
use Rattle.std.specs.declared.cmp.Ordering.{Ordering}
use Rattle.std.specs.declared.cmp.Ordering.TheVariants.{Less, Equal, Greater}
use Rattle.std.specs.declared.ops.Bound.TheVariants.{Included, Unbounded}
use Rattle.std.specs.BTreeMap.Range.{range_contains, entries_between}
use Rattle.std.proofs.lemmas.Bool.{cases_lt}
use Rattle.std.proofs.lemmas.List.{map-append}
use Rattle.std.proofs.lemmas.List.Elements.{filter-append}
use borrow.Author.Tests.{lt-ltb}
use Rattle.gen_core.specs.NumberMaps.{ByNumber}
use Rattle.gen_core.specs.declared.dated_clause.DatedClause.{DatedClause}
use Rattle.gen_core.specs.declared.clause_index.Entry.{Entry}
use Rattle.gen_core.specs.Visible.{is_visible, is_choice, first_choice}
use Rattle.gen_core.specs.ClauseIndex.{clauses_from, dated_at}
use Rattle.gen_core.proofs.Entries.{ge-ltb}

-- ---- lists

pub filter-same : {X : Type 0} (t u : X → Bool) → ((x : X) → t x ≡ u x) → (xs : List X) → filter t xs ≡ filter u xs
filter-same t u h [] = refl
filter-same t u h (x ∷ xs) = ap₂ (λ b ys. cond b (x ∷ ys) ys) (h x) (filter-same t u h xs)

-- The entries of a range that begins at a number.
from-bound : (n q : ℕ) → range_contains nat_cmp (Included n) Unbounded q ≡ not (nat_lt q n)
from-bound n q = elim (cases_lt q n) [
  | inl l ↦ ap (λ r. is_le r && true) (sym (nat_cmp_is n q Greater l)) ∙ ap not (sym (lt-ltb q n l))
  | inr l ↦ elim (cases_lt n q) [
    | inl m ↦ ap (λ r. is_le r && true) (sym (nat_cmp_is n q Less m)) ∙ ap not (sym (ge-ltb q n l))
    | inr m ↦ let e : n ≡ q = omega arith in ap (λ r. is_le r && true) (sym (nat_cmp_is n q Equal e)) ∙ ap not (sym (ge-ltb q n l))
  ]
]

pub range_from : {X : Type 0} (n : ℕ) (es : List (ℕ × X)) → entries_between nat_cmp (Included n) Unbounded es ≡ filter (λ e. not (nat_lt e.0 n)) es
range_from n es = filter-same (λ e. range_contains nat_cmp (Included n) Unbounded e.0) (λ e. not (nat_lt e.0 n)) (λ e. from-bound n e.0) es

pub is_some-mapped : {X Y : Type 0} (f : X → Y) (r : Option X) → is_some r ≡ is_some (option_map f r)
is_some-mapped f None = refl
is_some-mapped f (Some x) = refl

module _ {C : Type 0} where
  -- ---- one after the other

  abbrev pub shown : DatedClause C → Bool → Option (ℕ × C × Bool)
  shown d more = Some (d.place, d.clause, more)

  -- A second one that passes.
  pub second_found : (t : DatedClause C → Bool) (before : List (DatedClause C)) (d x : DatedClause C) (after all : List (DatedClause C)) → all ≡ before ++ x ∷ after → filter t before ≡ d ∷ [] → t x ≡ true
      → shown d true ≡ first_choice (filter t all)
  second_found t before d x after all e h i =
      sym (ap (λ ds. first_choice (filter t ds)) e ∙ ap first_choice (filter-append t before (x ∷ after) ∙ ap₂ ◌++◌ h (ap (λ b. cond b (x ∷ filter t after) (filter t after)) i)))

  -- A clause as a call answers it.
  pub shown_is : (d : DatedClause C) (p : ℕ) (c : C) (m more : Bool) → (p ≡ d.place) × (c ≡ d.clause) × (m ≡ more) → Some (p, c, m) ≡ shown d more
  shown_is d p c m more e = ap (λ q. Some (q, c, m)) e.0 ∙ ap (λ y. Some (d.place, y, m)) e.1 ∙ ap (λ b. Some (d.place, d.clause, b)) e.2

  pub shown_at : {K : Type 0} (m : ByNumber (Entry C K)) (n : ℕ) (d : DatedClause C) (more : Bool) → dated_at m n ≡ Some d → shown d more ≡ option_map (λ d. (d.place, d.clause, more)) (dated_at m n)
  shown_at m n d more at = ap (option_map (λ d. (d.place, d.clause, more))) (sym at)

-- ---- the entries of a range, read from its front

module _ {X C K : Type 0} (read : X → ℕ × Entry C K) where
  mapped : (xs : List X) → map (λ (e : ℕ × Entry C K). e.1.dated) (map read xs) ≡ map (λ x. (read x).1.dated) xs
  mapped [] = refl
  mapped (x ∷ xs) = ap (λ ds. (read x).1.dated ∷ ds) (mapped xs)

  joined : (xs : List X) (es : List (ℕ × Entry C K)) → map (λ (e : ℕ × Entry C K). e.1.dated) (map read xs ++ es) ≡ map (λ x. (read x).1.dated) xs ++ map (λ e. e.1.dated) es
  joined [] es = refl
  joined (x ∷ xs) es = ap (λ ds. (read x).1.dated ∷ ds) (joined xs es)

  -- Some are read, and x is the next one.
  pub read_more : (n : ℕ) (m : ByNumber (Entry C K)) (xs : List X) (s t u : List (ℕ × Entry C K)) (x : X)
      → s ≡ entries_between nat_cmp (Included n) Unbounded m.entries → s ≡ map read xs ++ t → t ≡ read x ∷ u
      → clauses_from n m ≡ map (λ x. (read x).1.dated) xs ++ (read x).1.dated ∷ map (λ e. e.1.dated) u
  read_more n m xs s t u x start so next =
      ap (map (λ (e : ℕ × Entry C K). e.1.dated)) (sym (range_from n m.entries) ∙ sym start ∙ so ∙ ap (λ es. map read xs ++ es) next)
      ∙ joined xs (read x ∷ u)

  -- All are read.
  pub read_all : (n : ℕ) (m : ByNumber (Entry C K)) (xs : List X) → map read xs ≡ entries_between nat_cmp (Included n) Unbounded m.entries → clauses_from n m ≡ map (λ x. (read x).1.dated) xs
  read_all n m xs h = ap (map (λ (e : ℕ × Entry C K). e.1.dated)) (sym (range_from n m.entries) ∙ sym h) ∙ mapped xs

  all_passing : (P : Entry C K → Type 0) (t : ℕ × Entry C K → Bool) (es : List (ℕ × Entry C K)) → AllByRecursion (λ e. P e.1) es → AllByRecursion (λ e. P e.1) (filter t es)
  all_passing P t [] all = tt
  all_passing P t (e ∷ es) all = go (t e) (all_passing P t es all.1)
    where
      go : (b : Bool) → AllByRecursion (λ x. P x.1) (filter t es) → AllByRecursion (λ x. P x.1) (cond b (e ∷ filter t es) (filter t es))
      go true rest = (all.0, rest)
      go false rest = rest

  one_of : (P : Entry C K → Type 0) (xs : List (ℕ × Entry C K)) (y : ℕ × Entry C K) (ys : List (ℕ × Entry C K)) → AllByRecursion (λ e. P e.1) (xs ++ y ∷ ys) → P y.1
  one_of P [] y ys all = all.0
  one_of P (x ∷ xs) y ys all = one_of P xs y ys all.1

  -- What holds of all entries holds of the next one that is read.
  pub read_holds : (P : Entry C K → Type 0) (n : ℕ) (m : ByNumber (Entry C K)) (xs : List X) (s t u : List (ℕ × Entry C K)) (x : X)
      → AllByRecursion (λ e. P e.1) m.entries
      → s ≡ entries_between nat_cmp (Included n) Unbounded m.entries → s ≡ map read xs ++ t → t ≡ read x ∷ u
      → P (read x).1
  read_holds P n m xs s t u x all start so next =
      one_of P (map read xs) (read x) u
      (subst (λ es. AllByRecursion (λ e. P e.1) es)
      (sym (range_from n m.entries) ∙ sym start ∙ so ∙ ap (λ es. map read xs ++ es) next)
      (all_passing P (λ e. not (nat_lt e.0 n)) m.entries all))

-- One more is read.
pub passed_more : {X C : Type 0} (t : C → Bool) (f : X → C) (xs : List X) (x : X) (b : Bool) → t (f x) ≡ b
    → filter t (map f (xs ++ x ∷ [])) ≡ filter t (map f xs) ++ cond b (f x ∷ []) []
passed_more t f xs x b e =
    ap (filter t) (map-append f xs (x ∷ [])) ∙ filter-append t (map f xs) (f x ∷ []) ∙ ap (λ r. filter t (map f xs) ++ cond r (f x ∷ []) []) e

-- A clause is tried by the key that is kept with it.
pub tried_is : {C K : Type 0} (order : K → K → Ordering) (any : K → Bool) (key_of : C → K) (g : ℕ) (first : K) (e : Entry C K) (b : Bool)
    → e.key ≡ key_of e.dated.clause
    → b ≡ (is_visible g e.dated && not (are_apart order any first e.key))
    → is_choice order any key_of g first e.dated ≡ b
tried_is order any key_of g first e b same is = ap (λ k. is_visible g e.dated && not (are_apart order any first k)) (sym same) ∙ sym is
