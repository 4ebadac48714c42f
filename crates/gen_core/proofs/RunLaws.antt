-- Runs of erased clauses: what changes of the clauses leave them, and what they say of a search.
use Rattle.std.proofs.Common.{◌≡◌, ℕ, ◌<◌, ◌≤◌, Bool, true, false, cond, not, ◌&&◌, ◌==◌, map, Option, Some, None, refl, sym, ap, ◌∙◌, subst, arith, inl, inr}
use Rattle.std.specs.Prelude.{nat_le}
use Rattle.std.specs.Option.{IfSome, option_map, option_map_or, is_some}
use Rattle.std.specs.declared.result.Result.{Result}
use Rattle.std.specs.declared.result.Result.TheVariants.{Ok, Err}
use Rattle.std.specs.Result.{OnErr, OnOk}
use Rattle.std.specs.Ordering.{is_eq, nat_cmp}
use Rattle.std.specs.declared.cmp.Ordering.{Ordering}
use Rattle.std.specs.Map.{lookup}
use Rattle.std.specs.BTreeMap as tree
use Rattle.std.specs.BTreeMap.{is_at}
use Rattle.std.proofs.lemmas.Bool.{false≢true, ne_eqb}
use Rattle.std.proofs.lemmas.Map.Made.{lookup-map_values}
use borrow.Author.Tests.{eqb-true}
use Rattle.gen_core.specs.NumberMaps.{ByNumber}
use Rattle.gen_core.specs.NumberMaps as numbers
use Rattle.gen_core.specs.declared.dated_clause.DatedClause.{DatedClause}
use Rattle.gen_core.specs.declared.clause_index.Entry.{Entry}
use Rattle.gen_core.specs.declared.clause_index.ClauseIndex.{ClauseIndex}
use Rattle.gen_core.specs.declared.runs.Run.{Run}
use Rattle.gen_core.specs.declared.runs.Runs.{Runs}
use Rattle.gen_core.specs.Numbers.{IsNumbered}
use Rattle.gen_core.specs.Visible.{is_live, is_visible, is_choice, erased_all}
use Rattle.gen_core.specs.ClauseIndex.{IsSound, holds, dated_at, marked, marked_all}
use Rattle.gen_core.specs.Runs.{AreRuns, IsRun, Leaves, OthersStay, StayGone, is_gone}
use Rattle.gen_core.proofs.Additions.{is_at-number}

-- ---- what changes of the clauses leave

live_stays : {C : Type 0} (k : ℕ) (d : DatedClause C) → is_live d ≡ true → is_gone k (Some d) ≡ false
live_stays {C} k d live = go d.erased live
  where
    go : (e : Option ℕ) → not (is_some e) ≡ true → option_map_or (λ j. nat_le j k) e false ≡ false
    go None h = refl
    go (Some j) h = absurd (false≢true h)

module _ {C K : Type 0} (old new : ByNumber (Entry C K)) where
  -- A clause that was not erased is.
  pub stay_marked : (number place : ℕ) → holds old is_live number ≡ true
      → ((q : ℕ) → numbers.get new q ≡ cond (q == number) (option_map (marked place) (numbers.get old number)) (numbers.get old q))
      → StayGone old new
  stay_marked number place live gets k q h = go (q == number) refl
    where
      not_gone : (o : Option (DatedClause C)) → option_map_or is_live o false ≡ true → is_gone k o ≡ false
      not_gone None l = absurd (false≢true l)
      not_gone (Some d) l = live_stays k d l

      go : (b : Bool) → (q == number) ≡ b → is_gone k (dated_at new q) ≡ true
      go true e =
          absurd (false≢true (sym (not_gone (dated_at old number) live) ∙ ap (λ p. is_gone k (dated_at old p)) (sym (eqb-true q number e)) ∙ h))
      go false e =
          ap (λ o. is_gone k (option_map (λ (x : Entry C K). x.dated) o)) (gets q ∙ ap (λ b. cond b (option_map (marked place) (numbers.get old number)) (numbers.get old q)) e) ∙ h

  -- A clause is taken out.
  pub stay_out : (number : ℕ) → ((q : ℕ) → numbers.get new q ≡ cond (is_eq (nat_cmp number q)) None (numbers.get old q)) → StayGone old new
  stay_out number gets k q h = go (is_eq (nat_cmp number q)) refl
    where
      go : (b : Bool) → is_eq (nat_cmp number q) ≡ b → is_gone k (dated_at new q) ≡ true
      go true e = ap (λ o. is_gone k (option_map (λ (x : Entry C K). x.dated) o)) (gets q ∙ ap (λ b. cond b None (numbers.get old q)) e)
      go false e = ap (λ o. is_gone k (option_map (λ (x : Entry C K). x.dated) o)) (gets q ∙ ap (λ b. cond b None (numbers.get old q)) e) ∙ h

  -- All clauses are erased.
  pub stay_all : (place : ℕ) → new.entries ≡ map (λ e. (e.0, marked_all place e.1)) old.entries → StayGone old new
  stay_all place entries k q h =
      ap (λ o. is_gone k (option_map (λ (x : Entry C K). x.dated) o)) gets ∙ go (numbers.get old q) h
    where
      gets : numbers.get new q ≡ option_map (marked_all place) (numbers.get old q)
      gets = ap (lookup (is_at (nat_cmp q))) entries ∙ lookup-map_values (marked_all place) (is_at (nat_cmp q)) old.entries

      at : (d : DatedClause C) (e : Option ℕ) → d.erased ≡ e → option_map_or (λ j. nat_le j k) e false ≡ true → is_gone k (Some (erased_all place d)) ≡ true
      at d None e l = absurd (false≢true l)
      at d (Some j) e l =
          ap (λ o. is_gone k (Some (cond (not (is_some o)) (record d { erased = Some place }) d))) e
          ∙ ap (λ o. option_map_or (λ j. nat_le j k) o false) e ∙ l

      go : (o : Option (Entry C K)) → is_gone k (option_map (λ (x : Entry C K). x.dated) o) ≡ true → is_gone k (option_map (λ (x : Entry C K). x.dated) (option_map (marked_all place) o)) ≡ true
      go None l = refl
      go (Some x) l = at x.dated x.dated.erased refl l

  -- The same clauses.
  pub stay_same : new.entries ≡ old.entries → StayGone old new
  stay_same e k q h = ap (λ es. is_gone k (option_map (λ (x : Entry C K). x.dated) (lookup (is_at (nat_cmp q)) es))) e ∙ h

  -- The same, where an update answers so, and else leaves the clauses.
  pub gone_by : {T E : Type 0} (r : Result T E) → OnOk r (StayGone old new) → OnErr r (new.entries ≡ old.entries) → StayGone old new
  gone_by (Ok x) stay same = stay
  gone_by (Err e) stay same = stay_same same

  -- A clause is put on a number.
  pub others_put : (number : ℕ) (x : Entry C K) → ((q : ℕ) → numbers.get new q ≡ cond (is_eq (nat_cmp number q)) (Some x) (numbers.get old q)) → OthersStay old new number
  others_put number x gets q h =
      ap (option_map (λ (x : Entry C K). x.dated))
      (gets q ∙ ap (λ b. cond b (Some x) (numbers.get old q)) (is_at-number number q ∙ h))

  -- ---- what is left of runs

  pub runs_stay : (rs : Runs) → AreRuns rs old → StayGone old new → AreRuns rs new
  runs_stay rs are stay first = go (tree.get nat_cmp rs.by_first first) (are first)
    where
      go : (o : Option Run) → IfSome o (IsRun rs old first) → IfSome o (IsRun rs new first)
      go None h = tt
      go (Some r) h = record { low = h.low; high = h.high; gone = λ q l m. stay r.newest q (h.gone q l m) }

  -- No runs.
  pub runs_none : (rs : Runs) → ((first : ℕ) → tree.get nat_cmp rs.by_first first ≡ None) → AreRuns rs new
  runs_none rs none first = subst (λ o. IfSome o (IsRun rs new first)) (sym (none first)) tt

  -- Runs that have a number no longer, and a clause that is put on it.
  pub runs_beside : (rs now : Runs) (number : ℕ) → AreRuns rs old → Leaves rs now number → OthersStay old new number → AreRuns now new
  runs_beside rs now number are left others first = go (tree.get nat_cmp now.by_first first) refl (left.runs first)
    where
      none_some : (r : Run) → tree.get nat_cmp now.by_first first ≡ Some r → tree.get nat_cmp now.by_first first ≡ None → ⊥
      none_some r at none = let e : Some r ≡ None = sym at ∙ none in absurd (cc e)

      apart : (r : Run) → IsRun rs old first r → (now.low ≡ rs.low) × (now.high ≡ rs.high) → (q : ℕ) → first ≤ q → q < r.until → (q == number) ≡ false
      apart r h same q l m = ne_eqb q number (λ e. elim left.clear [
        | inl c ↦ (let a = h.low in let b = same.0 in omega (arith, a, b, c, e, l))
        | inr c ↦ (let a = h.high in let b = same.1 in omega (arith, a, b, c, e, m))
      ])

      known : (r : Run) → tree.get nat_cmp rs.by_first first ≡ Some r → IsRun rs old first r
      known r at = subst (λ o. IfSome o (IsRun rs old first)) at (are first)

      kept : (r : Run) → tree.get nat_cmp now.by_first first ≡ Some r → IsRun rs old first r → IsRun now new first r
      kept r at h = elim left.bounds [
        | inl none ↦ absurd (none_some r at (none first))
        | inr same ↦ record {
          low = subst (λ n. n ≤ first) (sym same.0) h.low;
          high = subst (λ n. r.until ≤ n) (sym same.1) h.high;
          gone = λ q l m. ap (is_gone r.newest) (others q (apart r h same q l m)) ∙ h.gone q l m;
        }
      ]

      go : (o : Option Run) → tree.get nat_cmp now.by_first first ≡ o → IfSome o (λ r. tree.get nat_cmp rs.by_first first ≡ Some r) → IfSome o (IsRun now new first)
      go None at h = tt
      go (Some r) at h = kept r at (known r h)

-- Runs of which none has a number any longer.
pub runs_left : {C K : Type 0} (m : ByNumber (Entry C K)) (rs now : Runs) (number : ℕ) → AreRuns rs m → Leaves rs now number → AreRuns now m
runs_left m rs now number are left = runs_beside m m rs now number are left (λ q h. refl)

-- ---- what they say of a search

-- The numbers of clauses are below a bound.
pub number_below : {C K : Type 0} (order : K → K → Ordering) (any : K → Bool) (key_of : C → K) (s : ClauseIndex C K) → IsSound order any key_of s
    → (t : DatedClause C → Bool) (q : ℕ) → holds s.clauses t q ≡ true → q < 1125899906842624
number_below {C} {K} order any key_of s sound t q h = go (numbers.get s.clauses q) (sound.numbered q) h
  where
    go : (o : Option (Entry C K)) → IfSome o (λ e. IsNumbered q e.dated.place × (e.key ≡ key_of e.dated.clause))
        → option_map_or t (option_map (λ (e : Entry C K). e.dated) o) false ≡ true → q < 1125899906842624
    go None n l = absurd (false≢true l)
    go (Some e) n l = let b = n.0.below in elim n.0.is [ inl i ↦ omega (arith, b, i) | inr i ↦ omega (arith, b, i) ]

-- A goal whose first argument may be equal to any tries each clause that is seen.
pub seen_tried : {C K : Type 0} (order : K → K → Ordering) (any : K → Bool) (key_of : C → K) (m : ByNumber (Entry C K)) (g : ℕ) (first : K) → any first ≡ true
    → (q : ℕ) → holds m (is_visible g) q ≡ holds m (is_choice order any key_of g first) q
seen_tried {C} order any key_of m g first h q = go (dated_at m q)
  where
    both : (b : Bool) → b ≡ (b && true)
    both true = refl
    both false = refl

    go : (o : Option (DatedClause C)) → option_map_or (is_visible g) o false ≡ option_map_or (is_choice order any key_of g first) o false
    go None = refl
    go (Some d) =
        both (is_visible g d)
        ∙ ap (λ b. is_visible g d && not (not b && (not (any (key_of d.clause)) && not (is_eq (order first (key_of d.clause)))))) (sym h)
