-- Clauses that share their keys with others: what changes of the clauses leave, and which clause is alone under its key.
use Rattle.std.proofs.Common.{◌≡◌, ℕ, ◌+◌, ◌<◌, ◌≤◌, Bool, true, false, cond, not, ◌&&◌, ◌||◌, ◌==◌, List, [], ◌∷◌, map, Option, Some, None, refl, sym, ap, ap₂, subst, ◌∙◌, arith, eq-eqb}
use Rattle.std.specs.Prelude.{filter, nat_lt}
use Rattle.std.specs.Option.{option_map, option_map_or, IfSome}
use Rattle.std.specs.declared.result.Result.{Result}
use Rattle.std.specs.declared.result.Result.TheVariants.{Ok, Err}
use Rattle.std.specs.Result.{OnErr, OnOk}
use Rattle.std.specs.Ordering.{is_eq, nat_cmp}
use Rattle.std.specs.Cmp.{IsTotalOrder, eq_by_cmp_equiv, nat_eq_equiv}
use Rattle.std.specs.declared.cmp.Ordering.{Ordering}
use Rattle.std.specs.Map.{lookup}
use Rattle.std.specs.BTreeMap.{is_at}
use Rattle.std.specs.BTreeSet as set
use Rattle.std.specs.BTreeSet.{BTreeSet}
use Rattle.std.proofs.lemmas.Bool.{false≢true, ne_eqb}
use Rattle.std.proofs.lemmas.Map.Made.{lookup-map_values}
use borrow.Author.Tests.{eqb-true}
use Rattle.pl_model.specs.FirstArguments.{are_apart}
use Rattle.gen_core.specs.NumberMaps.{ByNumber}
use Rattle.gen_core.specs.NumberMaps as numbers
use Rattle.gen_core.specs.declared.dated_clause.DatedClause.{DatedClause}
use Rattle.gen_core.specs.declared.clause_index.Entry.{Entry}
use Rattle.gen_core.specs.declared.clause_index.ClauseIndex.{ClauseIndex}
use Rattle.gen_core.specs.Index.{is_listed}
use Rattle.gen_core.specs.Numbers.{IsNumbered}
use Rattle.gen_core.specs.Visible.{first_choice, is_choice, is_visible}
use Rattle.gen_core.specs.ClauseIndex.{IsSound, clauses_of, holds, dated_at, marked, marked_all}
use Rattle.gen_core.specs.Runs.{OthersStay}
use Rattle.gen_core.specs.Shared.{AreShared, ClausesStay, SharesWith, is_under}
use Rattle.gen_core.proofs.AllErased.{clause-all}
use Rattle.gen_core.proofs.Entries.{ge-ltb}
use Rattle.gen_core.proofs.Listed.{hit_is}
use Rattle.gen_core.proofs.Searches.{found_under, holds-both}

-- ---- tests

left_false : (x y : Bool) → (not x && y) ≡ true → x ≡ false
left_false true y h = absurd (false≢true h)
left_false false y h = refl

right_true : (x y : Bool) → (x && y) ≡ true → y ≡ true
right_true true y h = h
right_true false y h = absurd (false≢true h)

left_true : (x y : Bool) → (x && y) ≡ true → x ≡ true
left_true true y h = refl
left_true false y h = absurd (false≢true h)

and-false : (b : Bool) → (b && false) ≡ false
and-false true = refl
and-false false = refl

both_true : (x y : Bool) → x ≡ true → y ≡ true → (x && y) ≡ true
both_true x y h k = ap (λ b. b && y) h ∙ k

-- ---- what changes of the clauses leave

module _ {C K : Type 0} (old new : ByNumber (Entry C K)) where
  -- What the entry of a number passes by its clause.
  abbrev passes : (C → Bool) → Option (Entry C K) → Bool
  passes t o = option_map_or (λ (d : DatedClause C). t d.clause) (option_map (λ (x : Entry C K). x.dated) o) false

  -- A clause is erased.
  pub kept_marked : (number place : ℕ)
      → ((q : ℕ) → numbers.get new q ≡ cond (q == number) (option_map (marked place) (numbers.get old number)) (numbers.get old q))
      → ClausesStay old new
  kept_marked number place gets t q h = go (q == number) refl
    where
      same : (o : Option (Entry C K)) → passes t (option_map (marked place) o) ≡ passes t o
      same None = refl
      same (Some x) = refl

      now : (b : Bool) → (q == number) ≡ b → passes t (cond b (option_map (marked place) (numbers.get old number)) (numbers.get old q)) ≡ true
      now b e = sym (ap (passes t) (gets q ∙ ap (λ x. cond x (option_map (marked place) (numbers.get old number)) (numbers.get old q)) e)) ∙ h

      go : (b : Bool) → (q == number) ≡ b → holds old (λ d. t d.clause) q ≡ true
      go true e = ap (λ p. holds old (λ d. t d.clause) p) (eqb-true q number e) ∙ sym (same (numbers.get old number)) ∙ now true e
      go false e = now false e

  -- A clause is taken out.
  pub kept_out : (number : ℕ) → ((q : ℕ) → numbers.get new q ≡ cond (is_eq (nat_cmp number q)) None (numbers.get old q)) → ClausesStay old new
  kept_out number gets t q h = go (is_eq (nat_cmp number q)) refl
    where
      now : (b : Bool) → is_eq (nat_cmp number q) ≡ b → passes t (cond b None (numbers.get old q)) ≡ true
      now b e = sym (ap (passes t) (gets q ∙ ap (λ x. cond x None (numbers.get old q)) e)) ∙ h

      go : (b : Bool) → is_eq (nat_cmp number q) ≡ b → holds old (λ d. t d.clause) q ≡ true
      go true e = absurd (false≢true (now true e))
      go false e = now false e

  -- All clauses are erased.
  pub kept_all : (place : ℕ) → new.entries ≡ map (λ e. (e.0, marked_all place e.1)) old.entries → ClausesStay old new
  kept_all place entries t q h = sym (same (numbers.get old q)) ∙ sym (ap (passes t) gets) ∙ h
    where
      gets : numbers.get new q ≡ option_map (marked_all place) (numbers.get old q)
      gets = ap (lookup (is_at (nat_cmp q))) entries ∙ lookup-map_values (marked_all place) (is_at (nat_cmp q)) old.entries

      same : (o : Option (Entry C K)) → passes t (option_map (marked_all place) o) ≡ passes t o
      same None = refl
      same (Some x) = ap t (clause-all place x.dated)

  -- The same clauses.
  pub kept_same : new.entries ≡ old.entries → ClausesStay old new
  kept_same e t q h = sym (ap (λ es. passes t (lookup (is_at (nat_cmp q)) es)) e) ∙ h

  -- The same, where an update answers so, and else leaves the clauses.
  pub kept_by : {T E : Type 0} (r : Result T E) → OnOk r (ClausesStay old new) → OnErr r (new.entries ≡ old.entries) → ClausesStay old new
  kept_by (Ok x) stay same = stay
  kept_by (Err e) stay same = kept_same same

-- ---- what is noted

-- One number more is noted.
pub noted_more : (old new : BTreeSet ℕ) (k : ℕ) → ((q : ℕ) → set.contains nat_cmp new q ≡ cond (is_eq (nat_cmp k q)) true (set.contains nat_cmp old q)) → (n : ℕ) → set.contains nat_cmp old n ≡ true → set.contains nat_cmp new n ≡ true
noted_more old new k h n e = h n ∙ go (is_eq (nat_cmp k n))
  where
    go : (b : Bool) → cond b true (set.contains nat_cmp old n) ≡ true
    go true = refl
    go false = e

module _ {C K : Type 0} (order : K → K → Ordering) (any : K → Bool) (key_of : C → K) where
  -- Where there are no clauses nothing has to be noted.
  pub shared_empty : (m : ByNumber (Entry C K)) (shared : BTreeSet ℕ) → clauses_of m ≡ [] → AreShared order any key_of shared m
  shared_empty m shared none k n q a b e = absurd (false≢true (sym (nothing m.entries none) ∙ a))
    where
      nothing : (es : List (ℕ × Entry C K)) → map (λ (e : ℕ × Entry C K). e.1.dated) es ≡ [] → option_map_or (is_under order any key_of k) (option_map (λ (x : Entry C K). x.dated) (lookup (is_at (nat_cmp n)) es)) false ≡ false
      nothing [] h = refl
      nothing (x ∷ es) h = absurd (cc)

  -- What is noted of clauses is so of what is left of them.
  pub shared_stay : (old new : ByNumber (Entry C K)) (shared : BTreeSet ℕ) → AreShared order any key_of shared old → ClausesStay old new → AreShared order any key_of shared new
  shared_stay old new shared are stay k n q a b e =
      are k n q (stay (λ c. not (any (key_of c)) && is_eq (order k (key_of c))) n a) (stay (λ c. not (any (key_of c)) && is_eq (order k (key_of c))) q b) e

  -- More may be noted.
  pub shared_grown : (m : ByNumber (Entry C K)) (shared more : BTreeSet ℕ) → AreShared order any key_of shared m
      → ((n : ℕ) → set.contains nat_cmp shared n ≡ true → set.contains nat_cmp more n ≡ true) → AreShared order any key_of more m
  shared_grown m shared more are grows k n q a b e = grows n (are k n q a b e)

  -- A clause is put on a number, and what it shares its key with is noted.
  pub shared_added : (old new : ByNumber (Entry C K)) (shared : BTreeSet ℕ) (number : ℕ) (x : DatedClause C) → AreShared order any key_of shared old
      → SharesWith order any key_of shared old (key_of x.clause) number → OthersStay old new number → dated_at new number ≡ Some x → AreShared order any key_of shared new
  shared_added old new shared number x are shares others at k n q a b e = go (n == number) (q == number) refl refl
    where
      here : (p : ℕ) → (p == number) ≡ true → holds new (is_under order any key_of k) p ≡ true → is_under order any key_of k x ≡ true
      here p i h = sym (ap (λ o. option_map_or (is_under order any key_of k) o false) (ap (dated_at new) (eqb-true p number i) ∙ at)) ∙ h

      there : (p : ℕ) → (p == number) ≡ false → holds new (is_under order any key_of k) p ≡ true → holds old (is_under order any key_of k) p ≡ true
      there p i h = sym (ap (λ o. option_map_or (is_under order any key_of k) o false) (others p i)) ∙ h

      noted : (p : ℕ) → is_under order any key_of k x ≡ true → holds old (is_under order any key_of k) p ≡ true → (set.contains nat_cmp shared p ≡ true) × (set.contains nat_cmp shared number ≡ true)
      noted p u h = shares (left_false (any (key_of x.clause)) (is_eq (order k (key_of x.clause))) u) k (right_true (not (any (key_of x.clause))) (is_eq (order k (key_of x.clause))) u) p h

      go : (v w : Bool) → (n == number) ≡ v → (q == number) ≡ w → set.contains nat_cmp shared n ≡ true
      go true true i j = absurd (false≢true (sym e ∙ eq-eqb n q (eqb-true n number i ∙ sym (eqb-true q number j))))
      go true false i j = subst (λ p. set.contains nat_cmp shared p ≡ true) (sym (eqb-true n number i)) (noted q (here n i a) (there q j b)).1
      go false true i j = (noted n (here q j b) (there n i a)).0
      go false false i j = are k n q (there n i a) (there q j b) e

  -- The same, after more was noted, and before what is noted stays.
  pub shared_put : (old new : ByNumber (Entry C K)) (was shared now : BTreeSet ℕ) (number : ℕ) (x : DatedClause C) → AreShared order any key_of was old
      → ((n : ℕ) → set.contains nat_cmp was n ≡ true → set.contains nat_cmp shared n ≡ true)
      → SharesWith order any key_of shared old (key_of x.clause) number → OthersStay old new number → dated_at new number ≡ Some x → now ≡ shared → AreShared order any key_of now new
  shared_put old new was shared now number x are grows shares others at same =
      subst (λ s. AreShared order any key_of s new) (sym same) (shared_added old new shared number x (shared_grown old was shared are grows) shares others at)

  -- More was noted, and the clauses are as they were.
  pub shared_back : (old new : ByNumber (Entry C K)) (was shared : BTreeSet ℕ) → AreShared order any key_of was old
      → ((n : ℕ) → set.contains nat_cmp was n ≡ true → set.contains nat_cmp shared n ≡ true) → new.entries ≡ old.entries → AreShared order any key_of shared new
  shared_back old new was shared are grows same = shared_stay old new shared (shared_grown old was shared are grows) (kept_same old new same)

  module _ (s : ClauseIndex C K) (sound : IsSound order any key_of s) where
    -- A clause that is listed under the goal's key and is not noted is the only one that is not excluded, where each clause has a key.
    pub lone_is : (shared : BTreeSet ℕ) → AreShared order any key_of shared s.clauses → (first : K) → any first ≡ false → ((q : ℕ) → set.contains nat_cmp s.any q ≡ false)
        → (number : ℕ) (x : Entry C K) → numbers.get s.clauses number ≡ Some x → (not (any x.key) && is_eq (order first x.key)) ≡ true
        → set.contains nat_cmp shared number ≡ false
        → (q : ℕ) → holds s.clauses (λ d. not (are_apart order any first (key_of d.clause))) q ≡ (q == number)
    lone_is shared are first keyed none number x at same alone q =
        sym (found_under order any key_of s.clauses first q (holds s.clauses (is_under order any key_of first) q) false keyed refl (sym (none q) ∙ sound.listed_any q))
        ∙ left_alone (holds s.clauses (is_under order any key_of first) q) ∙ go (q == number) refl
      where
        left_alone : (b : Bool) → (b || false) ≡ b
        left_alone true = refl
        left_alone false = refl

        key : x.key ≡ key_of x.dated.clause
        key = (subst (λ o. IfSome o (λ e. IsNumbered number e.dated.place × (e.key ≡ key_of e.dated.clause))) at (sound.numbered number)).1

        here : holds s.clauses (is_under order any key_of first) number ≡ true
        here = ap (λ o. option_map_or (is_under order any key_of first) (option_map (λ (e : Entry C K). e.dated) o) false) at ∙ ap (λ k. not (any k) && is_eq (order first k)) (sym key) ∙ same

        other : (q == number) ≡ false → (b : Bool) → holds s.clauses (is_under order any key_of first) q ≡ b → b ≡ false
        other e true k = absurd (false≢true (sym alone ∙ are first number q here k (nat_eq_equiv.symm number q ∙ e)))
        other e false k = refl

        go : (b : Bool) → (q == number) ≡ b → holds s.clauses (is_under order any key_of first) q ≡ (q == number)
        go true e = ap (holds s.clauses (is_under order any key_of first)) (eqb-true q number e) ∙ here ∙ sym e
        go false e = other e (holds s.clauses (is_under order any key_of first) q) refl ∙ sym e

    -- Such a clause is what a call finds whose generation sees it.
    pub lone_choice : (g : ℕ) (first : K) (number : ℕ) (d : DatedClause C)
        → ((q : ℕ) → holds s.clauses (λ d. not (are_apart order any first (key_of d.clause))) q ≡ (q == number)) → dated_at s.clauses number ≡ Some d → is_visible g d ≡ true
        → Some (d.place, d.clause, false) ≡ first_choice (filter (is_choice order any key_of g first) (clauses_of s.clauses))
    lone_choice g first number d lone at seen =
        ap (option_map (λ (d : DatedClause C). (d.place, d.clause, false))) (sym at)
        ∙ hit_is order any key_of s sound (is_choice order any key_of g first) 0 number None false refl (omega arith, chosen, λ q l m. past q (below q m)) (λ q l. past q (above q l))
        ∙ ap (λ ds. first_choice (filter (is_choice order any key_of g first) ds)) (whole s.clauses.entries)
      where
        chosen : holds s.clauses (is_choice order any key_of g first) number ≡ true
        chosen =
            holds-both s.clauses (is_visible g) (λ d. not (are_apart order any first (key_of d.clause))) number
            ∙ ap₂ ◌&&◌ (ap (λ o. option_map_or (is_visible g) o false) at ∙ seen) (lone number ∙ eq-eqb number number refl)

        past : (q : ℕ) → (q == number) ≡ false → holds s.clauses (is_choice order any key_of g first) q ≡ false
        past q e =
            holds-both s.clauses (is_visible g) (λ d. not (are_apart order any first (key_of d.clause))) q
            ∙ ap (λ b. holds s.clauses (is_visible g) q && b) (lone q ∙ e) ∙ and-false (holds s.clauses (is_visible g) q)

        below : (q : ℕ) → q < number → (q == number) ≡ false
        below q l = ne_eqb q number (λ e. omega arith)

        above : (q : ℕ) → number + 1 ≤ q → (q == number) ≡ false
        above q l = ne_eqb q number (λ e. omega arith)

        whole : (es : List (ℕ × Entry C K)) → map (λ (e : ℕ × Entry C K). e.1.dated) (filter (λ e. not (nat_lt e.0 0)) es) ≡ map (λ (e : ℕ × Entry C K). e.1.dated) es
        whole [] = refl
        whole (e ∷ es) =
            ap (λ b. map (λ (e : ℕ × Entry C K). e.1.dated) (cond (not b) (e ∷ filter (λ e. not (nat_lt e.0 0)) es) (filter (λ e. not (nat_lt e.0 0)) es))) (ge-ltb e.0 0 (omega arith))
            ∙ ap (λ ds. e.1.dated ∷ ds) (whole es)

    -- What is listed under a key is so under one that is equal to it.
    moved : IsTotalOrder order → (key k : K) → is_eq (order k key) ≡ true → (q : ℕ) → holds s.clauses (is_under order any key_of k) q ≡ true → holds s.clauses (is_under order any key_of key) q ≡ true
    moved total key k same q h = go (dated_at s.clauses q) h
      where
        go : (o : Option (DatedClause C)) → option_map_or (is_under order any key_of k) o false ≡ true → option_map_or (is_under order any key_of key) o false ≡ true
        go None l = absurd (false≢true l)
        go (Some d) l =
            both_true (not (any (key_of d.clause))) (is_eq (order key (key_of d.clause)))
            (left_true (not (any (key_of d.clause))) (is_eq (order k (key_of d.clause))) l)
            (sym ((eq_by_cmp_equiv total).congr k key (key_of d.clause) same) ∙ right_true (not (any (key_of d.clause))) (is_eq (order k (key_of d.clause))) l)

    -- No clause is listed under the key.
    pub shares_none : (shared : BTreeSet ℕ) (key : K) (number : ℕ) → IsTotalOrder order → ((q : ℕ) → is_listed order s.index.by_key key q ≡ false) → SharesWith order any key_of shared s.clauses key number
    shares_none shared key number total none keyed k same q h = absurd (false≢true (sym (none q) ∙ sound.listed key q ∙ moved total key k same q h))

    -- One of those under the key is noted, and the number.
    pub shares_one : (old shared : BTreeSet ℕ) (key : K) (number one : ℕ) → IsTotalOrder order → AreShared order any key_of old s.clauses
        → ((n : ℕ) → set.contains nat_cmp old n ≡ true → set.contains nat_cmp shared n ≡ true)
        → is_listed order s.index.by_key key one ≡ true → set.contains nat_cmp shared one ≡ true → set.contains nat_cmp shared number ≡ true
        → SharesWith order any key_of shared s.clauses key number
    shares_one old shared key number one total are grows listed first second keyed k same q h = (go (q == one) refl, second)
      where
        go : (b : Bool) → (q == one) ≡ b → set.contains nat_cmp shared q ≡ true
        go true e = ap (set.contains nat_cmp shared) (eqb-true q one e) ∙ first
        go false e = grows q (are key q one (moved total key k same q h) (sym (sound.listed key one) ∙ listed) e)
