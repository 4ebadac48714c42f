-- A clause of an index is erased, or taken out.
use Rattle.std.proofs.Common.{◌≡◌, ℕ, ◌+◌, ◌<◌, ◌≤◌, Bool, true, false, cond, not, ◌&&◌, ◌==◌, List, [], ◌∷◌, Option, Some, None, IsSome, length, refl, sym, ap, ap₂, ◌∙◌, subst, arith, eq-eqb, inl, inr}
use Rattle.std.specs.Prelude.{sum_by, nat_lt}
use Rattle.std.specs.List.{list_any}
use Rattle.std.specs.Option.{IfSome, option_map, option_map_or, unwrap_or, is_some}
use Rattle.std.specs.Ordering.{is_eq, is_gt, nat_cmp, ordering_then}
use Rattle.std.specs.Cmp.{nat_cmp_is, unsigned_tied}
use Rattle.std.specs.declared.cmp.Ordering.{Ordering}
use Rattle.std.specs.declared.cmp.Ordering.TheVariants.{Less, Equal, Greater}
use Rattle.std.specs.Map.{remove_entry, set_value, values_of}
use Rattle.std.specs.BTreeSet as set
use Rattle.std.specs.BTreeMap.{is_at}
use Rattle.std.specs.BTreeSet.{BTreeSet}
use Rattle.std.proofs.lemmas.Bool.{false≢true, cases_lt}
use Rattle.std.proofs.lemmas.Map.Entries.{sum_by-remove_entry, sum_by-set_value}
use borrow.Author.Tests.{eqb-true, lt-ltb}
use Rattle.gen_core.specs.NumberMaps.{ByNumber}
use Rattle.gen_core.specs.NumberMaps as numbers
use Rattle.gen_core.specs.declared.dated_clause.DatedClause.{DatedClause}
use Rattle.gen_core.specs.declared.clause_index.Entry.{Entry}
use Rattle.gen_core.specs.declared.clause_index.ClauseIndex.{ClauseIndex}
use Rattle.gen_core.specs.Index.{is_listed}
use Rattle.gen_core.specs.Visible.{is_droppable, counted, is_live}
use Rattle.gen_core.specs.Numbers.{IsNumbered, first_number, last_number}
use Rattle.gen_core.specs.ClauseIndex.{IsSound, Unlists, holds, dated_at, pair_order, marked, is_erased_at, MarksAt, ErasesAt}
use Rattle.gen_core.proofs.Additions.{is_at-number}
use Rattle.gen_core.proofs.Searches.{holds-both}

-- ---- the set of erasures

pub nothing_listed : (s : BTreeSet (ℕ × ℕ)) (p : ℕ × ℕ) → (0 < set.btree_set_len s → ⊥) → set.contains pair_order s p ≡ false
nothing_listed s p h = go s.keys h
  where
    go : (ks : List (ℕ × ℕ)) → (0 < length ks → ⊥) → list_any (is_at (pair_order p)) ks ≡ false
    go [] n = refl
    go (k ∷ ks) n = absurd (n (omega arith))

pub first_from_pairs : (a b c d : ℕ) → is_gt (pair_order (a, b) (c, d)) ≡ false → a ≤ c
first_from_pairs a b c d h = elim (cases_lt c a) [
  | inl l ↦ absurd (false≢true (sym h ∙ ap (λ r. is_gt (ordering_then r (nat_cmp b d))) (sym (nat_cmp_is a c Greater l))))
  | inr l ↦ l
]

then_both : (r s : Ordering) → is_eq (ordering_then r s) ≡ (is_eq r && is_eq s)
then_both Less s = refl
then_both Equal s = refl
then_both Greater s = refl

-- The test of a pair by the order of pairs.
pub is_at-pair : (a b k q : ℕ) → is_eq (pair_order (a, b) (k, q)) ≡ ((a == k) && (q == b))
is_at-pair a b k q = then_both (nat_cmp a k) (nat_cmp b q) ∙ ap₂ ◌&&◌ (unsigned_tied a k) (is_at-number b q)

-- ---- the clause that was erased first

-- A clause that no erasure below the floor lists is not droppable.
pub not_droppable : {C K : Type 0} (m : ByNumber (Entry C K)) (floor q : ℕ)
    → ((k : ℕ) → holds m (is_erased_at k) q ≡ true → floor ≤ k)
    → holds m (is_droppable floor) q ≡ false
not_droppable {C} m floor q h = go (dated_at m q) h
  where
    at : (e : Option ℕ) → ((k : ℕ) → option_map_or (λ j. j == k) e false ≡ true → floor ≤ k) → option_map_or (λ k. nat_lt k floor) e false ≡ false
    at None n = refl
    at (Some j) n = elim (cases_lt j floor) [
      | inl l ↦ absurd (let g : floor ≤ j = n j (eq-eqb j j refl) in omega arith)
      | inr l ↦ le-ltb j l
    ]
      where
        le-ltb : (j : ℕ) → floor ≤ j → nat_lt j floor ≡ false
        le-ltb j l = grind arith

    go : (o : Option (DatedClause C)) → ((k : ℕ) → option_map_or (is_erased_at k) o false ≡ true → floor ≤ k)
        → option_map_or (is_droppable floor) o false ≡ false
    go None n = refl
    go (Some d) n = at d.erased n

erased_is : (e : Option ℕ) (k : ℕ) → option_map_or (λ j. j == k) e false ≡ true → e ≡ Some k
erased_is None k h = absurd (false≢true h)
erased_is (Some j) k h = ap Some (eqb-true j k h)

-- The place of the erasure of the clause on a number.
pub erased_at : {C K : Type 0} (m : ByNumber (Entry C K)) (k q : ℕ) (e : Entry C K) → numbers.get m q ≡ Some e
    → holds m (is_erased_at k) q ≡ true → e.dated.erased ≡ Some k
erased_at m k q e at h =
    erased_is e.dated.erased k (ap (λ o. option_map_or (is_erased_at k) (option_map (λ x. x.dated) o) false) (sym at) ∙ h)

pub droppable_below : {C : Type 0} (d : DatedClause C) (k floor : ℕ) → d.erased ≡ Some k → k < floor → is_droppable floor d ≡ true
droppable_below d k floor e l = ap (λ o. option_map_or (λ j. nat_lt j floor) o false) e ∙ lt-ltb k floor l

-- A clause on a number that is not erased.
pub live_entry : {C K : Type 0} (m : ByNumber (Entry C K)) (q : ℕ) → holds m is_live q ≡ true → (e : Entry C K) × (numbers.get m q ≡ Some e) × (is_live e.dated ≡ true)
live_entry {C} {K} m q h = go (numbers.get m q) refl h
  where
    go : (o : Option (Entry C K)) → numbers.get m q ≡ o → option_map_or is_live (option_map (λ e. e.dated) o) false ≡ true → (e : Entry C K) × (numbers.get m q ≡ Some e) × (is_live e.dated ≡ true)
    go None at n = absurd (false≢true n)
    go (Some e) at n = (e, at, n)

live_none : (e : Option ℕ) → not (is_some e) ≡ true → e ≡ None
live_none None h = refl
live_none (Some k) h = absurd (false≢true h)

live_erased : (e : Option ℕ) (k : ℕ) → not (is_some e) ≡ true → option_map_or (λ j. j == k) e false ≡ false
live_erased None k h = refl
live_erased (Some j) k h = absurd (false≢true h)

-- A clause that is not erased is erased at no place.
pub live_unlisted : {C K : Type 0} (m : ByNumber (Entry C K)) (k q : ℕ) → holds m is_live q ≡ true → holds m (is_erased_at k) q ≡ false
live_unlisted {C} m k q h = go (dated_at m q) h
  where
    go : (o : Option (DatedClause C)) → option_map_or is_live o false ≡ true → option_map_or (is_erased_at k) o false ≡ false
    go None n = refl
    go (Some d) n = live_erased d.erased k n

module _ {C K : Type 0} (order : K → K → Ordering) (any : K → Bool) (key_of : C → K) (old : ClauseIndex C K) (sound : IsSound order any key_of old) (number place : ℕ) (entry : Entry C K)
    (was : numbers.get old.clauses number ≡ Some entry)
  where
    -- What the clause on the number passes.
    holds-here : (t : DatedClause C → Bool) → holds old.clauses t number ≡ t entry.dated
    holds-here t = ap (λ o. option_map_or t (option_map (λ e. e.dated) o) false) was

    module _ (new : ClauseIndex C K)
        (ordered : numbers.IsOrdered new.clauses)
        (gets : (q : ℕ) → numbers.get new.clauses q ≡ cond (is_eq (nat_cmp number q)) None (numbers.get old.clauses q))
        (entries : new.clauses.entries ≡ remove_entry (is_at (nat_cmp number)) old.clauses.entries)
        (lists : Unlists order any entry.key number old new)
        (at : entry.dated.erased ≡ Some place)
        (erased : (k q : ℕ) → set.contains pair_order new.erased (k, q) ≡ cond (is_eq (pair_order (place, number) (k, q))) false (set.contains pair_order old.erased (k, q)))
        (fewer : set.btree_set_len new.erased + 1 ≡ set.btree_set_len old.erased)
      where
        get-out : (q : ℕ) → numbers.get new.clauses q ≡ cond (q == number) None (numbers.get old.clauses q)
        get-out q = gets q ∙ ap (λ b. cond b None (numbers.get old.clauses q)) (is_at-number number q)

        out : (t : DatedClause C → Bool) (q : ℕ) (b : Bool) → (q == number) ≡ b → holds new.clauses t q ≡ (not b && holds old.clauses t q)
        out t q true h = ap (λ o. option_map_or t (option_map (λ e. e.dated) o) false) (get-out q ∙ ap (λ b. cond b None (numbers.get old.clauses q)) h)
        out t q false h = ap (λ o. option_map_or t (option_map (λ e. e.dated) o) false) (get-out q ∙ ap (λ b. cond b None (numbers.get old.clauses q)) h)

        by_out : (t : DatedClause C → Bool) (q : ℕ) (b : Bool) → (q == number) ≡ b → (a : Bool) → a ≡ (not (t entry.dated && b) && holds old.clauses t q) → a ≡ holds new.clauses t q
        by_out t q true h a e =
            let here : holds old.clauses t q ≡ t entry.dated = ap (λ p. holds old.clauses t p) (eqb-true q number h) ∙ holds-here t in
            e ∙ ap (λ x. not (t entry.dated && true) && x) here ∙ never (t entry.dated) ∙ sym (out t q true h)
          where
            never : (x : Bool) → (not (x && true) && x) ≡ false
            never true = refl
            never false = refl
        by_out t q false h a e = e ∙ keeps (t entry.dated) (holds old.clauses t q) ∙ sym (out t q false h)
          where
            keeps : (x y : Bool) → (not (x && false) && y) ≡ y
            keeps true y = refl
            keeps false y = refl

        keyed : entry.key ≡ key_of entry.dated.clause
        keyed = let p : IfSome (Some entry) (λ e. IsNumbered number e.dated.place × (e.key ≡ key_of e.dated.clause)) = subst (λ o. IfSome o (λ e. IsNumbered number e.dated.place × (e.key ≡ key_of e.dated.clause))) was (sound.numbered number) in p.1

        numbered-out : (q : ℕ) (b : Bool) → (q == number) ≡ b → IfSome (numbers.get new.clauses q) (λ e. IsNumbered q e.dated.place × (e.key ≡ key_of e.dated.clause))
        numbered-out q true h = subst (λ o. IfSome o (λ e. IsNumbered q e.dated.place × (e.key ≡ key_of e.dated.clause))) (sym (get-out q ∙ ap (λ b. cond b None (numbers.get old.clauses q)) h)) tt
        numbered-out q false h = subst (λ o. IfSome o (λ e. IsNumbered q e.dated.place × (e.key ≡ key_of e.dated.clause))) (sym (get-out q ∙ ap (λ b. cond b None (numbers.get old.clauses q)) h)) (sound.numbered q)

        once-at : (p : ℕ) (b c : Bool) → (first_number p == number) ≡ b → (last_number p == number) ≡ c → p < 562949953421312 → IsSome (numbers.get new.clauses (first_number p)) → numbers.get new.clauses (last_number p) ≡ None
        once-at p b true h k l some = get-out (last_number p) ∙ ap (λ b. cond b None (numbers.get old.clauses (last_number p))) k
        once-at p true false h k l some = absurd (false≢true (subst IsSome (get-out (first_number p) ∙ ap (λ b. cond b None (numbers.get old.clauses (first_number p))) h) some))
        once-at p false false h k l some =
            get-out (last_number p) ∙ ap (λ b. cond b None (numbers.get old.clauses (last_number p))) k
            ∙ sound.once p l (subst IsSome (get-out (first_number p) ∙ ap (λ b. cond b None (numbers.get old.clauses (first_number p))) h) some)

        erased-out : (k q : ℕ) → set.contains pair_order new.erased (k, q) ≡ holds new.clauses (is_erased_at k) q
        erased-out k q =
            by_out (is_erased_at k) q (q == number) refl (set.contains pair_order new.erased (k, q))
            (erased k q ∙ ap₂ (λ x y. cond x false y) (is_at-pair place number k q) (sound.listed_erased k q)
            ∙ outer (place == k) (q == number) (holds old.clauses (is_erased_at k) q)
            ∙ ap (λ e. not (option_map_or (λ j. j == k) e false && (q == number)) && holds old.clauses (is_erased_at k) q) (sym at))
          where
            outer : (x y z : Bool) → cond (x && y) false z ≡ (not (x && y) && z)
            outer true true z = refl
            outer true false z = refl
            outer false y z = refl

        gone-out : set.btree_set_len new.erased ≡ sum_by (λ e. counted e.dated) (numbers.values new.clauses)
        gone-out =
            let l = sum_by-remove_entry (λ (e : Entry C K). counted e.dated) (is_at (nat_cmp number)) old.clauses.entries in
            let a : unwrap_or (option_map (λ (e : Entry C K). counted e.dated) (numbers.get old.clauses number)) 0 ≡ 1 =
            ap (λ o. unwrap_or (option_map (λ (e : Entry C K). counted e.dated) o) 0) was ∙ ap (λ o. cond (is_some o) 1 0) at in
            let b : sum_by (λ e. counted e.dated) (numbers.values new.clauses) ≡ sum_by (λ e. counted e.dated) (values_of (remove_entry (is_at (nat_cmp number)) old.clauses.entries)) =
            ap (λ es. sum_by (λ (e : Entry C K). counted e.dated) (values_of es)) entries in
            let s = sound.gone_is in
            omega (arith, l, a, b, s, fewer)

        pub sound_dropped : IsSound order any key_of new
        sound_dropped = record {
          ordered = ordered;
          numbered = λ q. numbered-out q (q == number) refl;
          once = λ p. once-at p (first_number p == number) (last_number p == number) refl refl;
          listed = λ k q. by_out (λ d. not (any (key_of d.clause)) && is_eq (order k (key_of d.clause))) q (q == number) refl (is_listed order new.index.by_key k q)
              (lists.by_key k q ∙ ap₂ (λ x l. not ((not (any x) && is_eq (order k x)) && (q == number)) && l) keyed (sound.listed k q));
          listed_any = λ q. by_out (λ d. any (key_of d.clause)) q (q == number) refl (set.contains nat_cmp new.any q)
              (lists.by_any q ∙ ap₂ (λ x l. not (any x && (q == number)) && l) keyed (sound.listed_any q));
          listed_erased = erased-out;
          gone_is = gone-out;
        }

    module _ (new : ClauseIndex C K)
        (live : is_live entry.dated ≡ true)
        (ordered : numbers.IsOrdered new.clauses)
        (gets : (q : ℕ) → numbers.get new.clauses q ≡ cond (q == number) (option_map (marked place) (numbers.get old.clauses number)) (numbers.get old.clauses q))
        (entries : new.clauses.entries ≡ set_value (is_at (nat_cmp number)) old.clauses.entries (marked place entry))
        (by_key : new.index ≡ old.index)
        (by_any : new.any ≡ old.any)
        (erased : (k q : ℕ) → set.contains pair_order new.erased (k, q) ≡ cond (is_eq (pair_order (place, number) (k, q))) true (set.contains pair_order old.erased (k, q)))
        (more : set.btree_set_len new.erased ≡ set.btree_set_len old.erased + 1)
      where
        get-marked : (q : ℕ) (b : Bool) → (q == number) ≡ b → numbers.get new.clauses q ≡ cond b (Some (marked place entry)) (numbers.get old.clauses q)
        get-marked q b h = gets q ∙ ap₂ (λ x o. cond x (option_map (marked place) o) (numbers.get old.clauses q)) h was

        -- A test that does not read the erasure answers as before.
        as_before : (t : DatedClause C → Bool) → t (marked place entry).dated ≡ t entry.dated → (q : ℕ) (b : Bool) → (q == number) ≡ b → holds old.clauses t q ≡ holds new.clauses t q
        as_before t e q true h =
            ap (λ p. holds old.clauses t p) (eqb-true q number h) ∙ holds-here t ∙ sym e
            ∙ sym (ap (λ o. option_map_or t (option_map (λ x. x.dated) o) false) (get-marked q true h))
        as_before t e q false h = sym (ap (λ o. option_map_or t (option_map (λ x. x.dated) o) false) (get-marked q false h))

        numbered-marked : (q : ℕ) (b : Bool) → (q == number) ≡ b → IfSome (numbers.get new.clauses q) (λ e. IsNumbered q e.dated.place × (e.key ≡ key_of e.dated.clause))
        numbered-marked q true h =
            let p : IfSome (Some entry) (λ e. IsNumbered number e.dated.place × (e.key ≡ key_of e.dated.clause)) = subst (λ o. IfSome o (λ e. IsNumbered number e.dated.place × (e.key ≡ key_of e.dated.clause))) was (sound.numbered number) in
            subst (λ o. IfSome o (λ e. IsNumbered q e.dated.place × (e.key ≡ key_of e.dated.clause))) (sym (get-marked q true h)) (subst (λ n. IsNumbered n entry.dated.place) (sym (eqb-true q number h)) p.0, p.1)
        numbered-marked q false h = subst (λ o. IfSome o (λ e. IsNumbered q e.dated.place × (e.key ≡ key_of e.dated.clause))) (sym (get-marked q false h)) (sound.numbered q)

        some-marked : (q : ℕ) (b : Bool) → (q == number) ≡ b → IsSome (numbers.get new.clauses q) → IsSome (numbers.get old.clauses q)
        some-marked q true h some = subst (λ n. IsSome (numbers.get old.clauses n)) (sym (eqb-true q number h)) (subst IsSome (sym was) refl)
        some-marked q false h some = subst IsSome (get-marked q false h) some

        none-marked : (q : ℕ) (b : Bool) → (q == number) ≡ b → numbers.get old.clauses q ≡ None → numbers.get new.clauses q ≡ None
        none-marked q true h none =
            let e : Some entry ≡ None = sym was ∙ ap (numbers.get old.clauses) (sym (eqb-true q number h)) ∙ none in absurd (cc e)
        none-marked q false h none = get-marked q false h ∙ none

        erased-marked : (k q : ℕ) (b : Bool) → (q == number) ≡ b → set.contains pair_order new.erased (k, q) ≡ holds new.clauses (is_erased_at k) q
        erased-marked k q true h =
            let none : entry.dated.erased ≡ None = live_none entry.dated.erased live in
            let was_not : set.contains pair_order old.erased (k, q) ≡ false =
            sound.listed_erased k q ∙ ap (λ p. holds old.clauses (is_erased_at k) p) (eqb-true q number h)
            ∙ holds-here (is_erased_at k) ∙ ap (λ e. option_map_or (λ j. j == k) e false) none in
            erased k q ∙ ap₂ (λ x y. cond x true y) (is_at-pair place number k q ∙ ap (λ b. (place == k) && b) h) was_not ∙ same (place == k)
            ∙ sym (ap (λ o. option_map_or (is_erased_at k) (option_map (λ x. x.dated) o) false) (get-marked q true h))
          where
            same : (x : Bool) → cond (x && true) true false ≡ x
            same true = refl
            same false = refl
        erased-marked k q false h =
            erased k q ∙ ap₂ (λ x y. cond x true y) (is_at-pair place number k q ∙ ap (λ b. (place == k) && b) h) (sound.listed_erased k q) ∙ other (place == k) (holds old.clauses (is_erased_at k) q)
            ∙ sym (ap (λ o. option_map_or (is_erased_at k) (option_map (λ x. x.dated) o) false) (get-marked q false h))
          where
            other : (x y : Bool) → cond (x && false) true y ≡ y
            other true y = refl
            other false y = refl

        gone-marked : set.btree_set_len new.erased ≡ sum_by (λ e. counted e.dated) (numbers.values new.clauses)
        gone-marked =
            let none : entry.dated.erased ≡ None = live_none entry.dated.erased live in
            let l = sum_by-set_value (λ (e : Entry C K). counted e.dated) (is_at (nat_cmp number)) old.clauses.entries entry (marked place entry) was in
            let a : counted entry.dated ≡ 0 = ap (λ o. cond (is_some o) 1 0) none in
            let b : sum_by (λ e. counted e.dated) (numbers.values new.clauses) ≡ sum_by (λ e. counted e.dated) (values_of (set_value (is_at (nat_cmp number)) old.clauses.entries (marked place entry))) =
            ap (λ es. sum_by (λ (e : Entry C K). counted e.dated) (values_of es)) entries in
            let s = sound.gone_is in
            omega (arith, l, a, b, s, more)

        pub sound_erased : IsSound order any key_of new
        sound_erased = record {
          ordered = ordered;
          numbered = λ q. numbered-marked q (q == number) refl;
          once = λ p l some. none-marked (last_number p) (last_number p == number) refl (sound.once p l (some-marked (first_number p) (first_number p == number) refl some));
          listed = λ k q. ap (λ i. is_listed order i.by_key k q) by_key ∙ sound.listed k q ∙ as_before (λ d. not (any (key_of d.clause)) && is_eq (order k (key_of d.clause))) refl q (q == number) refl;
          listed_any = λ q. ap (λ s. set.contains nat_cmp s q) by_any ∙ sound.listed_any q ∙ as_before (λ d. any (key_of d.clause)) refl q (q == number) refl;
          listed_erased = λ k q. erased-marked k q (q == number) refl;
          gone_is = gone-marked;
        }

-- How many erasures are left.
pub length_out : (old mid new : BTreeSet (ℕ × ℕ)) (b : Bool) → set.btree_set_len mid + cond b 1 0 ≡ set.btree_set_len old → b ≡ true → new ≡ mid
    → set.btree_set_len new + 1 ≡ set.btree_set_len old
length_out old mid new b e h same = ap₂ (λ s x. set.btree_set_len s + cond x 1 0) same (sym h) ∙ e

-- The clause that was added at a place, erased on its number.
pub erases_marked : {C K : Type 0} (m new : ByNumber (Entry C K)) (clause place number : ℕ) → ((q : ℕ) → holds m (λ d. d.place == clause) q ≡ (q == number))
    → (b : Bool) → MarksAt m new number place b → ErasesAt m new clause place b
erases_marked m new clause place number only true e =
    record { number = number; entry = e.entry; was = e.was; live = e.live; only = only; entries = e.entries }
erases_marked m new clause place number only false e = record {
  none = λ q. holds-both m (λ d. d.place == clause) is_live q ∙ ap (λ b. b && holds m is_live q) (only q) ∙ go q (q == number) refl;
  same = e.same;
}
  where
    go : (q : ℕ) (b : Bool) → (q == number) ≡ b → (b && holds m is_live q) ≡ false
    go q true h = ap (λ p. holds m is_live p) (eqb-true q number h) ∙ e.none
    go q false h = refl
