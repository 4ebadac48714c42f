-- A clause more on an index.
use Rattle.std.proofs.Common.{◌≡◌, ℕ, ◌<◌, Bool, true, false, cond, not, ◌&&◌, ◌||◌, ◌==◌, List, [], ◌∷◌, Option, Some, None, IsSome, refl, sym, ap, ap₂, ◌∙◌, subst, arith, eq-eqb, inl, inr}
use Rattle.std.specs.Prelude.{sum_by}
use Rattle.std.specs.Option.{IfSome, option_map, option_map_or, unwrap_or}
use Rattle.std.specs.Ordering.{is_eq, nat_cmp, match_ordering}
use Rattle.std.specs.Cmp.{nat_cmp_total, unsigned_tied, nat_eq_equiv}
use Rattle.std.specs.declared.cmp.Ordering.{Ordering}
use Rattle.std.specs.declared.cmp.Ordering.TheVariants.{Less, Equal, Greater}
use Rattle.std.specs.Map.{lookup, remove_entry, values_of, keys_of}
use Rattle.std.specs.List.Sorted.{IsStrictlySortedBy}
use Rattle.std.specs.BTreeSet as set
use Rattle.std.specs.BTreeMap.{insert_entry, is_at}
use Rattle.std.proofs.lemmas.Bool.{ne_eqb, false≢true}
use Rattle.std.proofs.lemmas.Bool.Decides.{eqb_tells}
use Rattle.std.proofs.lemmas.Map.Entries.{sum_by-insert_entry}
use borrow.Author.Tests.{eqb-true}
use Rattle.gen_core.specs.NumberMaps.{ByNumber}
use Rattle.gen_core.specs.NumberMaps as numbers
use Rattle.gen_core.specs.declared.dated_clause.DatedClause.{DatedClause}
use Rattle.gen_core.specs.declared.clause_index.Entry.{Entry}
use Rattle.gen_core.specs.declared.clause_index.ClauseIndex.{ClauseIndex}
use Rattle.gen_core.specs.Index.{is_listed}
use Rattle.gen_core.specs.Numbers.{IsNumbered, first_number, last_number}
use Rattle.gen_core.specs.Visible.{fresh, counted}
use Rattle.gen_core.specs.ClauseIndex.{IsSound, Lists, ListsSame, holds, dated_at, pair_order, is_erased_at}

-- Taking out what was just put in.
removed_by : {K X : Type 0} (order : K → K → Ordering) → (k : K) → is_eq (order k k) ≡ true → (e : K × X) (es : List (K × X)) (v : X)
    → (lookup (is_at (order k)) es ≡ None → remove_entry (is_at (order k)) (insert_entry order es k v) ≡ es)
    → (r : Ordering) → order k e.0 ≡ r → cond (is_eq r) (Some e.1) (lookup (is_at (order k)) es) ≡ None
    → remove_entry (is_at (order k)) (match_ordering r ((k, v) ∷ e ∷ es) ((e.0, v) ∷ es) (e ∷ insert_entry order es k v)) ≡ e ∷ es
removed_by order k same e es v next Less at n = ap (λ b. cond b (e ∷ es) ((k, v) ∷ remove_entry (is_at (order k)) (e ∷ es))) same
removed_by order k same e es v next Equal at n = absurd (cc)
removed_by order k same e es v next Greater at n =
    ap (λ r. cond (is_eq r) (insert_entry order es k v) (e ∷ remove_entry (is_at (order k)) (insert_entry order es k v))) at
    ∙ ap (λ l. e ∷ l) (next n)

pub remove_entry-insert_entry : {K X : Type 0} (order : K → K → Ordering) → (k : K) → is_eq (order k k) ≡ true → (es : List (K × X)) (v : X)
    → lookup (is_at (order k)) es ≡ None → remove_entry (is_at (order k)) (insert_entry order es k v) ≡ es
remove_entry-insert_entry order k same [] v h = ap (λ b. cond b [] ((k, v) ∷ [])) same
remove_entry-insert_entry order k same (e ∷ es) v h =
    removed_by order k same e es v (remove_entry-insert_entry order k same es v) (order k e.0) refl h

-- The tests of a number by an order and by itself.
pub is_at-number : (number q : ℕ) → is_eq (nat_cmp number q) ≡ (q == number)
is_at-number number q = unsigned_tied number q ∙ nat_eq_equiv.symm number q

module _ {C K : Type 0} (order : K → K → Ordering) (any : K → Bool) (key_of : C → K) (old new : ClauseIndex C K) (number : ℕ) (place : ℕ) (clause : C) (key : K)
    (sound : IsSound order any key_of old)
    (numbered : IsNumbered number place)
    (free : (p : ℕ) → IsNumbered p place → dated_at old.clauses p ≡ None)
    (keyed : key ≡ key_of clause)
    (ordered : numbers.IsOrdered new.clauses)
    (entries : new.clauses.entries ≡ insert_entry nat_cmp old.clauses.entries number (record { dated = fresh place clause; key = key }))
    (gets : (q : ℕ) → numbers.get new.clauses q ≡ cond (is_eq (nat_cmp number q)) (Some (record { dated = fresh place clause; key = key })) (numbers.get old.clauses q))
    (lists : Lists order any key number old new)
    (erased : new.erased ≡ old.erased)
  where
    abbrev entry : Entry C K
    entry = record { dated = fresh place clause; key = key }

    none : (o : Option (Entry C K)) → option_map (λ e. e.dated) o ≡ None → o ≡ None
    none None e = refl
    none (Some x) e = absurd (cc)

    absent : (p : ℕ) → IsNumbered p place → numbers.get old.clauses p ≡ None
    absent p n = none (numbers.get old.clauses p) (free p n)

    get-new : (q : ℕ) → numbers.get new.clauses q ≡ cond (q == number) (Some entry) (numbers.get old.clauses q)
    get-new q = gets q ∙ ap (λ b. cond b (Some entry) (numbers.get old.clauses q)) (is_at-number number q)

    by_test : (t : DatedClause C → Bool) (q : ℕ) (b : Bool) → (q == number) ≡ b → (a : Bool) → a ≡ ((t (fresh place clause) && b) || holds old.clauses t q) → a ≡ holds new.clauses t q
    by_test t q true h a e =
        let at : q ≡ number = eqb-true q number h in
        let was : holds old.clauses t q ≡ false = ap (λ p. holds old.clauses t p) at ∙ ap (λ o. option_map_or t o false) (free number numbered) in
        let is : holds new.clauses t q ≡ t (fresh place clause) = ap (λ o. option_map_or t (option_map (λ e. e.dated) o) false) (get-new q ∙ ap (λ b. cond b (Some entry) (numbers.get old.clauses q)) h) in
        e ∙ ap (λ b. (t (fresh place clause) && true) || b) was ∙ both (t (fresh place clause)) ∙ sym is
      where
        both : (b : Bool) → ((b && true) || false) ≡ b
        both true = refl
        both false = refl
    by_test t q false h a e =
        let is : holds new.clauses t q ≡ holds old.clauses t q = ap (λ o. option_map_or t (option_map (λ e. e.dated) o) false) (get-new q ∙ ap (λ b. cond b (Some entry) (numbers.get old.clauses q)) h) in
        e ∙ neither (t (fresh place clause)) (holds old.clauses t q) ∙ sym is
      where
        neither : (b c : Bool) → ((b && false) || c) ≡ c
        neither true c = refl
        neither false c = refl

    numbered-new : (q : ℕ) (b : Bool) → (q == number) ≡ b → IfSome (numbers.get new.clauses q) (λ e. IsNumbered q e.dated.place × (e.key ≡ key_of e.dated.clause))
    numbered-new q true h =
        let at : q ≡ number = eqb-true q number h in
        rw (get-new q, h) (subst (λ p. IsNumbered p place) (sym at) numbered, keyed)
    numbered-new q false h = rw (get-new q, h) (sound.numbered q)

    other_first : (p : ℕ) → p < 562949953421312 → (p ≡ place → ⊥) → (first_number p == number) ≡ false
    other_first p l n =
        ne_eqb (first_number p) number (λ h. elim numbered.is [ inl e ↦ n (omega arith) | inr e ↦ absurd (omega arith) ])

    other_last : (p : ℕ) → p < 562949953421312 → (p ≡ place → ⊥) → (last_number p == number) ≡ false
    other_last p l n =
        ne_eqb (last_number p) number (λ h. elim numbered.is [ inl e ↦ absurd (omega arith) | inr e ↦ n (omega arith) ])

    as_old : (q : ℕ) → (q == number) ≡ false → numbers.get new.clauses q ≡ numbers.get old.clauses q
    as_old q h = get-new q ∙ ap (λ b. cond b (Some entry) (numbers.get old.clauses q)) h

    once-own : (p : ℕ) (b : Bool) → p ≡ place → p < 562949953421312 → (first_number p == number) ≡ b → IsSome (numbers.get new.clauses (first_number p)) → numbers.get new.clauses (last_number p) ≡ None
    once-own p true e l h some =
        let f : first_number p ≡ number = eqb-true (first_number p) number h in
        let n : (last_number p == number) ≡ false = ne_eqb (last_number p) number (λ x. omega arith) in
        as_old (last_number p) n ∙ absent (last_number p) (record { below = numbered.below; is = inr (ap last_number e) })
    once-own p false e l h some =
        absurd (false≢true (subst IsSome (as_old (first_number p) h ∙ absent (first_number p) (record { below = numbered.below; is = inl (ap first_number e) })) some))

    once-new : (p : ℕ) → p < 562949953421312 → IsSome (numbers.get new.clauses (first_number p)) → numbers.get new.clauses (last_number p) ≡ None
    once-new p l some = elim (eqb_tells p place) [
      | inl h ↦ once-own p (first_number p == number) h.1 l refl some
      | inr h ↦ as_old (last_number p) (other_last p l h.1) ∙ sound.once p l (subst IsSome (as_old (first_number p) (other_first p l h.1)) some)
    ]

    gone-new : set.btree_set_len new.erased ≡ sum_by (λ e. counted e.dated) (numbers.values new.clauses)
    gone-new =
        let l = sum_by-insert_entry (λ (e : Entry C K). counted e.dated) nat_cmp_total old.clauses.entries number entry sound.ordered in
        let a : unwrap_or (option_map (λ (e : Entry C K). counted e.dated) (numbers.get old.clauses number)) 0 ≡ 0 = ap (λ o. unwrap_or (option_map (λ (e : Entry C K). counted e.dated) o) 0) (absent number numbered) in
        let b : sum_by (λ e. counted e.dated) (numbers.values new.clauses) ≡ sum_by (λ e. counted e.dated) (values_of (insert_entry nat_cmp old.clauses.entries number entry)) = ap (λ es. sum_by (λ (e : Entry C K). counted e.dated) (values_of es)) entries in
        ap set.btree_set_len erased ∙ sound.gone_is ∙ omega (arith, l, a, b)

    pub sound_added : IsSound order any key_of new
    sound_added = record {
      ordered = ordered;
      numbered = λ q. numbered-new q (q == number) refl;
      once = once-new;
      listed = λ k q. by_test (λ d. not (any (key_of d.clause)) && is_eq (order k (key_of d.clause))) q (q == number) refl (is_listed order new.index.by_key k q)
          (lists.by_key k q ∙ ap₂ (λ x l. ((not (any x) && is_eq (order k x)) && (q == number)) || l) keyed (sound.listed k q));
      listed_any = λ q. by_test (λ d. any (key_of d.clause)) q (q == number) refl (set.contains nat_cmp new.any q)
          (lists.by_any q ∙ ap₂ (λ x l. (any x && (q == number)) || l) keyed (sound.listed_any q));
      listed_erased = λ k q. by_test (is_erased_at k) q (q == number) refl (set.contains pair_order new.erased (k, q))
          (ap (λ s. set.contains pair_order s (k, q)) erased ∙ sound.listed_erased k q);
      gone_is = gone-new;
    }

-- The same clauses, listed alike.
pub sound_same : {C K : Type 0} (order : K → K → Ordering) (any : K → Bool) (key_of : C → K) (old new : ClauseIndex C K) → IsSound order any key_of old
    → new.clauses.entries ≡ old.clauses.entries → ListsSame order old new → new.erased ≡ old.erased → IsSound order any key_of new
sound_same {C} {K} order any key_of old new sound e lists erased = record {
  ordered = subst (λ es. IsStrictlySortedBy nat_cmp (keys_of es)) (sym e) sound.ordered;
  numbered = λ q. subst (λ es. IfSome (lookup (is_at (nat_cmp q)) es) (λ (x : Entry C K). IsNumbered q x.dated.place × (x.key ≡ key_of x.dated.clause))) (sym e) (sound.numbered q);
  once = λ p. subst (λ (es : List (ℕ × Entry C K)). p < 562949953421312 → IsSome (lookup (is_at (nat_cmp (first_number p))) es) → lookup (is_at (nat_cmp (last_number p))) es ≡ None) (sym e) (sound.once p);
  listed = λ k q. lists.by_key k q ∙ sound.listed k q ∙ held (λ d. not (any (key_of d.clause)) && is_eq (order k (key_of d.clause))) q;
  listed_any = λ q. lists.by_any q ∙ sound.listed_any q ∙ held (λ d. any (key_of d.clause)) q;
  listed_erased = λ k q. ap (λ s. set.contains pair_order s (k, q)) erased ∙ sound.listed_erased k q ∙ held (is_erased_at k) q;
  gone_is = ap set.btree_set_len erased ∙ sound.gone_is ∙ ap (λ es. sum_by (λ (x : Entry C K). counted x.dated) (values_of es)) (sym e);
}
  where
    held : (t : DatedClause C → Bool) (q : ℕ) → holds old.clauses t q ≡ holds new.clauses t q
    held t q = ap (λ es. option_map_or t (option_map (λ (x : Entry C K). x.dated) (lookup (is_at (nat_cmp q)) es)) false) (sym e)

-- A clause put on a number, and then listed.
pub sound_put : {C K : Type 0} (order : K → K → Ordering) (any : K → Bool) (key_of : C → K) (old mid new : ClauseIndex C K) (number place : ℕ) (clause : C) (key other : K)
    → IsSound order any key_of old → IsNumbered number place → ((p : ℕ) → IsNumbered p place → dated_at old.clauses p ≡ None)
    → key ≡ key_of clause → other ≡ key_of clause
    → numbers.IsOrdered mid.clauses
    → mid.clauses.entries ≡ insert_entry nat_cmp old.clauses.entries number (record { dated = fresh place clause; key = key })
    → numbers.Updates old.clauses mid.clauses number (Some (record { dated = fresh place clause; key = key }))
    → (mid.index ≡ old.index) × (mid.any ≡ old.any) × (mid.erased ≡ old.erased)
    → (new.clauses ≡ mid.clauses) × (new.erased ≡ mid.erased)
    → Lists order any other number mid new
    → IsSound order any key_of new
sound_put {C} {K} order any key_of old mid new number place clause key other sound numbered free keyed others ordered entries updates put list lists =
    sound_added
    order any key_of old new number place clause key sound numbered free keyed
    (subst (numbers.IsOrdered) (sym list.0) ordered)
    (ap (λ m. m.entries) list.0 ∙ entries)
    (λ q. ap (λ m. numbers.get m q) list.0 ∙ updates.0 q)
    (record {
      by_key = λ k q. lists.by_key k q ∙ ap₂ (λ x i. ((not (any x) && is_eq (order k x)) && (q == number)) || is_listed order i.by_key k q) (others ∙ sym keyed) put.0;
      by_any = λ q. lists.by_any q ∙ ap₂ (λ x i. (any x && (q == number)) || set.contains nat_cmp i q) (others ∙ sym keyed) put.1;
    })
    (list.1 ∙ put.2)

-- A clause put on a number, and taken out since it was not listed.
pub entries_back : {C K : Type 0} (order : K → K → Ordering) (old mid new : ByNumber (Entry C K)) (last : ByNumber (Entry C K)) (number : ℕ) (e : Entry C K)
    → dated_at old number ≡ None
    → mid.entries ≡ insert_entry nat_cmp old.entries number e
    → new ≡ mid
    → last.entries ≡ remove_entry (is_at (nat_cmp number)) new.entries
    → last.entries ≡ old.entries
entries_back {C} {K} order old mid new last number e free entries same removed =
    removed ∙ ap (λ (m : ByNumber (Entry C K)). remove_entry (is_at (nat_cmp number)) m.entries) same
    ∙ ap (remove_entry (is_at (nat_cmp number))) entries
    ∙ remove_entry-insert_entry nat_cmp number (is_at-number number number ∙ eq-eqb number number refl) old.entries e (none_from (numbers.get old number) free)
  where
    none_from : (o : Option (Entry C K)) → option_map (λ x. x.dated) o ≡ None → o ≡ None
    none_from None x = refl
    none_from (Some y) x = absurd (cc)
