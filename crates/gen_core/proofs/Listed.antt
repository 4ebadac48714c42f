-- An index as the list of its clauses.
use Rattle.std.proofs.Common.{◌≡◌, ℕ, ◌+◌, ◌<◌, ◌≤◌, Bool, true, false, cond, ◌&&◌, ◌||◌, ◌==◌, List, [], ◌∷◌, ◌++◌, map, Option, Some, None, refl, sym, ap, ◌∙◌, subst, arith, eq-eqb, inl, inr}
use Rattle.std.specs.Prelude.{filter, nat_lt, All}
use Rattle.std.specs.List.{AllByRecursion, list_any}
use Rattle.std.specs.Option.{option_map, option_map_or, is_some, IfSome, IfNone}
use Rattle.std.specs.declared.result.Result.{Result}
use Rattle.std.specs.declared.result.Result.TheVariants.{Ok, Err}
use Rattle.std.specs.Result.{OnOk, IfOk}
use Rattle.std.specs.Ordering.{is_eq, nat_cmp}
use Rattle.std.specs.declared.cmp.Ordering.{Ordering}
use Rattle.std.specs.Map.{lookup, values_of}
use Rattle.std.specs.BTreeMap.{insert_entry, is_at}
use Rattle.std.proofs.lemmas.Bool.{false≢true, cases_lt}
use Rattle.std.proofs.lemmas.List.Elements.{All-head, All-tail}
use borrow.Author.Tests.{eqb-true, lt-ltb}
use Rattle.gen_core.specs.NumberMaps.{ByNumber}
use Rattle.gen_core.specs.NumberMaps as numbers
use Rattle.gen_core.specs.declared.dated_clause.DatedClause.{DatedClause}
use Rattle.gen_core.specs.declared.clause_index.Entry.{Entry}
use Rattle.gen_core.specs.declared.clause_index.ClauseIndex.{ClauseIndex}
use Rattle.gen_core.specs.Index.{IsNext}
use Rattle.gen_core.specs.Numbers.{IsNumbered, first_number, last_number}
use Rattle.gen_core.specs.Visible.{is_visible, is_droppable, is_live, fresh, erased_by, behind, has_any, first_choice}
use Rattle.gen_core.specs.Visible as list
use Rattle.gen_core.specs.ClauseIndex.{IsSound, IsNumberOf, Added, Erased, ErasesNone, ErasesAt, DropsOne, Drops, holds, dated_at, marked, is_erased_at, clauses_of}
use Rattle.gen_core.proofs.Entries.{ge-ltb, values, from_number, each_found, each_from, none_from, some_from, past, past_one, past_none, any_false, any_true, map_none, map_one, parted, insert_last, insert_first}
use Rattle.gen_core.proofs.Searches.{holds-both}
use Rattle.gen_core.proofs.Erasures.{not_droppable, erased_at, droppable_below}

pub on_ok : {T E : Type 0} (r : Result T E) (P Q : Type 0) → (P → Q) → OnOk r P → OnOk r Q
on_ok (Ok x) P Q f h = f h
on_ok (Err e) P Q f h = tt

pub at_ok : {T E : Type 0} (P : T → Type 0) (r : Result T E) (x : T) → r ≡ Ok x → IfOk r P → P x
at_ok P r x e h = subst (λ r. IfOk r P) e h

pub if_ok : {T E : Type 0} (r : Result T E) (P Q : T → Type 0) → ((x : T) → P x → Q x) → IfOk r P → IfOk r Q
if_ok (Ok x) P Q f h = f x h
if_ok (Err e) P Q f h = tt

pub visible_any : {C K : Type 0} (g : ℕ) (es : List (ℕ × Entry C K)) → list_any (λ e. is_visible g e.dated) (values_of es) ≡ list_any (is_visible g) (map (λ e. e.1.dated) es)
visible_any g [] = refl
visible_any g (e ∷ es) = ap (λ b. is_visible g e.1.dated || b) (visible_any g es)

each_more : {X : Type 0} (P Q : X → Type 0) (xs : List X) → ((x : X) → P x → Q x) → AllByRecursion P xs → AllByRecursion Q xs
each_more P Q [] f h = tt
each_more P Q (x ∷ xs) f h = (f x h.0, each_more P Q xs f h.1)

behind-past : {C : Type 0} (place : ℕ) (ds : List (DatedClause C)) → behind (Some place) ds ≡ past {X = DatedClause C} (λ d. d) (λ d. d.place == place) ds
behind-past place [] = refl
behind-past place (d ∷ ds) = ap (λ es. cond (d.place == place) ds es) (behind-past place ds)

module _ {C K : Type 0} where
  abbrev pub of : Entry C K → DatedClause C
  of e = e.dated

  -- What is said of all clauses is said of the one on a number.
  all_on : (P : DatedClause C → Type 0) (r : ℕ) (x : Entry C K) (es : List (ℕ × Entry C K)) → All P (values of es) → lookup (is_at (nat_cmp r)) es ≡ Some x → P x.dated
  all_on P r x [] h at = absurd (cc)
  all_on P r x (e ∷ es) h at = go (all_on P r x es (All-tail P e.1.dated (values of es) h)) (is_eq (nat_cmp r e.0)) at
    where
      go : (lookup (is_at (nat_cmp r)) es ≡ Some x → P x.dated) → (b : Bool) → cond b (Some e.1) (lookup (is_at (nat_cmp r)) es) ≡ Some x → P x.dated
      go next true q = subst (λ (y : Entry C K). P y.dated) (ap (λ o. option_map_or (λ (y : Entry C K). y) o x) q) (All-head P e.1.dated (values of es) h)
      go next false q = next q

  found_on : (m : ByNumber (Entry C K)) (t : DatedClause C → Bool) (q : ℕ) → holds m t q ≡ true → (x : Entry C K) × (numbers.get m q ≡ Some x) × (t x.dated ≡ true)
  found_on m t q h = go (numbers.get m q) refl h
    where
      go : (o : Option (Entry C K)) → numbers.get m q ≡ o → option_map_or t (option_map (λ e. e.dated) o) false ≡ true → (x : Entry C K) × (numbers.get m q ≡ Some x) × (t x.dated ≡ true)
      go None at n = absurd (false≢true n)
      go (Some x) at n = (x, at, n)

  module _ (order : K → K → Ordering) (any : K → Bool) (key_of : C → K) (s : ClauseIndex C K) (sound : IsSound order any key_of s) where
    found : AllByRecursion (λ e. lookup (is_at (nat_cmp e.0)) s.clauses.entries ≡ Some e.1) s.clauses.entries
    found = each_found of s.clauses.entries sound.ordered

    each : (t : DatedClause C → Bool) → AllByRecursion (λ e. t e.1.dated ≡ holds s.clauses t e.0) s.clauses.entries
    each t = each_from of (λ q d. t d ≡ holds s.clauses t q) s.clauses.entries s.clauses.entries found (λ q x at. sym (ap (λ o. option_map_or t (option_map (λ (e : Entry C K). e.dated) o) false) at))

    each_is : (t : DatedClause C → Bool) (r : ℕ → Bool) → ((q : ℕ) → holds s.clauses t q ≡ r q) → AllByRecursion (λ e. t e.1.dated ≡ r e.0) s.clauses.entries
    each_is t r h = each_more (λ e. t e.1.dated ≡ holds s.clauses t e.0) (λ e. t e.1.dated ≡ r e.0) s.clauses.entries (λ e p. p ∙ h e.0) (each t)

    pub first_none : (t : DatedClause C → Bool) (from : ℕ) → IsNext (holds s.clauses t) from None → filter t (values of (from_number of from s.clauses.entries)) ≡ []
    first_none t from h =
        none_from of t from s.clauses.entries
        (each_more (λ e. t e.1.dated ≡ holds s.clauses t e.0) (λ e. from ≤ e.0 → t e.1.dated ≡ false) s.clauses.entries (λ e p l. p ∙ h e.0 l) (each t))

    pub first_some : (t : DatedClause C → Bool) (from r : ℕ) → IsNext (holds s.clauses t) from (Some r)
        → (x : Entry C K) × (numbers.get s.clauses r ≡ Some x) × (filter t (values of (from_number of from s.clauses.entries)) ≡ x.dated ∷ filter t (values of (from_number of (r + 1) s.clauses.entries)))
    first_some t from r h =
        let x = found_on s.clauses t r h.1 in (
          x.0,
          x.1,
          some_from of t from r x.0 h.0 x.2 s.clauses.entries sound.ordered
              (each_more (λ e. t e.1.dated ≡ holds s.clauses t e.0) (λ e. from ≤ e.0 → e.0 < r → t e.1.dated ≡ false) s.clauses.entries (λ e p l m. p ∙ h.2 e.0 l m) (each t)) x.1,
        )

    more_is : (t : DatedClause C → Bool) (from : ℕ) (r : Option ℕ) → IsNext (holds s.clauses t) from r → is_some r ≡ has_any (filter t (values of (from_number of from s.clauses.entries)))
    more_is t from None h = sym (ap has_any (first_none t from h))
    more_is t from (Some r) h = sym (ap has_any (first_some t from r h).2)

    -- The next clause of a call.
    pub hit_is : (t : DatedClause C → Bool) (from n : ℕ) (r : Option ℕ) (more : Bool) → more ≡ is_some r → IsNext (holds s.clauses t) from (Some n) → IsNext (holds s.clauses t) (n + 1) r
        → option_map (λ d. (d.place, d.clause, more)) (dated_at s.clauses n) ≡ first_choice (filter t (values of (from_number of from s.clauses.entries)))
    hit_is t from n r more e h k =
        let x = first_some t from n h in
        ap (λ o. option_map (λ d. (d.place, d.clause, more)) (option_map (λ (y : Entry C K). y.dated) o)) x.1
        ∙ ap (λ b. Some (x.0.dated.place, x.0.dated.clause, b)) (e ∙ more_is t (n + 1) r k)
        ∙ sym (ap first_choice x.2)

    -- What stands after the clause that was added at a place.
    pub behind_none : (place : ℕ) → IsNumberOf s.clauses place None → behind (Some place) (clauses_of s.clauses) ≡ []
    behind_none place h =
        behind-past place (clauses_of s.clauses) ∙ past_none of (λ d. d.place == place) s.clauses.entries (each_is (λ d. d.place == place) (λ q. false) h)

    pub behind_some : (place n : ℕ) → IsNumberOf s.clauses place (Some n) → behind (Some place) (clauses_of s.clauses) ≡ values of (from_number of (n + 1) s.clauses.entries)
    behind_some place n h =
        let x = found_on s.clauses (λ d. d.place == place) n (h n ∙ eq-eqb n n refl) in
        behind-past place (clauses_of s.clauses) ∙ past_one of (λ d. d.place == place) n x.0 s.clauses.entries sound.ordered (each_is (λ d. d.place == place) (λ q. q == n) h) x.1

    -- ---- erasing

    here : (t : DatedClause C → Bool) (q : ℕ) (x : Entry C K) → numbers.get s.clauses q ≡ Some x → holds s.clauses t q ≡ t x.dated
    here t q x at = ap (λ o. option_map_or t (option_map (λ (e : Entry C K). e.dated) o) false) at

    only_live : (clause n : ℕ) (x : Entry C K) → numbers.get s.clauses n ≡ Some x → is_live x.dated ≡ true → ((q : ℕ) → holds s.clauses (λ d. d.place == clause) q ≡ (q == n))
        → (q : ℕ) → holds s.clauses (λ d. (d.place == clause) && is_live d) q ≡ (q == n)
    only_live clause n x at live only q = holds-both s.clauses (λ d. d.place == clause) is_live q ∙ ap (λ b. b && holds s.clauses is_live q) (only q) ∙ go (q == n) refl
      where
        go : (b : Bool) → (q == n) ≡ b → (b && holds s.clauses is_live q) ≡ b
        go true e = ap (λ p. holds s.clauses is_live p) (eqb-true q n e) ∙ here is_live n x at ∙ live
        go false e = refl

    pub erases : (new : ByNumber (Entry C K)) (clause place : ℕ) → Erased s.clauses new clause place
        → (list_any (λ d. (d.place == clause) && is_live d) (clauses_of s.clauses) ≡ true) × (clauses_of new ≡ map (erased_by clause place) (clauses_of s.clauses))
    erases new clause place e =
        let one = only_live clause e.number e.entry e.was e.live e.only in (
          any_true of (λ d. (d.place == clause) && is_live d) e.number e.entry s.clauses.entries e.was
              (sym (here (λ d. (d.place == clause) && is_live d) e.number e.entry e.was) ∙ one e.number ∙ eq-eqb e.number e.number refl),
          ap (λ es. values of es) e.entries
              ∙ map_one of (λ d. (d.place == clause) && is_live d) (λ d. record d { erased = Some place }) e.number e.entry (marked place e.entry) refl s.clauses.entries sound.ordered
              (each_is (λ d. (d.place == clause) && is_live d) (λ q. q == e.number) one) e.was,
        )

    pub erases_none : (new : ByNumber (Entry C K)) (clause place : ℕ) → ErasesNone s.clauses new clause
        → (list_any (λ d. (d.place == clause) && is_live d) (clauses_of s.clauses) ≡ false) × (clauses_of new ≡ map (erased_by clause place) (clauses_of s.clauses))
    erases_none new clause place e =
        let none = each_is (λ d. (d.place == clause) && is_live d) (λ q. false) e.none in (
          any_false of (λ d. (d.place == clause) && is_live d) s.clauses.entries none,
          ap (λ es. values of es) e.same ∙ sym (map_none of (λ d. (d.place == clause) && is_live d) (λ d. record d { erased = Some place }) s.clauses.entries none),
        )

    -- ---- dropping

    pub drops : (new : ByNumber (Entry C K)) (floor : ℕ) (d : DatedClause C) → DropsOne s.clauses new floor d → list.DropsOne floor d (clauses_of s.clauses) (clauses_of new)
    drops new floor d e =
        let p = parted of e.number e.entry s.clauses.entries e.was in
        record {
          before = p.before;
          after = p.after;
          whole = p.whole ∙ ap (λ x. p.before ++ x ∷ p.after) (sym e.dated_is);
          left = ap (λ es. values of es) e.entries ∙ p.left;
          droppable = ap (is_droppable floor) e.dated_is ∙ e.droppable;
        }

    pub none_droppable : (floor : ℕ) → ((q : ℕ) → holds s.clauses (is_droppable floor) q ≡ false) → list_any (is_droppable floor) (clauses_of s.clauses) ≡ false
    none_droppable floor h = any_false of (is_droppable floor) s.clauses.entries (each_is (is_droppable floor) (λ q. false) h)

    pub some_droppable : (floor place q : ℕ) → place < floor → holds s.clauses (is_erased_at place) q ≡ true → list_any (is_droppable floor) (clauses_of s.clauses) ≡ true
    some_droppable floor place q l h =
        let x = found_on s.clauses (is_erased_at place) q h in
        any_true of (is_droppable floor) q x.0 s.clauses.entries x.1 (droppable_below x.0.dated place floor (erased_at s.clauses place q x.0 x.1 h) l)

    pub droppable_is : (floor place q : ℕ) → holds s.clauses (is_erased_at place) q ≡ true → ((k p : ℕ) → holds s.clauses (is_erased_at k) p ≡ true → place ≤ k)
        → nat_lt place floor ≡ list_any (is_droppable floor) (clauses_of s.clauses)
    droppable_is floor place q h first = elim (cases_lt place floor) [
      | inl l ↦ lt-ltb place floor l ∙ sym (some_droppable floor place q l h)
      | inr l ↦ ge-ltb place floor l ∙ sym (none_droppable floor (λ p. not_droppable s.clauses floor p (λ k e. (let m : place ≤ k = first k p e in omega arith))))
    ]

    pub droppable_none : (floor : ℕ) → ((k q : ℕ) → holds s.clauses (is_erased_at k) q ≡ false) → false ≡ list_any (is_droppable floor) (clauses_of s.clauses)
    droppable_none floor h = sym (none_droppable floor (λ q. not_droppable s.clauses floor q (λ k e. absurd (false≢true (sym (h k q) ∙ e)))))

    pub drops_some : (new : ByNumber (Entry C K)) (floor : ℕ) (r : Option (DatedClause C)) → Drops s.clauses new floor r → IfSome r (λ d. list.DropsOne floor d (clauses_of s.clauses) (clauses_of new))
    drops_some new floor None e = tt
    drops_some new floor (Some d) e = drops new floor d e

    pub drops_none : (new : ByNumber (Entry C K)) (floor : ℕ) (r : Option (DatedClause C)) → Drops s.clauses new floor r → IfNone r ((list_any (is_droppable floor) (clauses_of s.clauses) ≡ false) × (clauses_of new ≡ clauses_of s.clauses))
    drops_none new floor None d = (none_droppable floor d.none, ap (λ es. values of es) d.same)
    drops_none new floor (Some x) d = tt

    pub erases_at : (new : ByNumber (Entry C K)) (clause place : ℕ) (b : Bool) → ErasesAt s.clauses new clause place b
        → (b ≡ list_any (λ d. (d.place == clause) && is_live d) (clauses_of s.clauses)) × (clauses_of new ≡ map (erased_by clause place) (clauses_of s.clauses))
    erases_at new clause place true e = let p = erases new clause place e in (sym p.0, p.1)
    erases_at new clause place false e = let p = erases_none new clause place e in (sym p.0, p.1)

    -- Whether the clause that was added at a place is there and not erased.
    pub live_none : (clause : ℕ) → IsNumberOf s.clauses clause None → false ≡ list_any (λ d. (d.place == clause) && is_live d) (clauses_of s.clauses)
    live_none clause none =
        sym (any_false of (λ d. (d.place == clause) && is_live d) s.clauses.entries
        (each_is (λ d. (d.place == clause) && is_live d) (λ q. false)
        (λ q. holds-both s.clauses (λ d. d.place == clause) is_live q ∙ ap (λ b. b && holds s.clauses is_live q) (none q))))

    pub live_some : (clause n : ℕ) (b : Bool) → IsNumberOf s.clauses clause (Some n) → b ≡ holds s.clauses is_live n
        → b ≡ list_any (λ d. (d.place == clause) && is_live d) (clauses_of s.clauses)
    live_some clause n b only is = is ∙ go (holds s.clauses is_live n) refl
      where
        both : (q : ℕ) → holds s.clauses (λ d. (d.place == clause) && is_live d) q ≡ ((q == n) && holds s.clauses is_live q)
        both q = holds-both s.clauses (λ d. d.place == clause) is_live q ∙ ap (λ r. r && holds s.clauses is_live q) (only q)

        never : holds s.clauses is_live n ≡ false → (q : ℕ) (r : Bool) → (q == n) ≡ r → (r && holds s.clauses is_live q) ≡ false
        never e q true k = ap (λ p. holds s.clauses is_live p) (eqb-true q n k) ∙ e
        never e q false k = refl

        go : (r : Bool) → holds s.clauses is_live n ≡ r → holds s.clauses is_live n ≡ list_any (λ d. (d.place == clause) && is_live d) (clauses_of s.clauses)
        go true e =
            let x = found_on s.clauses is_live n e in
            e
            ∙ sym (any_true of (λ d. (d.place == clause) && is_live d) n x.0 s.clauses.entries x.1
            (sym (here (λ d. (d.place == clause) && is_live d) n x.0 x.1) ∙ both n ∙ ap (λ r. r && holds s.clauses is_live n) (eq-eqb n n refl) ∙ e))
        go false e =
            e
            ∙ sym (any_false of (λ d. (d.place == clause) && is_live d) s.clauses.entries
            (each_is (λ d. (d.place == clause) && is_live d) (λ q. false) (λ q. both q ∙ never e q (q == n) refl)))

    -- ---- adding

    -- The key that is kept with a clause is that of its first argument.
    pub keys_are : AllByRecursion (λ e. e.1.key ≡ key_of e.1.dated.clause) s.clauses.entries
    keys_are =
        each_from (λ (e : Entry C K). e) (λ q e. e.key ≡ key_of e.dated.clause) s.clauses.entries s.clauses.entries found
        (λ q x at.
        let p : IfSome (Some x) (λ e. IsNumbered q e.dated.place × (e.key ≡ key_of e.dated.clause)) =
        subst (λ o. IfSome o (λ e. IsNumbered q e.dated.place × (e.key ≡ key_of e.dated.clause))) at (sound.numbered q) in p.1)

    before_on : (place q : ℕ) (x : Entry C K) → All (λ d. d.place < place) (clauses_of s.clauses) → numbers.get s.clauses q ≡ Some x → x.dated.place < place
    before_on place q x h at = all_on (λ d. d.place < place) q x s.clauses.entries h at

    numbered_on : (q : ℕ) (x : Entry C K) → numbers.get s.clauses q ≡ Some x → IsNumbered q x.dated.place
    numbered_on q x at =
        let p : IfSome (Some x) (λ e. IsNumbered q e.dated.place × (e.key ≡ key_of e.dated.clause)) = subst (λ o. IfSome o (λ e. IsNumbered q e.dated.place × (e.key ≡ key_of e.dated.clause))) at (sound.numbered q) in p.0

    same_place : (p a b : ℕ) → IsNumbered p a → IsNumbered p b → a ≡ b
    same_place p a b h k = elim h.is [
      | inl e ↦ elim k.is [ inl f ↦ omega arith | inr f ↦ absurd (omega arith) ]
      | inr e ↦ elim k.is [ inl f ↦ absurd (omega arith) | inr f ↦ omega arith ]
    ]

    pub free_on : (place : ℕ) → All (λ d. d.place < place) (clauses_of s.clauses) → (p : ℕ) → IsNumbered p place → dated_at s.clauses p ≡ None
    free_on place h p n = go (numbers.get s.clauses p) refl
      where
        go : (o : Option (Entry C K)) → numbers.get s.clauses p ≡ o → dated_at s.clauses p ≡ None
        go None at = ap (option_map (λ (e : Entry C K). e.dated)) at
        go (Some x) at =
            absurd (let l = before_on place p x h at in let e = same_place p x.dated.place place (numbered_on p x at) n in omega (arith, l, e))

    below_last : (place : ℕ) → All (λ d. d.place < place) (clauses_of s.clauses) → AllByRecursion (λ e. e.0 < last_number place) s.clauses.entries
    below_last place h =
        each_from of (λ q d. q < last_number place) s.clauses.entries s.clauses.entries found
        (λ q x at. (let l = before_on place q x h at in let n = numbered_on q x at in elim n.is [ inl e ↦ omega (arith, l, n.below) | inr e ↦ omega (arith, l, n.below) ]))

    above_first : (place : ℕ) → place < 562949953421312 → All (λ d. d.place < place) (clauses_of s.clauses) → AllByRecursion (λ e. first_number place < e.0) s.clauses.entries
    above_first place b h =
        each_from of (λ q d. first_number place < q) s.clauses.entries s.clauses.entries found
        (λ q x at. (let l = before_on place q x h at in let n = numbered_on q x at in elim n.is [ inl e ↦ omega (arith, l, n.below) | inr e ↦ omega (arith, l, n.below) ]))

    pub adds_last : (new : ByNumber (Entry C K)) (place n : ℕ) (clause : C) → n ≡ last_number place → All (λ d. d.place < place) (clauses_of s.clauses) → Added s.clauses new n (fresh place clause)
        → clauses_of new ≡ clauses_of s.clauses ++ fresh place clause ∷ []
    adds_last new place n clause e h a =
        ap (λ es. values of es) (a.entries ∙ ap (λ p. insert_entry nat_cmp s.clauses.entries p a.entry) e)
        ∙ insert_last of (last_number place) a.entry s.clauses.entries (below_last place h)
        ∙ ap (λ d. clauses_of s.clauses ++ d ∷ []) a.dated

    pub adds_first : (new : ByNumber (Entry C K)) (place n : ℕ) (clause : C) → n ≡ first_number place → place < 562949953421312 → All (λ d. d.place < place) (clauses_of s.clauses) → Added s.clauses new n (fresh place clause)
        → clauses_of new ≡ fresh place clause ∷ clauses_of s.clauses
    adds_first new place n clause e b h a =
        ap (λ es. values of es) (a.entries ∙ ap (λ p. insert_entry nat_cmp s.clauses.entries p a.entry) e)
        ∙ insert_first of (first_number place) a.entry s.clauses.entries (above_first place b h)
        ∙ ap (λ d. d ∷ clauses_of s.clauses) a.dated
