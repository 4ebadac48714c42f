-- What stands on each number after a change.
use Rattle.std.proofs.Common.{◌≡◌, ℕ, ◌==◌, Bool, true, false, cond, List, [], ◌∷◌, Option, Some, None, refl, sym, ap, ◌∙◌, subst, arith, inl, inr}
use Rattle.std.specs.Ordering.{is_eq, nat_cmp, match_ordering}
use Rattle.std.specs.List.Sorted.{IsStrictlySortedBy}
use Rattle.std.specs.Option.{IfSome, option_map, option_map_or}
use Rattle.std.specs.Map.{keys_of, lookup, remove_entry, set_value}
use Rattle.std.specs.BTreeMap.{insert_entry}
use Rattle.std.specs.Cmp.{nat_eq_equiv}
use Rattle.std.proofs.lemmas.Bool.{cases_lt}
use Rattle.std.proofs.lemmas.Map.Keys.{sorted_tail}
use borrow.Author.Tests.{eqb-true}
use Rattle.gen_core.specs.declared.clause_index.Entry.{Entry}
use Rattle.gen_core.specs.NumberMaps.{ByNumber, Updates}
use Rattle.gen_core.specs.NumberMaps as numbers
use Rattle.gen_core.specs.ClauseIndex.{Marks, marked}
use Rattle.gen_core.specs.Marking.{marked_on}
use Rattle.gen_core.proofs.Entries.{after_head, lookup_above}
use Rattle.gen_core.proofs.Additions.{is_at-number}
use Rattle.gen_core.proofs.NumberLaws.{at, compares_equal, compares_greater, compares_less, tests_greater, tests_less}

at_turned : (q k : ℕ) → at q k ≡ at k q
at_turned q k = is_at-number q k ∙ nat_eq_equiv.symm k q ∙ sym (is_at-number k q)

at_same : (q k : ℕ) → at q k ≡ true → q ≡ k
at_same q k h = let e : k ≡ q = eqb-true k q (sym (is_at-number q k) ∙ h) in sym e

module _ {X : Type 0} where
  swapped : (a b : Bool) (x y z : Option X) → (a ≡ true → b ≡ true → ⊥) → cond a x (cond b y z) ≡ cond b y (cond a x z)
  swapped true true x y z never = absurd (never refl refl)
  swapped true false x y z never = refl
  swapped false true x y z never = refl
  swapped false false x y z never = refl

  covered : (b : Bool) (x y z : Option X) → cond b x z ≡ cond b x (cond b y z)
  covered true x y z = refl
  covered false x y z = refl

  gone : (b : Bool) (y z : Option X) → (b ≡ true → z ≡ None) → z ≡ cond b None (cond b y z)
  gone true y z none = none refl
  gone false y z none = refl

  none_either : (b : Bool) → ◌≡◌ {A = Option X} None (cond b None None)
  none_either true = refl
  none_either false = refl

  pub get_put : (k q : ℕ) (v : X) (es : List (ℕ × X)) → lookup (at q) (insert_entry nat_cmp es k v) ≡ cond (at k q) (Some v) (lookup (at q) es)
  get_put k q v [] = ap (λ b. cond b (Some v) None) (at_turned q k)
  get_put k q v (e ∷ es) = elim (cases_lt k e.0) [
    | inl l ↦ ap (λ o. lookup (at q) (match_ordering o ((k, v) ∷ e ∷ es) ((e.0, v) ∷ es) (e ∷ insert_entry nat_cmp es k v))) (compares_less k e.0 l)
        ∙ ap (λ b. cond b (Some v) (lookup (at q) (e ∷ es))) (at_turned q k)
    | inr m ↦ elim (cases_lt e.0 k) [
      | inl n ↦ ap (λ o. lookup (at q) (match_ordering o ((k, v) ∷ e ∷ es) ((e.0, v) ∷ es) (e ∷ insert_entry nat_cmp es k v))) (compares_greater k e.0 n)
          ∙ ap (λ o. cond (at q e.0) (Some e.1) o) (get_put k q v es)
          ∙ swapped (at q e.0) (at k q) (Some e.1) (Some v) (lookup (at q) es) (λ a b. let i = at_same q e.0 a in let j = at_same k q b in omega (arith, i, j, n))
      | inr n ↦
          let same : k ≡ e.0 = omega (arith, m, n) in
          ap (λ o. lookup (at q) (match_ordering o ((k, v) ∷ e ∷ es) ((e.0, v) ∷ es) (e ∷ insert_entry nat_cmp es k v))) (compares_equal k e.0 same)
          ∙ covered (at q e.0) (Some v) (Some e.1) (lookup (at q) es)
          ∙ ap (λ b. cond b (Some v) (cond (at q e.0) (Some e.1) (lookup (at q) es))) (sym (ap (at q) same) ∙ at_turned q k)
    ]
  ]

  pub get_out : (k q : ℕ) (es : List (ℕ × X)) → IsStrictlySortedBy nat_cmp (keys_of es) → lookup (at q) (remove_entry (at k) es) ≡ cond (at k q) None (lookup (at q) es)
  get_out k q [] s = none_either (at k q)
  get_out k q (e ∷ es) s = elim (cases_lt k e.0) [
    | inl l ↦ kept (tests_greater k e.0 l) (λ a b. let i = at_same q e.0 a in let j = at_same k q b in omega (arith, i, j, l)) (get_out k q es (sorted_tail nat_cmp e.0 (keys_of es) s))
    | inr m ↦ elim (cases_lt e.0 k) [
      | inl n ↦ kept (tests_less k e.0 n) (λ a b. let i = at_same q e.0 a in let j = at_same k q b in omega (arith, i, j, n)) (get_out k q es (sorted_tail nat_cmp e.0 (keys_of es) s))
      | inr n ↦
          let same : k ≡ e.0 = omega (arith, m, n) in
          ap (λ b. lookup (at q) (cond b es (e ∷ remove_entry (at k) es))) (ap is_eq (compares_equal k e.0 same))
          ∙ gone (at q e.0) (Some e.1) (lookup (at q) es) (λ a. let i = at_same q e.0 a in lookup_above (λ (x : X). x) q e.0 es (omega (arith, i)) (after_head (λ (x : X). x) e es s))
          ∙ ap (λ b. cond b None (cond (at q e.0) (Some e.1) (lookup (at q) es))) (sym (ap (at q) same) ∙ at_turned q k)
    ]
  ]
    where
      kept : at k e.0 ≡ false → (at q e.0 ≡ true → at k q ≡ true → ⊥) → lookup (at q) (remove_entry (at k) es) ≡ cond (at k q) None (lookup (at q) es)
          → lookup (at q) (remove_entry (at k) (e ∷ es)) ≡ cond (at k q) None (lookup (at q) (e ∷ es))
      kept h never next =
          ap (λ b. lookup (at q) (cond b es (e ∷ remove_entry (at k) es))) h
          ∙ ap (λ o. cond (at q e.0) (Some e.1) o) next
          ∙ swapped (at q e.0) (at k q) (Some e.1) None (lookup (at q) es) never

  pub get_set : (k q : ℕ) (x w : X) (es : List (ℕ × X)) → lookup (at k) es ≡ Some x → lookup (at q) (set_value (at k) es w) ≡ cond (at k q) (Some w) (lookup (at q) es)
  get_set k q x w [] h = absurd (cc)
  get_set k q x w (e ∷ es) h = elim (cases_lt k e.0) [
    | inl l ↦ kept (tests_greater k e.0 l) (λ a b. let i = at_same q e.0 a in let j = at_same k q b in omega (arith, i, j, l))
        (get_set k q x w es (sym (ap (λ b. cond b (Some e.1) (lookup (at k) es)) (tests_greater k e.0 l)) ∙ h))
    | inr m ↦ elim (cases_lt e.0 k) [
      | inl n ↦ kept (tests_less k e.0 n) (λ a b. let i = at_same q e.0 a in let j = at_same k q b in omega (arith, i, j, n))
          (get_set k q x w es (sym (ap (λ b. cond b (Some e.1) (lookup (at k) es)) (tests_less k e.0 n)) ∙ h))
      | inr n ↦
          let same : k ≡ e.0 = omega (arith, m, n) in
          ap (λ b. lookup (at q) (cond b ((e.0, w) ∷ es) (e ∷ set_value (at k) es w))) (ap is_eq (compares_equal k e.0 same))
          ∙ covered (at q e.0) (Some w) (Some e.1) (lookup (at q) es)
          ∙ ap (λ b. cond b (Some w) (cond (at q e.0) (Some e.1) (lookup (at q) es))) (sym (ap (at q) same) ∙ at_turned q k)
    ]
  ]
    where
      kept : at k e.0 ≡ false → (at q e.0 ≡ true → at k q ≡ true → ⊥) → lookup (at q) (set_value (at k) es w) ≡ cond (at k q) (Some w) (lookup (at q) es)
          → lookup (at q) (set_value (at k) (e ∷ es) w) ≡ cond (at k q) (Some w) (lookup (at q) (e ∷ es))
      kept h never next =
          ap (λ b. lookup (at q) (cond b ((e.0, w) ∷ es) (e ∷ set_value (at k) es w))) h
          ∙ ap (λ o. cond (at q e.0) (Some e.1) o) next
          ∙ swapped (at q e.0) (at k q) (Some e.1) (Some w) (lookup (at q) es) never

-- ---- of maps

module _ {V : Type 0} (old new : ByNumber V) (k : ℕ) where
  own : (w : Option V) → ((q : ℕ) → numbers.get new q ≡ cond (at k q) w (numbers.get old q)) → numbers.get new k ≡ w
  own w gets = gets k ∙ ap (λ b. cond b w (numbers.get old k)) (ap is_eq (compares_equal k k refl))

  pub updates_put : (v : V) → new.entries ≡ insert_entry nat_cmp old.entries k v → Updates old new k (Some v)
  updates_put v h =
      let gets : (q : ℕ) → numbers.get new q ≡ cond (at k q) (Some v) (numbers.get old q) = λ q. ap (lookup (at q)) h ∙ get_put k q v old.entries in
      (gets, own (Some v) gets)

  pub updates_out : numbers.IsOrdered old → new.entries ≡ remove_entry (at k) old.entries → Updates old new k None
  updates_out s h =
      let gets : (q : ℕ) → numbers.get new q ≡ cond (at k q) None (numbers.get old q) = λ q. ap (lookup (at q)) h ∙ get_out k q old.entries s in
      (gets, own None gets)

module _ {C K : Type 0} (old new : ByNumber (Entry C K)) (number place : ℕ) where
  pub marks_is : numbers.IsOrdered new → new.entries ≡ marked_on number place old.entries → Marks old new number place
  marks_is ordered h = go (numbers.get old number) refl
    where
      as_was : (q : ℕ) → numbers.get old number ≡ None → (b : Bool) → (q == number) ≡ b → numbers.get old q ≡ cond b None (numbers.get old q)
      as_was q none true e = ap (numbers.get old) (eqb-true q number e) ∙ none
      as_was q none false e = refl

      entries_none : numbers.get old number ≡ None → new.entries ≡ old.entries
      entries_none none = h ∙ ap (λ o. option_map_or (λ e. set_value (at number) old.entries (marked place e)) o old.entries) none

      entries_some : (x : Entry C K) → numbers.get old number ≡ Some x → new.entries ≡ set_value (at number) old.entries (marked place x)
      entries_some x some = h ∙ ap (λ o. option_map_or (λ e. set_value (at number) old.entries (marked place e)) o old.entries) some

      go : (o : Option (Entry C K)) → numbers.get old number ≡ o → Marks old new number place
      go None none = record {
        entries = subst (λ o. IfSome o (λ e. new.entries ≡ set_value (at number) old.entries (marked place e))) (sym none) tt;
        updates = λ q. ap (lookup (at q)) (entries_none none) ∙ as_was q none (q == number) refl ∙ ap (λ o. cond (q == number) (option_map (marked place) o) (numbers.get old q)) (sym none);
        ordered = ordered;
      }
      go (Some x) some = record {
        entries = subst (λ o. IfSome o (λ e. new.entries ≡ set_value (at number) old.entries (marked place e))) (sym some) (entries_some x some);
        updates = λ q. ap (lookup (at q)) (entries_some x some) ∙ get_set number q x (marked place x) old.entries some
            ∙ ap (λ b. cond b (Some (marked place x)) (numbers.get old q)) (is_at-number number q)
            ∙ ap (λ o. cond (q == number) (option_map (marked place) o) (numbers.get old q)) (sym some);
        ordered = ordered;
      }
