-- What each table keeps, through each change that is not refused.
use Rattle.std.proofs.Common.{◌≡◌, ℕ, ◌<◌, ◌≤◌, Bool, true, false, cond, List, [], ◌∷◌, Option, Some, None, refl, sym, ap, subst, ◌∙◌, ◌⊎◌, inl, inr, arith}
use Rattle.std.specs.Prelude.{◌&&◌, ◌==◌, not, bytes_eq, codes, nat_lt, nat_le, is_some, if◌then◌else◌, IfSome, IsSome}
use Rattle.std.specs.List.{list_all}
use Rattle.std.specs.Ordering.{eq_by_cmp, is_eq}
use Rattle.std.specs.declared.cmp.Ordering.{Ordering}
use Rattle.std.specs.declared.cmp.Ordering.TheVariants.{Less, Equal, Greater}
use Rattle.std.proofs.lemmas.Bool.{false≢true, true≢false, and_parts, ltb-true, ltb-false, leb-true, eqb-true, lt-ltb, cases_lt, eq-eqb, ne_eqb}
use Rattle.std.specs.FinMap as finite
use Rattle.std.specs.FinMap.{get, get-from_entries, get-insert, get-remove}
use Rattle.std.specs.FinMap.Entries.{find}
use Rattle.pl_term.specs.Tree.{Chars}
use Rattle.pl_model.specs.OperatorTable.{Key, Entry, OperatorTable, key_order, place_of, place_rank, place_ranked, place_ranked-rank, opening_rows, opening_table, Refusal, priority, comma, reserved, infix_postfix, refusal, changed, is_reserved, stands_beside, highest_priority, IsSound}
use Rattle.pl_model.specs.declared.operators.Kind.{Kind}
use Rattle.pl_model.specs.declared.operators.Place.{Place}
use Rattle.pl_model.specs.declared.operators.Place.TheVariants.{Infix, Postfix}
use Rattle.pl_model.proofs.KeyOrder.{key_order_total, key_order_exact}

equal : (r : Ordering) → is_eq r ≡ true → r ≡ Equal
equal Less e = absurd (false≢true e)
equal Equal e = refl
equal Greater e = absurd (false≢true e)

same_key : (q k : Key) → eq_by_cmp key_order q k ≡ true → q ≡ k
same_key q k e = key_order_exact q k (equal (key_order q k) e)

-- what a test says of each entry of rows it says of what is found
found_one : (test : Key × Entry → Bool) (q : Key) (e : Key × Entry) (rest : Option Entry) (b : Bool)
    → (b ≡ true → q ≡ e.0)
    → test e ≡ true
    → IfSome rest (λ v. test (q, v) ≡ true)
    → IfSome (cond b (Some e.1) rest) (λ v. test (q, v) ≡ true)
found_one test q e rest true same here behind = subst (λ (k : Key). test (k, e.1) ≡ true) (sym (same refl)) here
found_one test q e rest false same here behind = behind

found : (test : Key × Entry → Bool) (q : Key) (es : List (Key × Entry))
    → list_all test es ≡ true
    → IfSome (find key_order q es) (λ v. test (q, v) ≡ true)
found test q [] h = tt
found test q (e ∷ es) h =
    let parts = and_parts (test e) (list_all test es) h in
    found_one test q e (find key_order q es) (eq_by_cmp key_order q e.0) (same_key q e.0) parts.0 (found test q es parts.1)

some_then : (o : Option Entry) (P Q : Entry → Type 0) → ((v : Entry) → P v → Q v) → IfSome o P → IfSome o Q
some_then None P Q f p = tt
some_then (Some v) P Q f p = f v p

same_rank : (p q : Place) → (place_rank p == place_rank q) ≡ true → p ≡ q
same_rank p q e =
    sym (place_ranked-rank p) ∙ ap place_ranked (eqb-true (place_rank p) (place_rank q) e) ∙ place_ranked-rank q

abbrev is_placed_entry : Key × Entry → Bool
is_placed_entry e = place_rank (place_of e.1.1) == place_rank e.0.1

abbrev is_bounded_entry : Key × Entry → Bool
is_bounded_entry e = nat_lt 0 e.1.0 && nat_le e.1.0 highest_priority

abbrev is_no_postfix : Key × Entry → Bool
is_no_postfix e = not (place_rank e.0.1 == 2)

rows_placed : list_all is_placed_entry opening_rows ≡ true
rows_placed = refl

rows_bounded : list_all is_bounded_entry opening_rows ≡ true
rows_bounded = refl

rows_no_postfix : list_all is_no_postfix opening_rows ≡ true
rows_no_postfix = refl

opened : (q : Key) (P : Entry → Type 0) → IfSome (find key_order q opening_rows) P → IfSome (get opening_table q) P
opened q P h = subst (λ (o : Option Entry). IfSome o P) (sym (get-from_entries key_order_total opening_rows q)) h

none_from : (o : Option Entry) → IfSome o (λ _. false ≡ true) → o ≡ None
none_from None h = refl
none_from (Some v) h = absurd (false≢true h)

pub opening_sound : IsSound opening_table
opening_sound = record {
  placed = λ f p. opened (f, p) (λ e. place_of e.1 ≡ p) (
      some_then (find key_order (f, p) opening_rows) _ _ (λ v h. same_rank (place_of v.1) p h) (found is_placed_entry (f, p) opening_rows rows_placed)
      );
  bounded = λ f p. opened (f, p) (λ e. (0 < e.0) × (e.0 ≤ highest_priority)) (
      some_then (find key_order (f, p) opening_rows) _ _ (λ v h. let parts = and_parts (nat_lt 0 v.0) (nat_le v.0 highest_priority) h in (ltb-true 0 v.0 parts.0, leb-true v.0 highest_priority parts.1)) (found is_bounded_entry (f, p) opening_rows rows_bounded)
      );
  apart = λ f h. get-from_entries key_order_total opening_rows (f, Postfix) ∙ none_from (find key_order (f, Postfix) opening_rows) (found is_no_postfix (f, Postfix) opening_rows rows_no_postfix);
}

without : (b : Bool) (o : Option Entry) (P : Entry → Type 0) → IfSome o P → IfSome (cond b None o) P
without true o P h = tt
without false o P h = h

with_new : (b : Bool) (v : Entry) (o : Option Entry) (P : Entry → Type 0)
    → (b ≡ true → P v)
    → IfSome o P
    → IfSome (cond b (Some v) o) P
with_new true v o P new h = new refl
with_new false v o P new h = h

both_without : (b c : Bool) (x y : Option Entry) → (IsSome x → y ≡ None) → IsSome (cond b None x) → cond c None y ≡ None
both_without b true x y apart h = refl
both_without true false x y apart h = absurd (false≢true h)
both_without false false x y apart h = apart h

second_false : (a b : Bool) → a ≡ true → (a && b) ≡ false → b ≡ false
second_false true b e h = h
second_false false b e h = absurd (false≢true e)

none_of : (o : Option Entry) → is_some o ≡ false → o ≡ None
none_of None e = refl
none_of (Some v) e = absurd (true≢false e)

-- the cases of an infix and a postfix operator of one name, after an operator v was put at a place
apart_new : (place : Place) (b c : Bool) (x y : Option Entry) (v : Entry)
    → (b ≡ true → Infix ≡ place)
    → (c ≡ true → Postfix ≡ place)
    → (b ≡ true → y ≡ None)
    → (c ≡ true → x ≡ None)
    → (IsSome x → y ≡ None)
    → IsSome (cond b (Some v) x)
    → cond c (Some v) y ≡ None
apart_new place true true x y v before behind no_y no_x apart h =
    let one = before refl in
    let two = behind refl in
    absurd (cc)
apart_new place true false x y v before behind no_y no_x apart h = no_y refl
apart_new place false true x y v before behind no_y no_x apart h = absurd (false≢true (subst (λ (o : Option Entry). IsSome o) (no_x refl) h))
apart_new place false false x y v before behind no_y no_x apart h = apart h

zero_or_more : (p : ℕ) → (p ≡ 0) ⊎ (0 < p)
zero_or_more p = elim (cases_lt 0 p) [ inl l ↦ inr l | inr l ↦ inl (omega arith) ]

-- a test that does not refuse
passed : (b : Bool) (r : Refusal) (rest : Option Refusal) → (if b then Some r else rest) ≡ None → (b ≡ false) × (rest ≡ None)
passed true r rest e = absurd (cc)
passed false r rest e = (refl, e)

module _ (t : OperatorTable) (p : ℕ) (k : Kind) (f : Chars) (sound : IsSound t) (allowed : refusal t p (Some k) f ≡ None) where
  abbrev key : Key
  key = (f, place_of k)

  low : p ≤ highest_priority
  low = ltb-false highest_priority p (passed (nat_lt highest_priority p) priority _ allowed).0

  not_beside : 0 < p → stands_beside t f (place_of k) ≡ false
  not_beside pos =
      let one = (passed (nat_lt highest_priority p) priority _ allowed).1 in
      let two = (passed (bytes_eq f (codes ",")) comma _ one).1 in
      let three = (passed (is_reserved f) reserved _ two).1 in
      let four = (passed (nat_lt 0 p && stands_beside t f (place_of k)) infix_postfix None three).0 in
      second_false (nat_lt 0 p) (stands_beside t f (place_of k)) (lt-ltb 0 p pos) four

  -- what is said of each entry stays, where the new one has it
  kept_remove : (P : Place → Entry → Type 0)
      → ((g : Chars) (q : Place) → IfSome (get t (g, q)) (P q))
      → (g : Chars) (q : Place) → IfSome (get (finite.remove t key) (g, q)) (P q)
  kept_remove P h g q =
      subst (λ (o : Option Entry). IfSome o (P q)) (sym (get-remove key_order_total t key (g, q))) (
      without (eq_by_cmp key_order (g, q) key) (get t (g, q)) (P q) (h g q)
      )

  kept_insert : (P : Place → Entry → Type 0)
      → P (place_of k) (p, k)
      → ((g : Chars) (q : Place) → IfSome (get t (g, q)) (P q))
      → (g : Chars) (q : Place) → IfSome (get (finite.insert t key (p, k)) (g, q)) (P q)
  kept_insert P new h g q =
      subst (λ (o : Option Entry). IfSome o (P q)) (sym (get-insert key_order_total t key (p, k) (g, q))) (
      with_new (eq_by_cmp key_order (g, q) key) (p, k) (get t (g, q)) (P q)
      (λ e. subst (λ (x : Place). P x (p, k)) (sym (ap (λ (x : Key). x.1) (same_key (g, q) key e))) new)
      (h g q)
      )

  apart_remove : (g : Chars) → IsSome (get (finite.remove t key) (g, Infix)) → get (finite.remove t key) (g, Postfix) ≡ None
  apart_remove g h =
      get-remove key_order_total t key (g, Postfix)
      ∙ both_without
      (eq_by_cmp key_order (g, Infix) key)
      (eq_by_cmp key_order (g, Postfix) key)
      (get t (g, Infix))
      (get t (g, Postfix))
      (sound.apart g)
      (subst (λ (o : Option Entry). IsSome o) (get-remove key_order_total t key (g, Infix)) h)

  apart_insert : 0 < p → (g : Chars)
      → IsSome (get (finite.insert t key (p, k)) (g, Infix))
      → get (finite.insert t key (p, k)) (g, Postfix) ≡ None
  apart_insert pos g h =
      let alone : (place : Place) → place_of k ≡ place → stands_beside t f place ≡ false =
      λ place e. ap (stands_beside t f) (sym e) ∙ not_beside pos in
      get-insert key_order_total t key (p, k) (g, Postfix)
      ∙ apart_new
      (place_of k)
      (eq_by_cmp key_order (g, Infix) key)
      (eq_by_cmp key_order (g, Postfix) key)
      (get t (g, Infix))
      (get t (g, Postfix))
      (p, k)
      (λ e. ap (λ (x : Key). x.1) (same_key (g, Infix) key e))
      (λ e. ap (λ (x : Key). x.1) (same_key (g, Postfix) key e))
      (λ e.
      let same = same_key (g, Infix) key e in
      ap (λ (n : Chars). get t (n, Postfix)) (ap (λ (x : Key). x.0) same)
      ∙ none_of (get t (f, Postfix)) (alone Infix (sym (ap (λ (x : Key). x.1) same))))
      (λ e.
      let same = same_key (g, Postfix) key e in
      ap (λ (n : Chars). get t (n, Infix)) (ap (λ (x : Key). x.0) same)
      ∙ none_of (get t (f, Infix)) (alone Postfix (sym (ap (λ (x : Key). x.1) same))))
      (sound.apart g)
      (subst (λ (o : Option Entry). IsSome o) (get-insert key_order_total t key (p, k) (g, Infix)) h)

  removed_sound : IsSound (finite.remove t key)
  removed_sound = record {
    placed = λ g q. kept_remove (λ q e. place_of e.1 ≡ q) sound.placed g q;
    bounded = λ g q. kept_remove (λ q e. (0 < e.0) × (e.0 ≤ highest_priority)) sound.bounded g q;
    apart = apart_remove;
  }

  inserted_sound : 0 < p → IsSound (finite.insert t key (p, k))
  inserted_sound pos = record {
    placed = λ g q. kept_insert (λ q e. place_of e.1 ≡ q) refl sound.placed g q;
    bounded = λ g q. kept_insert (λ q e. (0 < e.0) × (e.0 ≤ highest_priority)) (pos, low) sound.bounded g q;
    apart = apart_insert pos;
  }

  pub changed_sound : IsSound (changed t p k f)
  changed_sound =
      elim (zero_or_more p) [
        | inl zero ↦ subst (λ (b : Bool). IsSound (if b then finite.remove t key else finite.insert t key (p, k))) (sym (eq-eqb p 0 zero)) removed_sound
        | inr pos ↦ subst (λ (b : Bool). IsSound (if b then finite.remove t key else finite.insert t key (p, k))) (sym (ne_eqb p 0 (λ e. omega (arith, e, pos)))) (inserted_sound pos)
      ]
