-- Entries in the order of their keys: where a key stands, and what a change of one key is at its place.
use Rattle.std.proofs.Common.{◌≡◌, ℕ, zero, suc, ◌+◌, ◌<◌, ◌≤◌, Bool, true, false, cond, List, [], ◌∷◌, length, set, Some, None, refl, sym, ap, subst, ◌∙◌, arith, inl, inr}
use Rattle.std.specs.Prelude.{not, T, ◌&&◌}
use Rattle.std.specs.List.{slice_get, insert, remove}
use Rattle.std.specs.Ordering.{is_lt, is_eq, eq_by_cmp, ordering_reverse}
use Rattle.std.specs.Cmp.{IsTotalOrder}
use Rattle.std.specs.declared.cmp.Ordering.{Ordering}
use Rattle.std.specs.declared.cmp.Ordering.TheVariants.{Less, Equal, Greater}
use Rattle.std.proofs.lemmas.Bool.{cases_lt}
use Rattle.std.proofs.lemmas.Option.{none-some, same_Some}
use Rattle.std.specs.FinMap.Entries.{find, put, is_sorted, below_all, where_key, by_order}

first : (a b : Bool) → T (a && b) → T a
first true b p = tt
first false b p = p

second : (a b : Bool) → T (a && b) → T b
second true b p = p
second false b p = absurd p

less : (o : Ordering) → T (is_lt o) → o ≡ Less
less Less p = refl
less Equal p = absurd p
less Greater p = absurd p

module _ {K : Type 0} {R : K → K → Ordering} (o : IsTotalOrder R) where
  greater : (x y : K) → R x y ≡ Less → R y x ≡ Greater
  greater x y h = o.antisymm y x ∙ ap ordering_reverse h

  lesser : (x y : K) → R x y ≡ Greater → R y x ≡ Less
  lesser x y h = o.antisymm y x ∙ ap ordering_reverse h

module _ {K X : Type 0} (R : K → K → Ordering) where
  -- the keys before a place are below the key, and those from it on above
  abbrev pub Before : K → List (K × X) → ℕ → Type 0
  Before k es i = (j : ℕ) (e : K × X) → j < i → slice_get es j ≡ Some e → R k e.0 ≡ Greater

  abbrev pub Behind : K → List (K × X) → ℕ → Type 0
  Behind k es i = (j : ℕ) (e : K × X) → i ≤ j → slice_get es j ≡ Some e → R k e.0 ≡ Less

  below_at : (x : K) (es : List (K × X)) (j : ℕ) (e : K × X) → T (below_all R x es) → slice_get es j ≡ Some e → R x e.0 ≡ Less
  below_at x [] j e h g = absurd (none-some e g)
  below_at x (d ∷ es) zero e h g = subst (λ (y : K × X). R x y.0 ≡ Less) (same_Some d e g) (less _ (first _ _ h))
  below_at x (d ∷ es) (suc j) e h g = below_at x es j e (second _ _ h) g

  -- of two entries the one that stands first has the lesser key
  apart : (es : List (K × X)) (i j : ℕ) (d e : K × X)
      → T (is_sorted R es)
      → i < j
      → slice_get es i ≡ Some d
      → slice_get es j ≡ Some e
      → R d.0 e.0 ≡ Less
  apart [] i j d e h l g f = absurd (none-some d g)
  apart (x ∷ es) zero zero d e h l g f = absurd (omega arith)
  apart (x ∷ es) zero (suc j) d e h l g f =
      subst (λ (y : K × X). R y.0 e.0 ≡ Less) (same_Some x d g) (below_at x.0 es j e (first _ _ h) f)
  apart (x ∷ es) (suc i) zero d e h l g f = absurd (omega arith)
  apart (x ∷ es) (suc i) (suc j) d e h l g f = apart es i j d e (second _ _ h) (omega arith) g f

  -- no key is the key
  none_found : (k : K) (es : List (K × X))
      → ((j : ℕ) (e : K × X) → slice_get es j ≡ Some e → is_eq (R k e.0) ≡ false)
      → find R k es ≡ None
  none_found k [] h = refl
  none_found k (d ∷ es) h =
      ap (λ (b : Bool). cond b (Some d.1) (find R k es)) (h zero d refl)
      ∙ none_found k es (λ j e g. h (suc j) e g)

  none_dropped : (k : K) (es : List (K × X))
      → ((j : ℕ) (e : K × X) → slice_get es j ≡ Some e → is_eq (R k e.0) ≡ false)
      → where_key R (λ x. not (eq_by_cmp R k x)) es ≡ es
  none_dropped k [] h = refl
  none_dropped k (d ∷ es) h =
      let rest : List (K × X) = where_key R (λ x. not (eq_by_cmp R k x)) es in
      ap (λ (b : Bool). cond (not b) (d ∷ rest) rest) (h zero d refl)
      ∙ ap (λ (r : List (K × X)). d ∷ r) (none_dropped k es (λ j e g. h (suc j) e g))

  module _ (k : K) where
    apart_here : (es : List (K × X)) (i : ℕ) → Before k es i → Behind k es i
        → (j : ℕ) (e : K × X) → slice_get es j ≡ Some e → is_eq (R k e.0) ≡ false
    apart_here es i before behind j e g =
        elim (cases_lt j i) [ inl l ↦ ap is_eq (before j e l g) | inr l ↦ ap is_eq (behind j e l g) ]

    pub find-gap : (es : List (K × X)) (i : ℕ) → Before k es i → Behind k es i → find R k es ≡ None
    find-gap es i before behind = none_found k es (apart_here es i before behind)

    pub drop-gap : (es : List (K × X)) (i : ℕ) → Before k es i → Behind k es i
        → where_key R (λ x. not (eq_by_cmp R k x)) es ≡ es
    drop-gap es i before behind = none_dropped k es (apart_here es i before behind)

    pub put-gap : (v : X) (es : List (K × X)) (i : ℕ) → i ≤ length es → Before k es i → Behind k es i
        → put R k v es ≡ insert es i (k, v)
    put-gap v [] zero w before behind = refl
    put-gap v [] (suc i) w before behind = absurd (omega arith)
    put-gap v (d ∷ es) zero w before behind =
        ap (λ (r : Ordering). by_order r ((k, v) ∷ d ∷ es) ((d.0, v) ∷ es) (d ∷ put R k v es)) (behind zero d (omega arith) refl)
    put-gap v (d ∷ es) (suc i) w before behind =
        ap (λ (r : Ordering). by_order r ((k, v) ∷ d ∷ es) ((d.0, v) ∷ es) (d ∷ put R k v es)) (before zero d (omega arith) refl)
        ∙ ap
        (λ (r : List (K × X)). d ∷ r)
        (put-gap v es i (omega arith) (λ j e l g. before (suc j) e (omega arith) g) (λ j e l g. behind (suc j) e (omega arith) g))

  module _ (o : IsTotalOrder R) where
    -- where a key is below the one looked for, so are all before it
    pub before_more : (k : K) (es : List (K × X)) (m : ℕ) (e : K × X)
        → T (is_sorted R es)
        → slice_get es m ≡ Some e
        → R k e.0 ≡ Greater
        → Before k es (m + 1)
    before_more k es m e h g is j d l f =
        elim (cases_lt j m) [
          | inl below ↦ greater o d.0 k (o.trans d.0 e.0 k (apart es j m d e h below f g) (lesser o k e.0 is))
          | inr above ↦
              let here : j ≡ m = omega arith in
              let same : d ≡ e = same_Some d e (sym f ∙ ap (slice_get es) here ∙ g) in
              subst (λ (y : K × X). R k y.0 ≡ Greater) (sym same) is
        ]

    -- where a key is above the one looked for, so are all after it
    pub behind_more : (k : K) (es : List (K × X)) (m : ℕ) (e : K × X)
        → T (is_sorted R es)
        → slice_get es m ≡ Some e
        → R k e.0 ≡ Less
        → Behind k es m
    behind_more k es m e h g is j d l f =
        elim (cases_lt m j) [
          | inl below ↦ o.trans k e.0 d.0 is (apart es m j e d h below g f)
          | inr above ↦
              let here : j ≡ m = omega arith in
              let same : d ≡ e = same_Some d e (sym f ∙ ap (slice_get es) here ∙ g) in
              subst (λ (y : K × X). R k y.0 ≡ Less) (sym same) is
        ]

    -- an entry before the one that has the key has a lesser one
    before_tied : (k : K) (d e : K × X) → R k e.0 ≡ Equal → R d.0 e.0 ≡ Less → R k d.0 ≡ Greater
    before_tied k d e tied below =
        o.congr k e.0 d.0 tied ∙ greater o d.0 e.0 below

    behind_tied : (k : K) (d e : K × X) → R k d.0 ≡ Equal → R d.0 e.0 ≡ Less → R k e.0 ≡ Less
    behind_tied k d e tied below = o.congr k d.0 e.0 tied ∙ below

    head_before : (k : K) (d e : K × X) (es : List (K × X)) (i : ℕ)
        → T (is_sorted R (d ∷ es))
        → slice_get es i ≡ Some e
        → R k e.0 ≡ Equal
        → R k d.0 ≡ Greater
    head_before k d e es i h g tied = before_tied k d e tied (below_at d.0 es i e (first _ _ h) g)

    pub find-found : (k : K) (es : List (K × X)) (i : ℕ) (e : K × X)
        → T (is_sorted R es)
        → slice_get es i ≡ Some e
        → R k e.0 ≡ Equal
        → find R k es ≡ Some e.1
    find-found k [] i e h g tied = absurd (none-some e g)
    find-found k (d ∷ es) zero e h g tied =
        let same : d ≡ e = same_Some d e g in
        subst (λ (y : K × X). find R k (y ∷ es) ≡ Some e.1) (sym same) (ap (λ (r : Ordering). cond (is_eq r) (Some e.1) (find R k es)) tied)
    find-found k (d ∷ es) (suc i) e h g tied =
        ap (λ (r : Ordering). cond (is_eq r) (Some d.1) (find R k es)) (head_before k d e es i h g tied)
        ∙ find-found k es i e (second _ _ h) g tied

    pub put-found : (k : K) (v : X) (es : List (K × X)) (i : ℕ) (e : K × X)
        → T (is_sorted R es)
        → slice_get es i ≡ Some e
        → R k e.0 ≡ Equal
        → put R k v es ≡ set es i (e.0, v)
    put-found k v [] i e h g tied = absurd (none-some e g)
    put-found k v (d ∷ es) zero e h g tied =
        let same : d ≡ e = same_Some d e g in
        subst (λ (y : K × X). put R k v (y ∷ es) ≡ (e.0, v) ∷ es) (sym same) (ap (λ (r : Ordering). by_order r ((k, v) ∷ e ∷ es) ((e.0, v) ∷ es) (e ∷ put R k v es)) tied)
    put-found k v (d ∷ es) (suc i) e h g tied =
        ap
        (λ (r : Ordering). by_order r ((k, v) ∷ d ∷ es) ((d.0, v) ∷ es) (d ∷ put R k v es))
        (head_before k d e es i h g tied)
        ∙ ap (λ (r : List (K × X)). d ∷ r) (put-found k v es i e (second _ _ h) g tied)

    pub drop-found : (k : K) (es : List (K × X)) (i : ℕ) (e : K × X)
        → T (is_sorted R es)
        → slice_get es i ≡ Some e
        → R k e.0 ≡ Equal
        → where_key R (λ x. not (eq_by_cmp R k x)) es ≡ remove es i
    drop-found k [] i e h g tied = absurd (none-some e g)
    drop-found k (d ∷ es) zero e h g tied =
        let rest : List (K × X) = where_key R (λ x. not (eq_by_cmp R k x)) es in
        let here : R k d.0 ≡ Equal = subst (λ (y : K × X). R k y.0 ≡ Equal) (sym (same_Some d e g)) tied in
        ap (λ (r : Ordering). cond (not (is_eq r)) (d ∷ rest) rest) here
        ∙ none_dropped k es (λ j f at. ap is_eq (behind_tied k d f here (below_at d.0 es j f (first _ _ h) at)))
    drop-found k (d ∷ es) (suc i) e h g tied =
        let rest : List (K × X) = where_key R (λ x. not (eq_by_cmp R k x)) es in
        ap (λ (r : Ordering). cond (not (is_eq r)) (d ∷ rest) rest) (head_before k d e es i h g tied)
        ∙ ap (λ (r : List (K × X)). d ∷ r) (drop-found k es i e (second _ _ h) g tied)
