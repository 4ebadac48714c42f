-- Lists of numbers, each kept once where it first stands.
use Rattle.std.proofs.Common.{◌≡◌, ◌<◌, ◌==◌, ◌||◌, ℕ, suc, zero, Bool, true, false, not, cond, List, [], ◌∷◌, ◌++◌, length, get_or, refl, sym, ◌∙◌, ap, arith, ⊎_elim, ◌⊎◌, inl, inr, append-nil}
use Rattle.std.proofs.lemmas.Bool.{cases_eq, eq-eqb, ne_eqb, eqb-true}
use Rattle.std.proofs.lemmas.List.Elements.{filter-append}
use Rattle.pl_term.specs.Variables.{is_in, place, without, distinct}
use Rattle.pl_term.specs.NodeLists.{with}

pub is_in-append : (x : ℕ) (xs ys : List ℕ) → is_in x (xs ++ ys) ≡ (is_in x xs || is_in x ys)
is_in-append x [] ys = refl
is_in-append x (z ∷ zs) ys =
    elim (x == z) as (λ b. (b || is_in x (zs ++ ys)) ≡ ((b || is_in x zs) || is_in x ys)) [
      | true ↦ refl
      | false ↦ is_in-append x zs ys
    ]

-- The place of a member stays where others come after.
pub place-append : (x : ℕ) (xs ys : List ℕ) → is_in x xs ≡ true → place x (xs ++ ys) ≡ place x xs
place-append x [] ys e = cc
place-append x (z ∷ zs) ys e =
    let step : (b : Bool) → (b || is_in x zs) ≡ true → cond b zero (suc (place x (zs ++ ys))) ≡ cond b zero (suc (place x zs)) =
    λ b. elim b as (λ b. (b || is_in x zs) ≡ true → cond b zero (suc (place x (zs ++ ys))) ≡ cond b zero (suc (place x zs))) [
      | true ↦ λ h. refl
      | false ↦ λ h. ap suc (place-append x zs ys h)
    ] in
    step (x == z) e

-- A number that is not in the list has its place after it.
pub place-push : (x : ℕ) (xs : List ℕ) → is_in x xs ≡ false → place x (xs ++ x ∷ []) ≡ length xs
place-push x [] e = rw (eq-eqb x x refl)
place-push x (z ∷ zs) e =
    let step : (b : Bool) → (b || is_in x zs) ≡ false → cond b zero (suc (place x (zs ++ x ∷ []))) ≡ suc (length zs) =
    λ b. elim b as (λ b. (b || is_in x zs) ≡ false → cond b zero (suc (place x (zs ++ x ∷ []))) ≡ suc (length zs)) [
      | true ↦ λ h. cc
      | false ↦ λ h. ap suc (place-push x zs h)
    ] in
    step (x == z) e

pub place-below : (x : ℕ) (xs : List ℕ) → is_in x xs ≡ true → place x xs < length xs
place-below x [] e = cc
place-below x (z ∷ zs) e =
    let step : (b : Bool) → (b || is_in x zs) ≡ true → cond b zero (suc (place x zs)) < suc (length zs) =
    λ b. elim b as (λ b. (b || is_in x zs) ≡ true → cond b zero (suc (place x zs)) < suc (length zs)) [
      | true ↦ λ h. omega arith
      | false ↦ λ h. omega (arith, place-below x zs h)
    ] in
    step (x == z) e

-- A member stands at its place.
pub get_or-place : (x : ℕ) (xs : List ℕ) → is_in x xs ≡ true → get_or xs (place x xs) 0 ≡ x
get_or-place x [] e = cc
get_or-place x (z ∷ zs) e =
    let step : (b : Bool) → (x == z) ≡ b → (b || is_in x zs) ≡ true → get_or (z ∷ zs) (cond b zero (suc (place x zs))) 0 ≡ x =
    λ b. elim b as (λ b. (x == z) ≡ b → (b || is_in x zs) ≡ true → get_or (z ∷ zs) (cond b zero (suc (place x zs))) 0 ≡ x) [
      | true ↦ λ p h. sym (eqb-true x z p)
      | false ↦ λ p h. get_or-place x zs h
    ] in
    step (x == z) refl e

-- Another number stays in the list.
pub is_in-without : (x z : ℕ) (ys : List ℕ) → (z == x) ≡ false → is_in z (without x ys) ≡ is_in z ys
is_in-without x z [] e = refl
is_in-without x z (y ∷ ys) e =
    let step : (b : Bool) → (x == y) ≡ b → is_in z (cond (not b) (y ∷ without x ys) (without x ys)) ≡ is_in z (y ∷ ys) =
    λ b. elim b as (λ b. (x == y) ≡ b → is_in z (cond (not b) (y ∷ without x ys) (without x ys)) ≡ is_in z (y ∷ ys)) [
      | true ↦ λ p. is_in-without x z ys e ∙ ap (λ q. q || is_in z ys) (sym e ∙ ap (λ w. z == w) (eqb-true x y p))
      | false ↦ λ p. ap (λ q. (z == y) || q) (is_in-without x z ys e)
    ] in
    step (x == y) refl

pub is_in-distinct : (z : ℕ) (xs : List ℕ) → is_in z (distinct xs) ≡ is_in z xs
is_in-distinct z [] = refl
is_in-distinct z (x ∷ xs) =
    let step : (b : Bool) → (z == x) ≡ b → (b || is_in z (without x (distinct xs))) ≡ (b || is_in z xs) =
    λ b. elim b as (λ b. (z == x) ≡ b → (b || is_in z (without x (distinct xs))) ≡ (b || is_in z xs)) [
      | true ↦ λ p. refl
      | false ↦ λ p. is_in-without x z (distinct xs) p ∙ is_in-distinct z xs
    ] in
    step (z == x) refl

eqb_comm : (x y : ℕ) → (x == y) ≡ (y == x)
eqb_comm x y =
    ⊎_elim
    (λ e. eq-eqb x y e ∙ sym (eq-eqb y x (sym e)))
    (λ ne. ne_eqb x y ne ∙ sym (ne_eqb y x (λ e. ne (sym e))))
    (cases_eq x y)

without-one : (x y : ℕ) (b : Bool) → (x == y) ≡ b → without y (x ∷ []) ≡ cond b [] (x ∷ [])
without-one x y true e = rw (eqb_comm y x ∙ e)
without-one x y false e = rw (eqb_comm y x ∙ e)

without-push : (x y : ℕ) (ys : List ℕ) (b : Bool)
    → (x == y) ≡ b
    → without y (ys ++ x ∷ []) ≡ without y ys ++ cond b [] (x ∷ [])
without-push x y ys b e =
    filter-append (λ z. not (y == z)) ys (x ∷ []) ∙ ap (λ zs. without y ys ++ zs) (without-one x y b e)

without-with_by : (x y : ℕ) (ys : List ℕ) (b c d : Bool)
    → (x == y) ≡ b
    → d ≡ c ⊎ b ≡ true
    → y ∷ without y (cond c ys (ys ++ x ∷ [])) ≡ cond (b || d) (y ∷ without y ys) (y ∷ without y ys ++ x ∷ [])
without-with_by x y ys true true d p q = refl
without-with_by x y ys true false d p q =
    ap (λ zs. y ∷ zs) (without-push x y ys true p ∙ append-nil (without y ys))
without-with_by x y ys false c d p (inr q) = cc
without-with_by x y ys false true d p (inl q) = rw q
without-with_by x y ys false false d p (inl q) = rw q (ap (λ zs. y ∷ zs) (without-push x y ys false p))

without-with : (x y : ℕ) (ys : List ℕ) → y ∷ without y (with x ys) ≡ with x (y ∷ without y ys)
without-with x y ys =
    let kept : (b : Bool) → (x == y) ≡ b → is_in x (without y ys) ≡ is_in x ys ⊎ b ≡ true =
    λ b. elim b as (λ b. (x == y) ≡ b → is_in x (without y ys) ≡ is_in x ys ⊎ b ≡ true) [
      | true ↦ λ p. inr refl
      | false ↦ λ p. inl (is_in-without y x ys p)
    ] in
    without-with_by x y ys (x == y) (is_in x ys) (is_in x (without y ys)) refl (kept (x == y) refl)

pub distinct-push : (xs : List ℕ) (x : ℕ) → distinct (xs ++ x ∷ []) ≡ with x (distinct xs)
distinct-push [] x = refl
distinct-push (y ∷ ys) x = ap (λ zs. y ∷ without y zs) (distinct-push ys x) ∙ without-with x y (distinct ys)

-- What is distinct in the front of a list is the front of what is distinct in the list.
pub distinct-append : (xs ys : List ℕ) → (zs : List ℕ) × (distinct (xs ++ ys) ≡ distinct xs ++ zs)
distinct-append [] ys = (distinct ys, refl)
distinct-append (x ∷ xs) ys =
    let (zs, e) = distinct-append xs ys in
    (without x zs, ap (λ us. x ∷ without x us) e ∙ ap (λ us. x ∷ us) (filter-append (λ z. not (x == z)) (distinct xs) zs))
