-- The variables met so far, as a list and as a map from each to its place.
use Rattle.std.proofs.Common.{◌≡◌, ◌<◌, ◌≤◌, ◌+◌, ◌==◌, ◌||◌, ℕ, suc, Bool, true, false, cond, Some, None, List, [], ◌∷◌, ◌++◌, length, get_or, drop, refl, sym, ◌∙◌, ap, arith, ⊎_elim, drop-cons, add-one}
use Rattle.std.proofs.lemmas.Bool.{cases_eq, eq-eqb, ne_eqb}
use Rattle.std.proofs.lemmas.Bool.Decides.{nat_tests}
use Rattle.std.proofs.lemmas.List.{drop_all}
use Rattle.std.specs.Ordering.{nat_cmp, is_eq}
use Rattle.pl_term.specs.declared.node.Node.{Node}
use Rattle.pl_term.specs.declared.node.Node.TheVariants.{Var, Int, Atom, Comp}
use Rattle.pl_term.specs.Variables.{is_in, place}
use Rattle.pl_term.specs.NodeLists.{variables_of, with, place_if}
use Rattle.pl_term.proofs.TextOrder.{nat_cmp-same}
use Rattle.pl_term.proofs.Distinct.{place-append, place-push, place-below}

is_eq-same : (x q : ℕ) → x ≡ q → is_eq (nat_cmp x q) ≡ true
is_eq-same x q e = rw (nat_cmp-same x q e)

is_eq-apart : (x q : ℕ) → (x ≡ q → ⊥) → is_eq (nat_cmp x q) ≡ false
is_eq-apart x q ne = grind (arith, nat_tests)

is_in-last : (x : ℕ) (xs : List ℕ) → is_in x (xs ++ x ∷ []) ≡ true
is_in-last x [] = rw (eq-eqb x x refl)
is_in-last x (y ∷ ys) =
    elim (x == y) as (λ b. (b || is_in x (ys ++ x ∷ [])) ≡ true) [
      | true ↦ refl
      | false ↦ is_in-last x ys
    ]

is_in-other : (q x : ℕ) (xs : List ℕ) → (x ≡ q → ⊥) → is_in q (xs ++ x ∷ []) ≡ is_in q xs
is_in-other q x [] ne = rw (ne_eqb q x (λ e. ne (sym e)))
is_in-other q x (y ∷ ys) ne = ap (λ b. (q == y) || b) (is_in-other q x ys ne)

-- The number that joins a list is in it.
pub is_in-with : (x : ℕ) (xs : List ℕ) → is_in x (with x xs) ≡ true
is_in-with x xs =
    let step : (b : Bool) → is_in x xs ≡ b → is_in x (cond b xs (xs ++ x ∷ [])) ≡ true =
    λ b. elim b as (λ b. is_in x xs ≡ b → is_in x (cond b xs (xs ++ x ∷ [])) ≡ true) [
      | true ↦ λ e. e
      | false ↦ λ e. is_in-last x xs
    ] in
    step (is_in x xs) refl

pub place-with : (x : ℕ) (xs : List ℕ) → place x (with x xs) < length (with x xs)
place-with x xs = place-below x (with x xs) (is_in-with x xs)

pub absent : (x : ℕ) (xs : List ℕ) → place_if x xs ≡ None → is_in x xs ≡ false
absent x xs e =
    let step : (b : Bool) → cond b (Some (place x xs)) None ≡ None → b ≡ false =
    λ b. elim b as (λ b. cond b (Some (place x xs)) None ≡ None → b ≡ false) [
      | true ↦ λ h. cc
      | false ↦ λ h. refl
    ] in
    step (is_in x xs) e

pub present : (x n : ℕ) (xs : List ℕ) → place_if x xs ≡ Some n → (is_in x xs ≡ true) × (n ≡ place x xs)
present x n xs e =
    let step : (b : Bool) → cond b (Some (place x xs)) None ≡ Some n → (b ≡ true) × (n ≡ place x xs) =
    λ b. elim b as (λ b. cond b (Some (place x xs)) None ≡ Some n → (b ≡ true) × (n ≡ place x xs)) [
      | true ↦ λ h. (refl, cc)
      | false ↦ λ h. cc
    ] in
    step (is_in x xs) e

place_if-other : (q x : ℕ) (xs : List ℕ) → (x ≡ q → ⊥) → place_if q (xs ++ x ∷ []) ≡ place_if q xs
place_if-other q x xs ne =
    let step : (b : Bool) → is_in q xs ≡ b → cond b (Some (place q (xs ++ x ∷ []))) None ≡ cond b (Some (place q xs)) None =
    λ b. elim b as (λ b. is_in q xs ≡ b → cond b (Some (place q (xs ++ x ∷ []))) None ≡ cond b (Some (place q xs)) None) [
      | true ↦ λ e. ap Some (place-append q xs (x ∷ []) e)
      | false ↦ λ e. refl
    ] in
    ap (λ b. cond b (Some (place q (xs ++ x ∷ []))) None) (is_in-other q x xs ne) ∙ step (is_in q xs) refl

place_if-last : (x : ℕ) (xs : List ℕ) → is_in x xs ≡ false → place_if x (xs ++ x ∷ []) ≡ Some (length xs)
place_if-last x xs e = rw (is_in-last x xs) (ap Some (place-push x xs e))

-- The map gains the number that joins the list.
pub place_if-push : (q x n : ℕ) (xs : List ℕ)
    → is_in x xs ≡ false
    → n ≡ length xs
    → cond (is_eq (nat_cmp x q)) (Some n) (place_if q xs) ≡ place_if q (xs ++ x ∷ [])
place_if-push q x n xs absent is =
    ⊎_elim
    (λ e. ap (λ b. cond b (Some n) (place_if q xs)) (is_eq-same x q e)
    ∙ ap Some is
    ∙ sym (place_if-last x xs absent)
    ∙ ap (λ z. place_if z (xs ++ x ∷ [])) e)
    (λ ne. ap (λ b. cond b (Some n) (place_if q xs)) (is_eq-apart x q ne) ∙ sym (place_if-other q x xs ne))
    (cases_eq x q)

-- After a node that is another one the variable occurs or not as before.
not_here : (x : ℕ) (n : Node) (ns : List Node)
    → (n ≡ Var x → ⊥)
    → is_in x (variables_of (n ∷ ns)) ≡ is_in x (variables_of ns)
not_here x (Var y) ns ne = ap (λ b. b || is_in x (variables_of ns)) (ne_eqb x y (λ e. ne (ap Var (sym e))))
not_here x (Int i) ns ne = refl
not_here x (Atom a) ns ne = refl
not_here x (Comp f k) ns ne = refl

pub occurs_step : (x : ℕ) (ns : List Node) (i : ℕ) (n : Node)
    → i < length ns
    → n ≡ get_or ns i n
    → (n ≡ Var x → ⊥)
    → is_in x (variables_of (drop i ns)) ≡ is_in x (variables_of (drop (i + 1) ns))
occurs_step x ns i n h is ne =
    ap (λ ms. is_in x (variables_of ms)) (drop-cons ns i n h ∙ ap (λ m. m ∷ drop (suc i) ns) (sym is))
    ∙ not_here x n (drop (suc i) ns) ne
    ∙ ap (λ j. is_in x (variables_of (drop j ns))) (sym (add-one i))

pub occurs_found : (x : ℕ) (ns : List Node) (i : ℕ) (n : Node)
    → i < length ns
    → n ≡ get_or ns i n
    → n ≡ Var x
    → is_in x (variables_of (drop i ns)) ≡ true
occurs_found x ns i n h is here =
    ap (λ ms. is_in x (variables_of ms)) (drop-cons ns i n h ∙ ap (λ m. m ∷ drop (suc i) ns) (sym is ∙ here))
    ∙ ap (λ b. b || is_in x (variables_of (drop (suc i) ns))) (eq-eqb x x refl)

pub occurs_end : (x : ℕ) (ns : List Node) (i : ℕ) → length ns ≤ i → is_in x (variables_of (drop i ns)) ≡ false
occurs_end x ns i h = ap (λ ms. is_in x (variables_of ms)) (drop_all i ns h)
