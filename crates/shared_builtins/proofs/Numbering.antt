-- Terms whose variables are numbered from 0 on.
use Rattle.std.proofs.Common.{◌≡◌, ◌==◌, ◌||◌, ℕ, zero, ◌+◌, true, false, not, cond, List, [], ◌∷◌, map, get_or, length, refl, sym, ◌∙◌, ap, ⊎_elim, arith}
use Rattle.std.proofs.lemmas.Bool.{eq-eqb, ne_eqb, cases_eq, or_right}
use Rattle.std.proofs.lemmas.List.{length-map}
use Rattle.pl_term.specs.Tree.{Tree}
use Rattle.pl_term.specs.Variables.{is_in, place, without, distinct, occurrences, variables, rename}
use Rattle.pl_term.specs.Variant.{IsVariant}
use Rattle.pl_term.proofs.Distinct.{is_in-distinct, get_or-place}
use Rattle.pl_term.proofs.Renaming.{rename_none, rename_same, occurrences-rename_by}
use Rattle.pl_term.proofs.Variants.{numbered, same_from_variant}

-- Each number of the list comes back.
abbrev Returns : (ℕ → ℕ) → (ℕ → ℕ) → List ℕ → Type 0
Returns to back [] = Unit {0}
Returns to back (x ∷ xs) = (back (to x) ≡ x) × Returns to back xs

returns_from : (to back : ℕ → ℕ) (xs : List ℕ)
    → ((x : ℕ) → is_in x xs ≡ true → back (to x) ≡ x)
    → Returns to back xs
returns_from to back [] h = tt
returns_from to back (y ∷ ys) h = (
  h y (ap (λ b. b || is_in y ys) (eq-eqb y y refl)),
  returns_from to back ys (λ x e. h x (or_right (x == y) (is_in x ys) e)),
)

Returns-without : (to back : ℕ → ℕ) (x : ℕ) (ys : List ℕ) → Returns to back ys → Returns to back (without x ys)
Returns-without to back x [] r = tt
Returns-without to back x (y ∷ ys) r =
    elim (x == y) as (λ b. Returns to back (cond (not b) (y ∷ without x ys) (without x ys))) [
      | true ↦ Returns-without to back x ys r.1
      | false ↦ (r.0, Returns-without to back x ys r.1)
    ]

Returns-distinct : (to back : ℕ → ℕ) (xs : List ℕ) → Returns to back xs → Returns to back (distinct xs)
Returns-distinct to back [] r = tt
Returns-distinct to back (x ∷ xs) r =
    (r.0, Returns-without to back x (distinct xs) (Returns-distinct to back xs r.1))

eqb-to : (to back : ℕ → ℕ) (x y : ℕ) → back (to x) ≡ x → back (to y) ≡ y → (to x == to y) ≡ (x == y)
eqb-to to back x y p q =
    ⊎_elim
    (λ e. eq-eqb (to x) (to y) (ap to e) ∙ sym (eq-eqb x y e))
    (λ ne. ne_eqb (to x) (to y) (λ e. ne (sym p ∙ ap back e ∙ q)) ∙ sym (ne_eqb x y ne))
    (cases_eq x y)

without-map : (to back : ℕ → ℕ) (x : ℕ) (ys : List ℕ)
    → back (to x) ≡ x
    → Returns to back ys
    → without (to x) (map to ys) ≡ map to (without x ys)
without-map to back x [] p r = refl
without-map to back x (y ∷ ys) p r =
    ap
    (λ b. cond (not b) (to y ∷ without (to x) (map to ys)) (without (to x) (map to ys)))
    (eqb-to to back x y p r.0)
    ∙ elim (x == y) as
    (λ b. cond (not b) (to y ∷ without (to x) (map to ys)) (without (to x) (map to ys))
    ≡ map to (cond (not b) (y ∷ without x ys) (without x ys))) [
      | true ↦ without-map to back x ys p r.1
      | false ↦ ap (λ zs. to y ∷ zs) (without-map to back x ys p r.1)
    ]

distinct-map : (to back : ℕ → ℕ) (xs : List ℕ) → Returns to back xs → distinct (map to xs) ≡ map to (distinct xs)
distinct-map to back [] r = refl
distinct-map to back (x ∷ xs) r =
    ap (λ ys. to x ∷ without (to x) ys) (distinct-map to back xs r.1)
    ∙ ap (λ ys. to x ∷ ys) (without-map to back x (distinct xs) r.0 (Returns-distinct to back xs r.1))

-- By its place among the variables of the term.
abbrev by_place : Tree → ℕ → ℕ
by_place t x = zero + place x (variables t)

abbrev from_place : Tree → ℕ → ℕ
from_place t n = get_or (variables t) n 0

placed_back : (t : Tree) (x : ℕ) → is_in x (occurrences t) ≡ true → from_place t (by_place t x) ≡ x
placed_back t x e =
    let n : zero + place x (variables t) ≡ place x (variables t) = omega arith in
    ap (from_place t) n ∙ get_or-place x (variables t) (is_in-distinct x (occurrences t) ∙ e)

pub variables-renamed : (t : Tree) → length (variables (rename zero t)) ≡ length (variables t)
variables-renamed t =
    ap (λ xs. length (distinct xs)) (occurrences-rename_by (by_place t) t)
    ∙ ap length (distinct-map (by_place t) (from_place t) (occurrences t) (returns_from (by_place t) (from_place t) (occurrences t) (placed_back t)))
    ∙ length-map (variables t) (by_place t)

renamed_variant : (t : Tree) → IsVariant t (rename zero t)
renamed_variant t = record { to = by_place t; back = from_place t; becomes = refl; one_to_one = λ x h. placed_back t x h }

numbered_is : (t : Tree) → rename zero t ≡ numbered t
numbered_is t = rename_same (by_place t) (λ x. place x (variables t)) t (λ x e. omega arith)

pub renamed_again : (t : Tree) → rename zero (rename zero t) ≡ rename zero t
renamed_again t = numbered_is (rename zero t) ∙ sym (same_from_variant t (rename zero t) (renamed_variant t)) ∙ sym (numbered_is t)

-- A term without variables is numbered as it is.
pub renamed_none : (t : Tree) → variables t ≡ [] → rename zero t ≡ t
renamed_none t none_there =
    rename_same (by_place t) (λ x. x) t
    (λ x e. let never : false ≡ true = sym (ap (is_in x) none_there) ∙ is_in-distinct x (occurrences t) ∙ e in cc)
    ∙ rename_none t

pub no_members : (xs : List ℕ) → length xs ≡ 0 → xs ≡ []
no_members [] e = refl
no_members (x ∷ xs) e = absurd (omega arith)
