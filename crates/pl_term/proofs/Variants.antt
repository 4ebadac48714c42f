-- Two terms are variants exactly where they are the same once their variables go by their places.
use Rattle.std.proofs.Common.{◌≡◌, ◌==◌, ◌||◌, ℕ, suc, zero, true, false, not, cond, List, [], ◌∷◌, map, get_or, refl, sym, ◌∙◌, ap, ⊎_elim}
use Rattle.std.proofs.lemmas.Bool.{eq-eqb, ne_eqb, cases_eq, or_right}
use Rattle.pl_term.specs.Tree.{Tree}
use Rattle.pl_term.specs.Variables.{is_in, place, without, distinct, occurrences, variables, rename_by}
use Rattle.pl_term.specs.Variant.{IsVariant}
use Rattle.pl_term.proofs.Distinct.{is_in-distinct, get_or-place}
use Rattle.pl_term.proofs.Renaming.{rename_same, rename_twice, rename_none, rename_agree, occurrences-rename_by}

-- The term in which a variable goes by its place among the variables.
abbrev pub numbered : Tree → Tree
numbered t = rename_by (λ x. place x (variables t)) t

-- The variable at a place.
abbrev at : List ℕ → ℕ → ℕ
at xs k = get_or xs k 0

read_back : (t : Tree) → rename_by (λ x. at (variables t) (place x (variables t))) t ≡ t
read_back t =
    rename_same
    (λ x. at (variables t) (place x (variables t)))
    (λ x. x)
    t
    (λ x e. get_or-place x (variables t) (is_in-distinct x (occurrences t) ∙ e))
    ∙ rename_none t

becomes_from : (t u : Tree) → numbered t ≡ numbered u → rename_by (λ x. at (variables u) (place x (variables t))) t ≡ u
becomes_from t u e =
    sym (rename_twice (λ x. place x (variables t)) (at (variables u)) t)
    ∙ ap (rename_by (at (variables u))) e
    ∙ rename_twice (λ x. place x (variables u)) (at (variables u)) u
    ∙ read_back u

pub variant_from : (t u : Tree) → numbered t ≡ numbered u → IsVariant t u
variant_from t u e =
    let to : ℕ → ℕ = λ x. at (variables u) (place x (variables t)) in
    let back : ℕ → ℕ = λ x. at (variables t) (place x (variables u)) in
    let there : rename_by to t ≡ u = becomes_from t u e in
    let again : rename_by (λ x. back (to x)) t ≡ rename_by (λ x. x) t =
    sym (rename_twice to back t)
    ∙ ap (rename_by back) there
    ∙ becomes_from u t (sym e)
    ∙ sym (rename_none t) in
    record {
      to = to;
      back = back;
      becomes = there;
      one_to_one = λ x h. rename_agree (λ x. back (to x)) (λ x. x) t again x h;
    }

-- Each number of the list comes back.
abbrev Returns : (ℕ → ℕ) → (ℕ → ℕ) → List ℕ → Type 0
Returns to back [] = Unit {0}
Returns to back (x ∷ xs) = (back (to x) ≡ x) × Returns to back xs

returns_from : (to back : ℕ → ℕ) (xs : List ℕ)
    → ((x : ℕ) → is_in x xs ≡ true → back (to x) ≡ x)
    → Returns to back xs
returns_from to back [] h = tt
returns_from to back (y ∷ ys) h = (
  h y (ap (λ b. b || is_in y ys) (eq-eqb y y refl)),
  returns_from to back ys (λ x e. h x (or_right (x == y) (is_in x ys) e)),
)

Returns-without : (to back : ℕ → ℕ) (x : ℕ) (ys : List ℕ) → Returns to back ys → Returns to back (without x ys)
Returns-without to back x [] r = tt
Returns-without to back x (y ∷ ys) r =
    elim (x == y) as (λ b. Returns to back (cond (not b) (y ∷ without x ys) (without x ys))) [
      | true ↦ Returns-without to back x ys r.1
      | false ↦ (r.0, Returns-without to back x ys r.1)
    ]

Returns-distinct : (to back : ℕ → ℕ) (xs : List ℕ) → Returns to back xs → Returns to back (distinct xs)
Returns-distinct to back [] r = tt
Returns-distinct to back (x ∷ xs) r =
    (r.0, Returns-without to back x (distinct xs) (Returns-distinct to back xs r.1))

eqb-to : (to back : ℕ → ℕ) (x y : ℕ) → back (to x) ≡ x → back (to y) ≡ y → (to x == to y) ≡ (x == y)
eqb-to to back x y p q =
    ⊎_elim
    (λ e. eq-eqb (to x) (to y) (ap to e) ∙ sym (eq-eqb x y e))
    (λ ne. ne_eqb (to x) (to y) (λ e. ne (sym p ∙ ap back e ∙ q)) ∙ sym (ne_eqb x y ne))
    (cases_eq x y)

without-map : (to back : ℕ → ℕ) (x : ℕ) (ys : List ℕ)
    → back (to x) ≡ x
    → Returns to back ys
    → without (to x) (map to ys) ≡ map to (without x ys)
without-map to back x [] p r = refl
without-map to back x (y ∷ ys) p r =
    ap
    (λ b. cond (not b) (to y ∷ without (to x) (map to ys)) (without (to x) (map to ys)))
    (eqb-to to back x y p r.0)
    ∙ elim (x == y) as
    (λ b. cond (not b) (to y ∷ without (to x) (map to ys)) (without (to x) (map to ys))
    ≡ map to (cond (not b) (y ∷ without x ys) (without x ys))) [
      | true ↦ without-map to back x ys p r.1
      | false ↦ ap (λ zs. to y ∷ zs) (without-map to back x ys p r.1)
    ]

distinct-map : (to back : ℕ → ℕ) (xs : List ℕ) → Returns to back xs → distinct (map to xs) ≡ map to (distinct xs)
distinct-map to back [] r = refl
distinct-map to back (x ∷ xs) r =
    ap (λ ys. to x ∷ without (to x) ys) (distinct-map to back xs r.1)
    ∙ ap (λ ys. to x ∷ ys) (without-map to back x (distinct xs) r.0 (Returns-distinct to back xs r.1))

place-map : (to back : ℕ → ℕ) (x : ℕ) (ys : List ℕ)
    → back (to x) ≡ x
    → Returns to back ys
    → place (to x) (map to ys) ≡ place x ys
place-map to back x [] p r = refl
place-map to back x (y ∷ ys) p r =
    ap (λ b. cond b zero (suc (place (to x) (map to ys)))) (eqb-to to back x y p r.0)
    ∙ ap (λ k. cond (x == y) zero (suc k)) (place-map to back x ys p r.1)

-- Renaming one to one leaves each variable its place.
numbered-rename : (to back : ℕ → ℕ) (t : Tree)
    → ((x : ℕ) → is_in x (occurrences t) ≡ true → back (to x) ≡ x)
    → numbered t ≡ numbered (rename_by to t)
numbered-rename to back t h =
    let r : Returns to back (occurrences t) = returns_from to back (occurrences t) h in
    let vs : variables (rename_by to t) ≡ map to (variables t) =
    ap distinct (occurrences-rename_by to t) ∙ distinct-map to back (occurrences t) r in
    sym
    (rename_twice to (λ y. place y (variables (rename_by to t))) t
    ∙ rename_same
    (λ x. place (to x) (variables (rename_by to t)))
    (λ x. place x (variables t))
    t
    (λ x e. ap (place (to x)) vs ∙ place-map to back x (variables t) (h x e) (Returns-distinct to back (occurrences t) r)))

pub same_from_variant : (t u : Tree) → IsVariant t u → numbered t ≡ numbered u
same_from_variant t u v = numbered-rename v.to v.back t v.one_to_one ∙ ap numbered v.becomes
