-- A term whose variables are numbered anew has as many of them.
use Rattle.std.proofs.Common.{◌≡◌, ◌==◌, ◌||◌, ℕ, zero, ◌+◌, true, false, not, cond, List, [], ◌∷◌, length, map, get_or, refl, sym, ap, ◌∙◌, ⊎_elim, zero-add}
use Rattle.std.proofs.lemmas.List.{length-map}
use Rattle.std.proofs.lemmas.Bool.{eq-eqb, ne_eqb, cases_eq, or_right}
use Rattle.pl_term.specs.Tree.{Tree}
use Rattle.pl_term.specs.Variables.{is_in, place, without, distinct, occurrences, variables, rename, rename_by}
use Rattle.pl_term.proofs.Distinct.{is_in-distinct, get_or-place}
use Rattle.pl_term.proofs.Renaming.{occurrences-rename_by, rename_same}
use Rattle.pl_term.proofs.Variants.{same_from_variant}
use Rattle.pl_model.specs.History.{Clause}
use Rattle.pl_model.specs.BodyChecks.{rule, numbered_clause}
use Rattle.pl_consult.specs.Checks.{kept_clause}

-- Each number of the list comes back.
abbrev Returns : (ℕ → ℕ) → (ℕ → ℕ) → List ℕ → Type 0
Returns to back [] = Unit {0}
Returns to back (x ∷ xs) = (back (to x) ≡ x) × Returns to back xs

returns_from : (to back : ℕ → ℕ) (xs : List ℕ) → ((x : ℕ) → is_in x xs ≡ true → back (to x) ≡ x) → Returns to back xs
returns_from to back [] h = tt
returns_from to back (y ∷ ys) h =
    (h y (ap (λ b. b || is_in y ys) (eq-eqb y y refl)), returns_from to back ys (λ x e. h x (or_right (x == y) (is_in x ys) e)))

Returns-without : (to back : ℕ → ℕ) (x : ℕ) (ys : List ℕ) → Returns to back ys → Returns to back (without x ys)
Returns-without to back x [] r = tt
Returns-without to back x (y ∷ ys) r =
    elim (x == y) as (λ b. Returns to back (cond (not b) (y ∷ without x ys) (without x ys))) [
      | true ↦ Returns-without to back x ys r.1
      | false ↦ (r.0, Returns-without to back x ys r.1)
    ]

Returns-distinct : (to back : ℕ → ℕ) (xs : List ℕ) → Returns to back xs → Returns to back (distinct xs)
Returns-distinct to back [] r = tt
Returns-distinct to back (x ∷ xs) r = (r.0, Returns-without to back x (distinct xs) (Returns-distinct to back xs r.1))

eqb-to : (to back : ℕ → ℕ) (x y : ℕ) → back (to x) ≡ x → back (to y) ≡ y → (to x == to y) ≡ (x == y)
eqb-to to back x y p q =
    ⊎_elim
    (λ e. eq-eqb (to x) (to y) (ap to e) ∙ sym (eq-eqb x y e))
    (λ ne. ne_eqb (to x) (to y) (λ e. ne (sym p ∙ ap back e ∙ q)) ∙ sym (ne_eqb x y ne))
    (cases_eq x y)

without-map : (to back : ℕ → ℕ) (x : ℕ) (ys : List ℕ) → back (to x) ≡ x → Returns to back ys → without (to x) (map to ys) ≡ map to (without x ys)
without-map to back x [] p r = refl
without-map to back x (y ∷ ys) p r =
    ap (λ b. cond (not b) (to y ∷ without (to x) (map to ys)) (without (to x) (map to ys))) (eqb-to to back x y p r.0)
    ∙ elim (x == y) as
    (λ b. cond (not b) (to y ∷ without (to x) (map to ys)) (without (to x) (map to ys)) ≡ map to (cond (not b) (y ∷ without x ys) (without x ys))) [
      | true ↦ without-map to back x ys p r.1
      | false ↦ ap (λ zs. to y ∷ zs) (without-map to back x ys p r.1)
    ]

distinct-map : (to back : ℕ → ℕ) (xs : List ℕ) → Returns to back xs → distinct (map to xs) ≡ map to (distinct xs)
distinct-map to back [] r = refl
distinct-map to back (x ∷ xs) r =
    ap (λ ys. to x ∷ without (to x) ys) (distinct-map to back xs r.1)
    ∙ ap (λ ys. to x ∷ ys) (without-map to back x (distinct xs) r.0 (Returns-distinct to back xs r.1))

-- The variable comes back from its number.
number_back : (t : Tree) (x : ℕ) → is_in x (occurrences t) ≡ true → get_or (variables t) (zero + place x (variables t)) 0 ≡ x
number_back t x h =
    ap (λ k. get_or (variables t) k 0) (zero-add (place x (variables t))) ∙ get_or-place x (variables t) (is_in-distinct x (occurrences t) ∙ h)

-- There are as many variables as before.
pub length-variables_renamed : (t : Tree) → length (variables (rename zero t)) ≡ length (variables t)
length-variables_renamed t =
    let to : ℕ → ℕ = λ x. zero + place x (variables t) in
    let back : ℕ → ℕ = λ k. get_or (variables t) k 0 in
    ap (λ xs. length (distinct xs)) (occurrences-rename_by to t)
    ∙ ap length (distinct-map to back (occurrences t) (returns_from to back (occurrences t) (number_back t)))
    ∙ length-map (variables t) to

-- A rule that is numbered anew is the clause of its head and its body.
pub rule_kept : (r copy h b : Tree) → r ≡ rule h b → copy ≡ rename zero r → kept_clause copy ≡ numbered_clause h b
rule_kept r copy h b whole renamed =
    ap kept_clause (renamed ∙ ap (rename zero) whole)
    ∙ ap (λ n. let c : Clause = record { head = rename_by (λ x. zero + place x (variables (rule h b))) h; body = rename_by (λ x. zero + place x (variables (rule h b))) b; variables = n } in c) (length-variables_renamed (rule h b))

-- What is numbered already stays.
rename-rename : (t : Tree) → rename zero (rename zero t) ≡ rename zero t
rename-rename t =
    unzero (rename zero t)
    ∙ sym
    (unzero t
    ∙ same_from_variant t (rename zero t)
    (record {
      to = λ x. zero + place x (variables t);
      back = λ k. get_or (variables t) k 0;
      becomes = refl;
      one_to_one = λ x h. number_back t x h;
    }))
  where
    unzero : (u : Tree) → rename zero u ≡ rename_by (λ x. place x (variables u)) u
    unzero u = rename_same (λ x. zero + place x (variables u)) (λ x. place x (variables u)) u (λ x _. zero-add (place x (variables u)))

pub renumbered : (r copy : Tree) → copy ≡ rename zero r → rename zero copy ≡ copy
renumbered r copy e = ap (rename zero) e ∙ rename-rename r ∙ sym e
