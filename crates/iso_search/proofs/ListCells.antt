-- The cells of the list of copies.
use Rattle.std.proofs.Common.{◌≡◌, ℕ, suc, ◌+◌, ◌*◌, ◌<◌, ◌≤◌, ◌==◌, ◌||◌, not, Bool, true, false, cond, List, [], ◌∷◌, ◌++◌, length, map, refl, sym, ap, subst, ◌∙◌, arith, append-nil, length-append}
use Rattle.std.specs.List.{All}
use Rattle.std.proofs.lemmas.Bool.{eq-eqb, ne_eqb}
use Rattle.std.proofs.lemmas.List.Elements.{All-append, All-cons, All-head, All-nil, All-tail, All-weaker}
use Rattle.pl_term.specs.Tree.{Tree}
use Rattle.pl_term.specs.Cells.{cells, compound_cells}
use Rattle.pl_term.specs.Variables.{distinct, is_in, occurrences, place, rename, variables, without}
use Rattle.pl_term.proofs.Distinct.{is_in-distinct, place-below}
use Rattle.pl_term.proofs.Renaming.{occurrences-rename_by}
use Rattle.pl_model.specs.Terms.{list_term}
use Rattle.iso_search.specs.declared.copies.Copied.{Copied}
use Rattle.iso_search.specs.Collecting.{Rise, cells_of, copy_of, copy_over}
use Rattle.iso_search.specs.Reading.{View}
use Rattle.iso_search.specs.Spelling.{text_of}
use Rattle.iso_search.proofs.Collected.{cells-copy}
use Rattle.iso_search.proofs.Spelt.{occurrences-spelled}

-- Numbers that stand in one of two lists alone

without-append : (x : ℕ) (xs ys : List ℕ) → without x (xs ++ ys) ≡ without x xs ++ without x ys
without-append x [] ys = refl
without-append x (z ∷ xs) ys =
    elim (x == z) as (λ b. cond (not b) (z ∷ without x (xs ++ ys)) (without x (xs ++ ys)) ≡ cond (not b) (z ∷ without x xs) (without x xs) ++ without x ys) [
      | true ↦ without-append x xs ys
      | false ↦ ap (λ zs. z ∷ zs) (without-append x xs ys)
    ]

without-low : (x n : ℕ) (ys : List ℕ) → x < n → All (λ y. n ≤ y) ys → without x ys ≡ ys
without-low x n [] lt h = refl
without-low x n (y ∷ ys) lt h =
    let le = All-head (λ z. n ≤ z) y ys h in
    ap (λ b. cond (not b) (y ∷ without x ys) (without x ys)) (ne_eqb x y (λ e. omega (arith, e, le, lt)))
    ∙ ap (λ zs. y ∷ zs) (without-low x n ys lt (All-tail (λ z. n ≤ z) y ys h))

All-without : (P : ℕ → Type 0) (x : ℕ) (ys : List ℕ) → All P ys → All P (without x ys)
All-without P x [] h = h
All-without P x (y ∷ ys) h =
    elim (x == y) as (λ b. All P (cond (not b) (y ∷ without x ys) (without x ys))) [
      | true ↦ All-without P x ys (All-tail P y ys h)
      | false ↦ All-cons P y (without x ys) (All-head P y ys h) (All-without P x ys (All-tail P y ys h))
    ]

All-distinct : (P : ℕ → Type 0) (xs : List ℕ) → All P xs → All P (distinct xs)
All-distinct P [] h = h
All-distinct P (x ∷ xs) h =
    All-cons P x (without x (distinct xs)) (All-head P x xs h) (All-without P x (distinct xs) (All-distinct P xs (All-tail P x xs h)))

distinct-parted : (n : ℕ) (xs ys : List ℕ) → All (λ x. x < n) xs → All (λ y. n ≤ y) ys → distinct (xs ++ ys) ≡ distinct xs ++ distinct ys
distinct-parted n [] ys low high = refl
distinct-parted n (x ∷ xs) ys low high =
    ap (λ zs. x ∷ without x zs) (distinct-parted n xs ys (All-tail (λ z. z < n) x xs low) high)
    ∙ ap (λ zs. x ∷ zs) (without-append x (distinct xs) (distinct ys)
    ∙ ap (λ zs. without x (distinct xs) ++ zs)
    (without-low x n (distinct ys) (All-head (λ z. z < n) x xs low) (All-distinct (λ z. n ≤ z) ys high)))

-- The numbers of a copy's variables

All-map_in : (P : ℕ → Type 0) (f : ℕ → ℕ) (all xs : List ℕ) → ((x : ℕ) → is_in x all ≡ true → P (f x)) → ((x : ℕ) → is_in x xs ≡ true → is_in x all ≡ true)
    → All P (map f xs)
All-map_in P f all [] h within = All-nil P
All-map_in P f all (x ∷ xs) h within =
    All-cons P (f x) (map f xs) (h x (within x (ap (λ b. b || is_in x xs) (eq-eqb x x refl))))
    (All-map_in P f all xs h (λ y e. within y (or_true (y == x) (is_in y xs) e)))
  where
    or_true : (a b : Bool) → b ≡ true → (a || b) ≡ true
    or_true true b e = refl
    or_true false b e = e

numbers_at : (from : ℕ) (t : Tree) (P : ℕ → Type 0) → ((k : ℕ) → k < length (variables t) → P (from + k)) → All P (occurrences (rename from t))
numbers_at from t P h =
    let f : ℕ → ℕ = λ x. from + place x (variables t) in
    subst (All P) (sym (occurrences-rename_by f t))
    (All-map_in P f (occurrences t) (occurrences t)
    (λ x e. h (place x (variables t)) (place-below x (variables t) (is_in-distinct x (occurrences t) ∙ e))) (λ x e. e))

pub copy_below : (v : View) (c : Copied) → All (λ x. x < c.from + length (variables c.term)) (occurrences (copy_of v c))
copy_below v c =
    subst (All (λ x. x < c.from + length (variables c.term))) (sym (occurrences-spelled (text_of v.names) (copy_over c)))
    (numbers_at c.from c.term (λ x. x < c.from + length (variables c.term)) (λ k lt. omega (arith, lt)))

pub copy_above : (v : View) (c : Copied) → All (λ x. c.from ≤ x) (occurrences (copy_of v c))
copy_above v c =
    subst (All (λ x. c.from ≤ x)) (sym (occurrences-spelled (text_of v.names) (copy_over c)))
    (numbers_at c.from c.term (λ x. c.from ≤ x) (λ k lt. omega arith))

-- The variables of the list are those of its elements.

list_above : (v : View) (low : ℕ) (cs : List Copied) (high : ℕ) → Rise low cs high → All (λ x. low ≤ x) (occurrences (list_term (map (copy_of v) cs)))
list_above v low [] high r = All-nil (λ x. low ≤ x)
list_above v low (c ∷ cs) high r =
    let rest = occurrences (list_term (map (copy_of v) cs)) in
    All-append (λ x. low ≤ x) (occurrences (copy_of v c)) (rest ++ [])
    (All-weaker (λ x. c.from ≤ x) (λ x. low ≤ x) (λ x le. omega (arith, le, r.0)) (occurrences (copy_of v c)) (copy_above v c))
    (subst (All (λ x. low ≤ x)) (sym (append-nil rest))
    (All-weaker (λ x. c.from + length (variables c.term) ≤ x) (λ x. low ≤ x) (λ x le. omega (arith, le, r.0)) rest
    (list_above v (c.from + length (variables c.term)) cs high r.1)))

list_variables : (v : View) (low : ℕ) (c : Copied) (cs : List Copied) (high : ℕ) → Rise low (c ∷ cs) high
    → length (variables (list_term (map (copy_of v) (c ∷ cs)))) ≡ length (variables (copy_of v c)) + length (variables (list_term (map (copy_of v) cs)))
list_variables v low c cs high r =
    let n = c.from + length (variables c.term) in
    let rest = occurrences (list_term (map (copy_of v) cs)) in
    ap (λ xs. length (distinct (occurrences (copy_of v c) ++ xs))) (append-nil rest)
    ∙ ap length (distinct-parted n (occurrences (copy_of v c)) rest (copy_below v c) (list_above v n cs high r.1))
    ∙ length-append (distinct (occurrences (copy_of v c))) (distinct rest)

-- Three cells for each element, beside those of the copies.
pub list_cells : (v : View) (low : ℕ) (cs : List Copied) (high : ℕ) → Rise low cs high
    → cells (list_term (map (copy_of v) cs)) ≡ cells_of cs + 3 * length cs
list_cells v low [] high r = refl
list_cells v low (c ∷ cs) high r =
    let more_variables = list_variables v low c cs high r in
    let others = list_cells v (c.from + length (variables c.term)) cs high r.1 in
    let first = cells-copy v c in
    total (compound_cells (copy_of v c)) (length (variables (copy_of v c))) (compound_cells (list_term (map (copy_of v) cs)))
    (length (variables (list_term (map (copy_of v) cs)))) (length (variables (list_term (map (copy_of v) (c ∷ cs))))) (cells c.term) (cells_of cs) (length cs)
    more_variables others first
  where
    total : (a b d e w x y z : ℕ) → w ≡ b + e → d + e ≡ y + 3 * z → a + b ≡ x → 2 + 1 + (a + (d + 0)) + w ≡ x + y + 3 * suc z
    total a b d e w x y z p q r = omega (arith, p, q, r)
