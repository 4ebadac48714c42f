-- The variables of a term that is numbered in the order in which they first occur.
use Rattle.std.proofs.Common.{◌≡◌, ◌≢◌, ◌⊎◌, inl, inr, ℕ, zero, suc, ◌+◌, Bool, true, false, not, cond, ◌==◌, ◌||◌, List, [], ◌∷◌, ◌++◌, length, map, refl, sym, ap, ap₂, ◌∙◌, arith}
use Rattle.std.proofs.lemmas.Bool.{true≢false, eq-eqb, or_right}
use Rattle.std.proofs.lemmas.Bool.Decides.{eqb_tells}
use Rattle.pl_term.specs.Tree.{Tree}
use Rattle.pl_term.specs.Variables.{distinct, is_in, occurrences, place, rename, variables, without}
use Rattle.pl_term.proofs.Distinct.{is_in-distinct}
use Rattle.pl_term.proofs.Renaming.{occurrences-rename_by}
use Rattle.term_store.specs.Contents.{upwards}

-- No number stands in the list twice.
abbrev AreOnce : List ℕ → Type 0
AreOnce [] = Unit {0}
AreOnce (x ∷ xs) = (is_in x xs ≡ false) × AreOnce xs

cond_in : (x y : ℕ) (b : Bool) (ys : List ℕ) → is_in x ys ≡ false → (x == y) ≡ false → is_in x (cond b (y ∷ ys) ys) ≡ false
cond_in x y true ys h e = ap (λ q. q || is_in x ys) e ∙ h
cond_in x y false ys h e = h

-- It is not there without it.
not_without : (x : ℕ) (ys : List ℕ) → is_in x (without x ys) ≡ false
not_without x [] = refl
not_without x (y ∷ ys) = go (not_without x ys) (eqb_tells x y)
  where
    go : is_in x (without x ys) ≡ false → (((x == y) ≡ true) × (x ≡ y)) ⊎ (((x == y) ≡ false) × (x ≢ y)) → is_in x (without x (y ∷ ys)) ≡ false
    go less (inl (e, p)) = ap (λ b. is_in x (cond (not b) (y ∷ without x ys) (without x ys))) e ∙ less
    go less (inr (e, p)) = cond_in x y (not (x == y)) (without x ys) less e

fewer : (z x : ℕ) (ys : List ℕ) → is_in z ys ≡ false → is_in z (without x ys) ≡ false
fewer z x [] h = refl
fewer z x (y ∷ ys) h = go (λ k. fewer z x ys k) (z == y) refl
  where
    go : (is_in z ys ≡ false → is_in z (without x ys) ≡ false) → (b : Bool) → (z == y) ≡ b → is_in z (without x (y ∷ ys)) ≡ false
    go less true e = absurd (true≢false (sym (ap (λ q. q || is_in z ys) e) ∙ h))
    go less false e = cond_in z y (not (x == y)) (without x ys) (less (sym (ap (λ q. q || is_in z ys) e) ∙ h)) e

once_if : (b : Bool) (y : ℕ) (ys : List ℕ) → is_in y ys ≡ false → AreOnce ys → AreOnce (cond b (y ∷ ys) ys)
once_if true y ys h o = (h, o)
once_if false y ys h o = o

once_without : (x : ℕ) (ys : List ℕ) → AreOnce ys → AreOnce (without x ys)
once_without x [] o = tt
once_without x (y ∷ ys) o = once_if (not (x == y)) y (without x ys) (fewer y x ys o.0) (once_without x ys o.1)

once_distinct : (xs : List ℕ) → AreOnce (distinct xs)
once_distinct [] = tt
once_distinct (x ∷ xs) = (not_without x (distinct xs), once_without x (distinct xs) (once_distinct xs))

upwards-cons : (n k : ℕ) → upwards n (suc k) ≡ n ∷ upwards (suc n) k
upwards-cons n zero = ap (λ i. i ∷ []) (let e : n + zero ≡ n = omega arith in e)
upwards-cons n (suc k) =
    ap₂ (λ xs i. xs ++ i ∷ []) (upwards-cons n k) (let e : n + suc k ≡ suc n + k = omega arith in e)

-- A list whose members are their places from a number on.
rises : (n : ℕ) (xs : List ℕ) → AreOnce xs → ((x : ℕ) → is_in x xs ≡ true → n + place x xs ≡ x) → xs ≡ upwards n (length xs)
rises n [] o h = refl
rises n (x ∷ xs) o h =
    let first : n ≡ x = (let e : n ≡ n + zero = omega arith in e) ∙ ap (λ b. n + cond b zero (suc (place x xs))) (sym (eq-eqb x x refl)) ∙ h x (ap (λ b. b || is_in x xs) (eq-eqb x x refl))
    in ap₂ (λ y ys. y ∷ ys) (sym first) (rises (suc n) xs o.1 (λ y there. later y there (eqb_tells y x)))
    ∙ sym (upwards-cons n (length xs))
  where
    later : (y : ℕ) → is_in y xs ≡ true → (((y == x) ≡ true) × (y ≡ x)) ⊎ (((y == x) ≡ false) × (y ≢ x)) → suc n + place y xs ≡ y
    later y there (inl (e, p)) = absurd (true≢false (sym there ∙ ap (λ z. is_in z xs) p ∙ o.0))
    later y there (inr (e, p)) =
        (let q : suc n + place y xs ≡ n + suc (place y xs) = omega arith in q)
        ∙ ap (λ b. n + cond b zero (suc (place y xs))) (sym e)
        ∙ h y (or_right (y == x) (is_in y xs) there)

first_same : (x y : ℕ) (xs ys : List ℕ) → x ∷ xs ≡ y ∷ ys → x ≡ y
first_same x y xs ys e = cc

rest_same : (x y : ℕ) (xs ys : List ℕ) → x ∷ xs ≡ y ∷ ys → xs ≡ ys
rest_same x y xs ys e = cc

member_same : (f : ℕ → ℕ) (xs : List ℕ) → map f xs ≡ xs → (x : ℕ) → is_in x xs ≡ true → f x ≡ x
member_same f [] e x h = absurd (true≢false (sym h))
member_same f (y ∷ ys) e x h = go (λ k. member_same f ys (rest_same (f y) y (map f ys) ys e) x k) (eqb_tells x y)
  where
    go : (is_in x ys ≡ true → f x ≡ x) → (((x == y) ≡ true) × (x ≡ y)) ⊎ (((x == y) ≡ false) × (x ≢ y)) → f x ≡ x
    go rest (inl (q, p)) = ap f p ∙ first_same (f y) y (map f ys) ys e ∙ sym p
    go rest (inr (q, p)) = rest (sym (ap (λ b. b || is_in x ys) q) ∙ h)

-- The variables have the first numbers.
pub numbered_variables : (t : Tree) → rename zero t ≡ t → variables t ≡ upwards zero (length (variables t))
numbered_variables t is =
    let to : ℕ → ℕ = λ x. zero + place x (variables t)
    in let same : map to (occurrences t) ≡ occurrences t = sym (occurrences-rename_by to t) ∙ ap occurrences is
    in rises zero (variables t) (once_distinct (occurrences t)) (λ x there. member_same to (occurrences t) same x (sym (is_in-distinct x (occurrences t)) ∙ there))
