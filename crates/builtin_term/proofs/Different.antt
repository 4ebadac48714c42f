-- Variables that are different, as a list.
use Rattle.std.proofs.Common.{◌≡◌, ◌≢◌, ◌⊎◌, inl, inr, ℕ, Bool, true, false, cond, not, ◌&&◌, ◌||◌, ◌==◌, List, [], ◌∷◌, map, Option, Some, refl, sym, ap, ap₂, ◌∙◌}
use Rattle.std.proofs.lemmas.Bool.{true≢false, false≢true}
use Rattle.std.proofs.lemmas.Bool.Decides.{Decides-eqb}
use Rattle.pl_term.specs.Tree.{Tree, var, int, atom, comp}
use Rattle.pl_term.specs.Variables.{is_in, without, distinct}
use Rattle.pl_term.proofs.Distinct.{is_in-distinct}
use Rattle.pl_model.proofs.UnifyReplace.{eqb_same}
use Rattle.pl_model.specs.TermBuiltins.{are_different_variables}
use Rattle.builtin_term.specs.Renaming.{IsRenamed, IsSpoiled, Renames}

-- Each number once.
abbrev pub Once : List ℕ → Type 0
Once [] = Unit {0}
Once (x ∷ xs) = (is_in x xs ≡ false) × Once xs

split : (a b : Bool) → (a || b) ≡ true → (a ≡ true) ⊎ (b ≡ true)
split true b e = inl refl
split false b e = inr e

none_of : (a b : Bool) → (a || b) ≡ false → (a ≡ false) × (b ≡ false)
none_of true b e = absurd (true≢false e)
none_of false b e = (refl, e)

and-false : (a : Bool) → (a && false) ≡ false
and-false true = refl
and-false false = refl

second : (a b : Bool) → b ≡ true → (a || b) ≡ true
second true b q = refl
second false b q = q

under : (a b c : Bool) → (b ≡ true → c ≡ true) → (a || b) ≡ true → (a || c) ≡ true
under true b c f q = refl
under false b c f q = f q

kept_in : (x y : ℕ) (zs : List ℕ) → is_in y (without x zs) ≡ true → is_in y zs ≡ true
kept_in x y [] e = e
kept_in x y (z ∷ zs) e = go (x == z) e (kept_in x y zs)
  where
    go : (b : Bool) → is_in y (cond (not b) (z ∷ without x zs) (without x zs)) ≡ true → (is_in y (without x zs) ≡ true → is_in y zs ≡ true)
        → ((y == z) || is_in y zs) ≡ true
    go true h ih = second (y == z) (is_in y zs) (ih h)
    go false h ih = under (y == z) (is_in y (without x zs)) (is_in y zs) ih h

not_true : (b : Bool) → (b ≡ true → ⊥) → b ≡ false
not_true true h = absurd (h refl)
not_true false h = refl

once-without : (x : ℕ) (ys : List ℕ) → Once ys → Once (without x ys)
once-without x [] o = tt
once-without x (y ∷ ys) o = go (x == y) (once-without x ys o.1)
  where
    go : (b : Bool) → Once (without x ys) → Once (cond (not b) (y ∷ without x ys) (without x ys))
    go true ih = ih
    go false ih = (not_true (is_in y (without x ys)) (λ e. false≢true (sym o.0 ∙ kept_in x y ys e)), ih)

gone : (x : ℕ) (ys : List ℕ) → is_in x (without x ys) ≡ false
gone x [] = refl
gone x (y ∷ ys) = go (x == y) refl (gone x ys)
  where
    go : (b : Bool) → (x == y) ≡ b → is_in x (without x ys) ≡ false → is_in x (cond (not b) (y ∷ without x ys) (without x ys)) ≡ false
    go true e ih = ih
    go false e ih = ap₂ (λ a c. a || c) e ih

pub once-distinct : (xs : List ℕ) → Once (distinct xs)
once-distinct [] = tt
once-distinct (x ∷ xs) = (gone x (distinct xs), once-without x (distinct xs) (once-distinct xs))

-- Different owners

owned : (f : ℕ → Tree) (owner : ℕ → Option ℕ) (seen xs : List ℕ)
    → ((x : ℕ) → is_in x xs ≡ true → (y : ℕ) × ((f x ≡ var y) × (owner y ≡ Some x)))
    → ((y x : ℕ) → is_in y seen ≡ true → owner y ≡ Some x → is_in x xs ≡ false)
    → Once xs → are_different_variables seen (map f xs) ≡ true
owned f owner seen [] owns apart once = refl
owned f owner seen (x ∷ xs) owns apart once =
    let here : is_in x (x ∷ xs) ≡ true = ap (λ b. b || is_in x xs) (eqb_same x) in
    let o = owns x here in
    let y = o.0 in
    let new : is_in y seen ≡ false = not_true (is_in y seen) (λ e. false≢true (sym (apart y x e o.1.1) ∙ here)) in
    ap (λ t. are_different_variables seen (t ∷ map f xs)) o.1.0
    ∙ ap₂ (λ a b. not a && b) new (owned f owner (y ∷ seen) xs (λ z e. owns z (behind z e)) (next y o.1.1) once.1)
  where
    behind : (z : ℕ) → is_in z xs ≡ true → is_in z (x ∷ xs) ≡ true
    behind z e = second (z == x) (is_in z xs) e

    next : (y : ℕ) → owner y ≡ Some x → (k z : ℕ) → is_in k (y ∷ seen) ≡ true → owner k ≡ Some z → is_in z xs ≡ false
    next y own k z e o = go (split (k == y) (is_in k seen) e)
      where
        same : (a b : ℕ) → (let l : Option ℕ = Some a in let r : Option ℕ = Some b in l ≡ r) → a ≡ b
        same a b q = cc

        go : ((k == y) ≡ true) ⊎ (is_in k seen ≡ true) → is_in z xs ≡ false
        go (inl q) = ap (λ n. is_in n xs) (same z x (sym o ∙ ap owner ((Decides-eqb k y).0 q) ∙ own)) ∙ once.0
        go (inr q) = (none_of (z == x) (is_in z xs) (apart k z q o)).1

pub renamed : (f : ℕ → Tree) (occ xs : List ℕ) → ((x : ℕ) → is_in x xs ≡ is_in x occ) → IsRenamed f xs → true ≡ are_different_variables [] (map f (distinct occ))
renamed f occ xs same r =
    sym (owned f r.owner [] (distinct occ) (λ x e. r.owns x (same x ∙ sym (is_in-distinct x occ) ∙ e)) (λ y x e o. absurd (false≢true e)) (once-distinct occ))

-- A variable that becomes none, or one that was seen

rest_false : (seen : List ℕ) (t : Tree) (ts : List Tree) → ((seen' : List ℕ) → are_different_variables seen' ts ≡ false)
    → are_different_variables seen (t ∷ ts) ≡ false
rest_false seen (var y) ts h = ap (λ b. not (is_in y seen) && b) (h (y ∷ seen)) ∙ and-false (not (is_in y seen))
rest_false seen (int i) ts h = refl
rest_false seen (atom a) ts h = refl
rest_false seen (comp g t us) ts h = refl

first_false : (seen : List ℕ) (t : Tree) (ts : List Tree) → ((y : ℕ) → t ≡ var y → is_in y seen ≡ true) → are_different_variables seen (t ∷ ts) ≡ false
first_false seen (var y) ts h = ap (λ b. not b && are_different_variables (y ∷ seen) ts) (h y refl)
first_false seen (int i) ts h = refl
first_false seen (atom a) ts h = refl
first_false seen (comp g t us) ts h = refl

later : (y z : ℕ) (seen : List ℕ) → is_in y seen ≡ true → is_in y (z ∷ seen) ≡ true
later y z seen e = go (y == z)
  where
    go : (b : Bool) → (b || is_in y seen) ≡ true
    go true = refl
    go false = e

met : (f : ℕ → Tree) (seen xs : List ℕ) (x : ℕ) → is_in x xs ≡ true → ((y : ℕ) → f x ≡ var y → is_in y seen ≡ true)
    → are_different_variables seen (map f xs) ≡ false
met f seen [] x e h = absurd (false≢true e)
met f seen (z ∷ xs) x e h = go (split (x == z) (is_in x xs) e) (λ k q. met f k xs x q)
  where
    rest : (u : Tree) → ((k : List ℕ) → ((y : ℕ) → f x ≡ var y → is_in y k ≡ true) → are_different_variables k (map f xs) ≡ false)
        → are_different_variables seen (u ∷ map f xs) ≡ false
    rest (var y) ih = ap (λ b. not (is_in y seen) && b) (ih (y ∷ seen) (λ k is. later k y seen (h k is))) ∙ and-false (not (is_in y seen))
    rest (int i) ih = refl
    rest (atom a) ih = refl
    rest (comp g t us) ih = refl

    go : ((x == z) ≡ true) ⊎ (is_in x xs ≡ true)
        → ((k : List ℕ) → is_in x xs ≡ true → ((y : ℕ) → f x ≡ var y → is_in y k ≡ true) → are_different_variables k (map f xs) ≡ false)
        → are_different_variables seen (f z ∷ map f xs) ≡ false
    go (inl q) ih = first_false seen (f z) (map f xs) (λ y is. h y (ap f ((Decides-eqb x z).0 q) ∙ is))
    go (inr q) ih = rest (f z) (λ k. ih k q)

same_var : (y k : ℕ) → var y ≡ var k → y ≡ k
same_var y k e = cc

-- Two of them become the same variable.
both : (f : ℕ → Tree) (seen xs : List ℕ) (x z y : ℕ) → is_in x xs ≡ true → is_in z xs ≡ true → z ≢ x → f x ≡ var y → f z ≡ var y
    → are_different_variables seen (map f xs) ≡ false
both f seen [] x z y ex ez ne fx fz = absurd (false≢true ex)
both f seen (k ∷ xs) x z y ex ez ne fx fz = go (split (x == k) (is_in x xs) ex) (split (z == k) (is_in z xs) ez) (λ l p q. both f l xs x z y p q ne fx fz)
  where
    taken : (v : ℕ) → is_in y (v ∷ seen) ≡ true → (w : ℕ) → f w ≡ var y → (n : ℕ) → f w ≡ var n → is_in n (v ∷ seen) ≡ true
    taken v e w fw n fn = ap (λ i. is_in i (v ∷ seen)) (same_var n y (sym fn ∙ fw)) ∙ e

    here : is_in y (y ∷ seen) ≡ true
    here = ap (λ b. b || is_in y seen) (eqb_same y)

    after : (w : ℕ) → is_in w xs ≡ true → f w ≡ var y → are_different_variables seen (var y ∷ map f xs) ≡ false
    after w q fw = ap (λ b. not (is_in y seen) && b) (met f (y ∷ seen) xs w q (taken y here w fw)) ∙ and-false (not (is_in y seen))

    head_is : (w : ℕ) → (w == k) ≡ true → f w ≡ var y → f k ≡ var y
    head_is w q fw = ap f (sym ((Decides-eqb w k).0 q)) ∙ fw

    go : ((x == k) ≡ true) ⊎ (is_in x xs ≡ true) → ((z == k) ≡ true) ⊎ (is_in z xs ≡ true)
        → ((l : List ℕ) → is_in x xs ≡ true → is_in z xs ≡ true → are_different_variables l (map f xs) ≡ false)
        → are_different_variables seen (f k ∷ map f xs) ≡ false
    go (inl p) (inl q) ih = absurd (ne ((Decides-eqb z k).0 q ∙ sym ((Decides-eqb x k).0 p)))
    go (inl p) (inr q) ih = ap (λ t. are_different_variables seen (t ∷ map f xs)) (head_is x p fx) ∙ after z q fz
    go (inr p) (inl q) ih = ap (λ t. are_different_variables seen (t ∷ map f xs)) (head_is z q fz) ∙ after x p fx
    go (inr p) (inr q) ih = rest_false seen (f k) (map f xs) (λ l. ih l p q)

-- What a spoiled variable becomes.
becomes : (t : Tree) → ((y : ℕ) × (t ≡ var y)) ⊎ ((y : ℕ) → t ≡ var y → ⊥)
becomes (var y) = inl (y, refl)
becomes (int i) = inr (λ y e. absurd (cc))
becomes (atom a) = inr (λ y e. absurd (cc))
becomes (comp g t us) = inr (λ y e. absurd (cc))

pub spoiled : (f : ℕ → Tree) (occ xs : List ℕ) → ((x : ℕ) → is_in x xs ≡ is_in x occ) → IsSpoiled f xs → false ≡ are_different_variables [] (map f (distinct occ))
spoiled f occ xs same s = sym (go (becomes (f s.variable)))
  where
    among : (x : ℕ) → is_in x xs ≡ true → is_in x (distinct occ) ≡ true
    among x e = is_in-distinct x occ ∙ sym (same x) ∙ e

    go : ((y : ℕ) × (f s.variable ≡ var y)) ⊎ ((y : ℕ) → f s.variable ≡ var y → ⊥) → are_different_variables [] (map f (distinct occ)) ≡ false
    go (inl v) =
        let other = s.shared v.0 v.1 in
        both f [] (distinct occ) s.variable other.0 v.0 (among s.variable s.among) (among other.0 other.1.0) other.1.1.0 v.1 other.1.1.1
    go (inr never) = met f [] (distinct occ) s.variable (among s.variable s.among) (λ y is. absurd (never y is))

pub renames_tell : (b : Bool) (f : ℕ → Tree) (occ xs : List ℕ) → ((x : ℕ) → is_in x xs ≡ is_in x occ) → Renames b f xs
    → b ≡ are_different_variables [] (map f (distinct occ))
renames_tell true f occ xs same r = renamed f occ xs same r
renames_tell false f occ xs same s = spoiled f occ xs same s
