-- Variables of terms, and what replacing one of them leaves.
use Rattle.std.proofs.Common.{◌≡◌, ◌≢◌, ◌⊎◌, ℕ, suc, ◌<◌, ◌≤◌, Bool, true, false, cond, not, ◌||◌, ◌==◌, List, [], ◌∷◌, ◌++◌, length, refl, sym, ap, ap₂, ◌∙◌, inl, inr, arith}
use Rattle.std.proofs.lemmas.Bool.{false≢true}
use Rattle.std.proofs.lemmas.Bool.Decides.{Decides-eqb}
use Rattle.pl_term.specs.Tree.{Tree, Trees, var, int, atom, comp, none, more, count, join}
use Rattle.pl_term.specs.Variables.{is_in, has, has_all, without, occurrences, occurrences_all, replace, replace_all}
use Rattle.pl_model.specs.Unify.{instance, instances}

-- What holds where a test is true and where it is false holds of the choice that it makes.
pub cond_cases {ℓ} : {A : Type 0} (P : A → Type ℓ) (b : Bool) {x y : A} → (b ≡ true → P x) → (b ≡ false → P y) → P (cond b x y)
cond_cases P true f g = f refl
cond_cases P false f g = g refl

pub eqb_same : (x : ℕ) → (x == x) ≡ true
eqb_same x = (Decides-eqb x x).1 refl

pub eqb_other : (x y : ℕ) → x ≢ y → (x == y) ≡ false
eqb_other x y h = go (x == y) refl
  where
    go : (b : Bool) → (x == y) ≡ b → b ≡ false
    go true e = absurd (h ((Decides-eqb x y).0 e))
    go false e = refl

pub or-false : (a b : Bool) → (a || b) ≡ false → (a ≡ false) × (b ≡ false)
or-false true b h = absurd (false≢true (sym h))
or-false false b h = (refl, h)

pub or-true : (a b : Bool) → (a || b) ≡ true → (a ≡ true) ⊎ (b ≡ true)
or-true true b h = inl refl
or-true false b h = inr h

pub is_in-append : (x : ℕ) (xs ys : List ℕ) → is_in x (xs ++ ys) ≡ (is_in x xs || is_in x ys)
is_in-append x [] ys = refl
is_in-append x (z ∷ zs) ys = go (is_in-append x zs ys) (x == z)
  where
    go : is_in x (zs ++ ys) ≡ (is_in x zs || is_in x ys) → (b : Bool) → (b || is_in x (zs ++ ys)) ≡ ((b || is_in x zs) || is_in x ys)
    go e true = refl
    go e false = e

pub absent-append : (x : ℕ) (xs ys : List ℕ) → is_in x (xs ++ ys) ≡ false → (is_in x xs ≡ false) × (is_in x ys ≡ false)
absent-append x xs ys h = or-false (is_in x xs) (is_in x ys) (sym (is_in-append x xs ys) ∙ h)

pub absent_both : (x : ℕ) (xs ys : List ℕ) → is_in x xs ≡ false → is_in x ys ≡ false → is_in x (xs ++ ys) ≡ false
absent_both x xs ys h k = is_in-append x xs ys ∙ ap₂ ◌||◌ h k

pub present-append : (x : ℕ) (xs ys : List ℕ) → is_in x (xs ++ ys) ≡ true → (is_in x xs ≡ true) ⊎ (is_in x ys ≡ true)
present-append x xs ys h = or-true (is_in x xs) (is_in x ys) (sym (is_in-append x xs ys) ∙ h)

pub present_left : (x : ℕ) (xs ys : List ℕ) → is_in x xs ≡ true → is_in x (xs ++ ys) ≡ true
present_left x xs ys h = is_in-append x xs ys ∙ ap (λ b. b || is_in x ys) h

pub present_right : (x : ℕ) (xs ys : List ℕ) → is_in x ys ≡ true → is_in x (xs ++ ys) ≡ true
present_right x xs ys h = is_in-append x xs ys ∙ ap (λ b. is_in x xs || b) h ∙ go (is_in x xs)
  where
    go : (b : Bool) → (b || true) ≡ true
    go true = refl
    go false = refl

-- The only member of a list of one.
pub is_in-one : (x y : ℕ) → is_in x (y ∷ []) ≡ true → x ≡ y
is_in-one x y h = go (x == y) refl h
  where
    go : (b : Bool) → (x == y) ≡ b → (b || false) ≡ true → x ≡ y
    go true e h = (Decides-eqb x y).0 e
    go false e h = absurd (false≢true h)

mutual
  -- Nothing is replaced where the variable does not occur.
  pub replace-absent : (t : Tree) (x : ℕ) (s : Tree) → has x t ≡ false → replace x s t ≡ t
  replace-absent (var y) x s h = go (x == y) h
    where
      go : (b : Bool) → (b || false) ≡ false → cond b s (var y) ≡ var y
      go true h = absurd (false≢true (sym h))
      go false h = refl
  replace-absent (int i) x s h = refl
  replace-absent (atom a) x s h = refl
  replace-absent (comp f t ts) x s h =
      let p = absent-append x (occurrences t) (occurrences_all ts) h in
      ap₂ (comp f) (replace-absent t x s p.0) (replace_all-absent ts x s p.1)

  pub replace_all-absent : (ts : Trees) (x : ℕ) (s : Tree) → has_all x ts ≡ false → replace_all x s ts ≡ ts
  replace_all-absent none x s h = refl
  replace_all-absent (more t ts) x s h =
      let p = absent-append x (occurrences t) (occurrences_all ts) h in
      ap₂ more (replace-absent t x s p.0) (replace_all-absent ts x s p.1)

mutual
  -- A variable is gone once it is replaced by a term in which it does not occur.
  pub has-replace : (t : Tree) (x : ℕ) (s : Tree) → has x s ≡ false → has x (replace x s t) ≡ false
  has-replace (var y) x s h =
      cond_cases (λ u. has x u ≡ false) (x == y) (λ _. h) (λ e. ap (λ b. b || false) e)
  has-replace (int i) x s h = refl
  has-replace (atom a) x s h = refl
  has-replace (comp f t ts) x s h =
      absent_both x (occurrences (replace x s t)) (occurrences_all (replace_all x s ts)) (has-replace t x s h) (has_all-replace ts x s h)

  pub has_all-replace : (ts : Trees) (x : ℕ) (s : Tree) → has x s ≡ false → has_all x (replace_all x s ts) ≡ false
  has_all-replace none x s h = refl
  has_all-replace (more t ts) x s h =
      absent_both x (occurrences (replace x s t)) (occurrences_all (replace_all x s ts)) (has-replace t x s h) (has_all-replace ts x s h)

replaced_either : (y : ℕ) (ss ts us vs ws : List ℕ) → (is_in y vs ≡ true → (is_in y ss ≡ true) ⊎ (is_in y ts ≡ true)) → (is_in y ws ≡ true → (is_in y ss ≡ true) ⊎ (is_in y us ≡ true)) → is_in y (vs ++ ws) ≡ true → (is_in y ss ≡ true) ⊎ (is_in y (ts ++ us) ≡ true)
replaced_either y ss ts us vs ws f g h =
    elim (present-append y vs ws h) [
      | inl k ↦ elim (f k) [ inl l ↦ inl l | inr l ↦ inr (present_left y ts us l) ]
      | inr k ↦ elim (g k) [ inl l ↦ inl l | inr l ↦ inr (present_right y ts us l) ]
    ]

mutual
  -- Each variable that is there after replacing was in the term before, or is in the term put in.
  pub has-replaced : (t : Tree) (x : ℕ) (s : Tree) (y : ℕ) → has y (replace x s t) ≡ true → (has y s ≡ true) ⊎ (has y t ≡ true)
  has-replaced (var z) x s y h =
      cond_cases (λ u. has y u ≡ true → (has y s ≡ true) ⊎ (has y (var z) ≡ true)) (x == z) (λ _ k. inl k) (λ _ k. inr k) h
  has-replaced (int i) x s y h = inr h
  has-replaced (atom a) x s y h = inr h
  has-replaced (comp f t ts) x s y h =
      replaced_either y (occurrences s) (occurrences t) (occurrences_all ts) (occurrences (replace x s t))
      (occurrences_all (replace_all x s ts)) (has-replaced t x s y) (has_all-replaced ts x s y) h

  pub has_all-replaced : (ts : Trees) (x : ℕ) (s : Tree) (y : ℕ) → has_all y (replace_all x s ts) ≡ true → (has y s ≡ true) ⊎ (has_all y ts ≡ true)
  has_all-replaced none x s y h = inr h
  has_all-replaced (more t ts) x s y h =
      replaced_either y (occurrences s) (occurrences t) (occurrences_all ts) (occurrences (replace x s t))
      (occurrences_all (replace_all x s ts)) (has-replaced t x s y) (has_all-replaced ts x s y) h

mutual
  -- An instance in which the variable and the term put in for it are the same is not changed by replacing.
  pub instance-replace : (t : Tree) (x : ℕ) (s : Tree) (σ : ℕ → Tree) → σ x ≡ instance σ s → instance σ (replace x s t) ≡ instance σ t
  instance-replace (var y) x s σ e =
      cond_cases (λ u. instance σ u ≡ σ y) (x == y) (λ b. sym e ∙ ap σ ((Decides-eqb x y).0 b)) (λ _. refl)
  instance-replace (int i) x s σ e = refl
  instance-replace (atom a) x s σ e = refl
  instance-replace (comp f t ts) x s σ e = ap₂ (comp f) (instance-replace t x s σ e) (instances-replace ts x s σ e)

  pub instances-replace : (ts : Trees) (x : ℕ) (s : Tree) (σ : ℕ → Tree) → σ x ≡ instance σ s → instances σ (replace_all x s ts) ≡ instances σ ts
  instances-replace none x s σ e = refl
  instances-replace (more t ts) x s σ e = ap₂ more (instance-replace t x s σ e) (instances-replace ts x s σ e)

pub count-replace : (ts : Trees) (x : ℕ) (s : Tree) → count (replace_all x s ts) ≡ count ts
count-replace none x s = refl
count-replace (more t ts) x s = ap suc (count-replace ts x s)

pub replace-join : (ts us : Trees) (x : ℕ) (s : Tree) → replace_all x s (join ts us) ≡ join (replace_all x s ts) (replace_all x s us)
replace-join none us x s = refl
replace-join (more t ts) us x s = ap (more (replace x s t)) (replace-join ts us x s)

-- Each number of the first list is in the second.
abbrev pub Among : List ℕ → List ℕ → Type 0
Among xs ys = (x : ℕ) → is_in x xs ≡ true → is_in x ys ≡ true

not_true : (b : Bool) → not b ≡ true → b ≡ false
not_true true e = absurd (false≢true e)
not_true false e = refl

not_false : (b : Bool) → not b ≡ false → b ≡ true
not_false true e = refl
not_false false e = absurd (false≢true (sym e))

-- The other members stay.
pub is_in-without : (x y : ℕ) (ys : List ℕ) → x ≢ y → is_in y ys ≡ true → is_in y (without x ys) ≡ true
is_in-without x y [] h e = e
is_in-without x y (z ∷ zs) h e = go (is_in-without x y zs h)
  where
    go : (is_in y zs ≡ true → is_in y (without x zs) ≡ true) → is_in y (without x (z ∷ zs)) ≡ true
    go ih =
        cond_cases (λ l. is_in y l ≡ true) (not (x == z))
        (λ _. elim (or-true (y == z) (is_in y zs) e) [
          | inl k ↦ ap (λ b. b || is_in y (without x zs)) k
          | inr k ↦ present_right y (z ∷ []) (without x zs) (ih k)
        ])
        (λ k. elim (or-true (y == z) (is_in y zs) e) [
          | inl l ↦ absurd (h ((Decides-eqb x z).0 (not_false (x == z) k) ∙ sym ((Decides-eqb y z).0 l)))
          | inr l ↦ ih l
        ])

pub length-without : (x : ℕ) (ys : List ℕ) → length (without x ys) ≤ length ys
length-without x [] = omega arith
length-without x (z ∷ zs) =
    let ih = length-without x zs in
    cond_cases (λ l. length l ≤ suc (length zs)) (not (x == z)) (λ _. omega arith) (λ _. omega arith)

pub length-without_lt : (x : ℕ) (ys : List ℕ) → is_in x ys ≡ true → length (without x ys) < length ys
length-without_lt x [] h = absurd (false≢true h)
length-without_lt x (z ∷ zs) h = go (length-without_lt x zs)
  where
    go : (is_in x zs ≡ true → length (without x zs) < length zs) → length (without x (z ∷ zs)) < suc (length zs)
    go ih =
        cond_cases (λ l. length l < suc (length zs)) (not (x == z))
        (λ k. elim (or-true (x == z) (is_in x zs) h) [
          | inl l ↦ absurd (false≢true (sym (not_true (x == z) k) ∙ l))
          | inr l ↦ omega (arith, ih l)
        ])
        (λ k. omega (arith, length-without x zs))
