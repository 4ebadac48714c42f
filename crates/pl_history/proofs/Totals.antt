-- Numbers of the members of a list, added up, and facts about each member, where one changes.
use Rattle.std.proofs.Common.{◌≡◌, ℕ, zero, suc, ◌+◌, ◌≤◌, ◌≢◌, List, [], ◌∷◌, ◌++◌, set, take, drop, refl, ap, sym, subst, ⊎_elim, arith}
use mathlib.Core.Option.{some, some-injective, some-ne-none}
use lib.ListN.{get_elem?}
use Rattle.atomic_table.proofs.Lists.{at_set, at_snoc}
use Rattle.pl_history.specs.Laws.{total}

module _ {A : Type 0} (g : A → ℕ) where
  pub total-append : (xs ys : List A) → total g (xs ++ ys) ≡ total g xs + total g ys
  total-append [] ys = omega arith
  total-append (x ∷ xs) ys = omega (arith, total-append xs ys)

  pub total-set : (l : List A) (j : ℕ) (v w : A) → get_elem? l j ≡ some v → total g (set l j w) + g v ≡ total g l + g w
  total-set [] j v w e = absurd (some-ne-none v (sym e))
  total-set (x ∷ xs) zero v w e = omega (arith, ap g (some-injective x v e))
  total-set (x ∷ xs) (suc j) v w e = omega (arith, total-set xs j v w e)

  pub total-at : (l : List A) (j : ℕ) (v : A) → get_elem? l j ≡ some v → g v ≤ total g l
  total-at [] j v e = absurd (some-ne-none v (sym e))
  total-at (x ∷ xs) zero v e = omega (arith, ap g (some-injective x v e))
  total-at (x ∷ xs) (suc j) v e = omega (arith, total-at xs j v e)

  pub total-two : (l : List A) (i j : ℕ) (v w : A) → get_elem? l i ≡ some v → get_elem? l j ≡ some w → j ≢ i → g v + g w ≤ total g l
  total-two [] i j v w e f n = absurd (some-ne-none v (sym e))
  total-two (x ∷ xs) zero zero v w e f n = absurd (n refl)
  total-two (x ∷ xs) zero (suc j) v w e f n = omega (arith, ap g (some-injective x v e), total-at xs j w f)
  total-two (x ∷ xs) (suc i) zero v w e f n = omega (arith, ap g (some-injective x w f), total-at xs i v e)
  total-two (x ∷ xs) (suc i) (suc j) v w e f n = omega (arith, total-two xs i j v w e f (λ p. n (ap suc p)))

  pub total-cut : (n : ℕ) (xs : List A) → total g (take n xs) + total g (drop n xs) ≡ total g xs
  total-cut zero xs = omega arith
  total-cut (suc n) [] = refl
  total-cut (suc n) (x ∷ xs) = omega (arith, total-cut n xs)

module _ {A : Type 0} (P : A → Type 0) where
  abbrev pub Each : List A → Type 0
  Each l = (i : ℕ) (v : A) → get_elem? l i ≡ some v → P v

  pub each-set : (l : List A) (j : ℕ) (w : A) → Each l → P w → Each (set l j w)
  each-set l j w all here i v e = ⊎_elim (λ t. subst P t.1 here) (λ t. all i v t.1) (at_set l j i w v e)

  pub each-snoc : (l : List A) (w : A) → Each l → P w → Each (l ++ w ∷ [])
  each-snoc l w all here i v e = ⊎_elim (λ t. all i v t) (λ t. subst P t here) (at_snoc l w v i e)
