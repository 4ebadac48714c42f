-- How often a list has a number.
use Rattle.std.proofs.Common.{◌≡◌, ◌≢◌, ℕ, zero, suc, ◌+◌, ◌<◌, ◌≤◌, Bool, List, [], ◌∷◌, ◌++◌, length, get_or, take, refl, ap, inl, inr, arith, if◌then◌else◌}
use Rattle.std.proofs.lemmas.Bool.{cases_eq, eq-eqb, ne_eqb}
use Rattle.counted_terms.specs.Keeping.{one_at, times}

pub one_here : (a k : ℕ) → k ≡ a → one_at a k ≡ 1
one_here a k e = ap (λ (b : Bool). if b then 1 else 0) (eq-eqb k a e)

pub one_else : (a k : ℕ) → k ≢ a → one_at a k ≡ 0
one_else a k e = ap (λ (b : Bool). if b then 1 else 0) (ne_eqb k a e)

pub times_more : (k : ℕ) (xs ys : List ℕ) → times k (xs ++ ys) ≡ times k xs + times k ys
times_more k [] ys = omega arith
times_more k (a ∷ xs) ys = let rest = times_more k xs ys in omega arith

-- the atoms before a place, that at it, and those behind
pub times_at : (k : ℕ) (xs : List ℕ) (i d : ℕ) → i < length xs → times k (take i xs) + one_at (get_or xs i d) k ≤ times k xs
times_at k [] i d low = absurd (omega arith)
times_at k (a ∷ xs) zero d low = omega arith
times_at k (a ∷ xs) (suc i) d low = let rest = times_at k xs i d (omega arith) in omega arith

pub one_self : (a : ℕ) → one_at a a ≡ 1
one_self a = one_here a a refl

-- a list of one
pub once : (a k : ℕ) → times k (a ∷ []) ≡ one_at a k
once a k = omega arith

pub in_once : (a k : ℕ) → 0 < times k (a ∷ []) → k ≡ a
in_once a k some_ = elim (cases_eq k a) [
  | inl is ↦ is
  | inr ne ↦ absurd (let none = one_else a k ne in omega arith)
]

pub not_once : (a k : ℕ) → times k (a ∷ []) ≡ 0 → k ≢ a
not_once a k none is = let one = one_here a k is in omega arith
