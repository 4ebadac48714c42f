-- Quotients rounded downward, and what they leave.
use Rattle.std.proofs.Common.{◌≡◌, ◌≢◌, ℕ, zero, suc, ◌+◌, ◌-◌, ◌*◌, ◌/◌, ◌%◌, ◌<◌, min, refl, ap, ◌∙◌, arith}
use Rattle.std.specs.Prelude.{ℤ, pos, negsuc, neg_ℤ, ◌+ℤ◌, ◌-ℤ◌, ◌*ℤ◌, ◌≤ℤ◌, ◌<ℤ◌, unsigned_abs, int_rem}
use Rattle.std.proofs.Math.Nat.{div-add-mod'}
use Rattle.std.proofs.lemmas.Int.{ints, rem_below}
use Rattle.pl_model.specs.Evaluables.{floor_div, modulo}

-- The rest is what the dividend has beyond the product.
rest : (x p r : ℤ) → p +ℤ r ≡ x → x -ℤ p ≡ r
rest x p r e = omega (arith, ints)

pub whole : (x y : ℤ) → floor_div x y *ℤ y +ℤ modulo x y ≡ x
whole x y = sum (floor_div x y *ℤ y) x
  where
    sum : (p z : ℤ) → p +ℤ (z -ℤ p) ≡ z
    sum p z = omega (arith, ints)

pub smaller : (x y : ℤ) → y ≢ pos 0 → unsigned_abs (int_rem x y) < unsigned_abs y
smaller x (pos zero) ne = absurd (ne refl)
smaller x (pos (suc b)) ne = rem_below x (pos (suc b)) (omega arith)
smaller x (negsuc b) ne = rem_below x (negsuc b) (omega arith)

-- A negative number divided by a positive one.
below : (q m a b : ℕ) → q * suc b + m ≡ a → m < suc b → neg_ℤ (pos (suc q * suc b)) +ℤ pos (b - m) ≡ negsuc a
below q m a b e lt = omega (arith, ints)

by_positive : (x : ℤ) (b : ℕ) → (pos 0 ≤ℤ modulo x (pos (suc b))) × (modulo x (pos (suc b)) <ℤ pos (suc b))
by_positive (pos a) b =
    let h : modulo (pos a) (pos (suc b)) ≡ pos (a % suc b) =
    rest (pos a) (pos (a / suc b * suc b)) (pos (a % suc b)) (ap pos (div-add-mod' a (suc b))) in
    rw h (omega (arith, ints), omega (arith, ints))
by_positive (negsuc a) b =
    let h : modulo (negsuc a) (pos (suc b)) ≡ pos (b - a % suc b) =
    rest
    (negsuc a)
    (neg_ℤ (pos (suc (a / suc b) * suc b)))
    (pos (b - a % suc b))
    (below (a / suc b) (a % suc b) a b (div-add-mod' a (suc b)) (omega arith)) in
    rw h (omega (arith, ints), omega (arith, ints))

pub positive : (x y : ℤ) → pos 0 <ℤ y → (pos 0 ≤ℤ modulo x y) × (modulo x y <ℤ y)
positive x (pos zero) h = absurd (omega (arith, ints))
positive x (pos (suc b)) h = by_positive x b
positive x (negsuc b) h = absurd (omega (arith, ints))

-- A product of two numbers that are not positive.
product : (k b : ℕ) → neg_ℤ (pos k) *ℤ negsuc b ≡ pos (k * suc b)
product zero b = omega (arith, ints)
product (suc j) b = refl

-- A positive number divided by a negative one, by what the quotient of the magnitudes leaves.
above : (q m a b : ℕ) → q * suc b + m ≡ a → m < suc b
    → (negsuc b <ℤ (pos a -ℤ pos ((q + min 1 m) * suc b))) × ((pos a -ℤ pos ((q + min 1 m) * suc b)) ≤ℤ pos 0)
above q zero a b e lt =
    let h : pos a -ℤ pos ((q + min 1 zero) * suc b) ≡ pos 0 = omega (arith, ints) in
    rw h (omega (arith, ints), omega (arith, ints))
above q (suc r) a b e lt =
    let one : q + min 1 (suc r) ≡ suc q = omega arith in
    let less : pos a -ℤ pos (suc q * suc b) ≡ negsuc (b - suc r) = omega (arith, ints) in
    let h : pos a -ℤ pos ((q + min 1 (suc r)) * suc b) ≡ negsuc (b - suc r) = ap (λ n. pos a -ℤ pos (n * suc b)) one ∙ less in
    rw h (omega (arith, ints), omega (arith, ints))

-- A negative number divided by a negative one.
both : (q m a b : ℕ) → q * suc b + m ≡ suc a → m < suc b
    → (negsuc b <ℤ (negsuc a -ℤ neg_ℤ (pos (q * suc b)))) × ((negsuc a -ℤ neg_ℤ (pos (q * suc b))) ≤ℤ pos 0)
both q m a b e lt =
    let h : negsuc a -ℤ neg_ℤ (pos (q * suc b)) ≡ neg_ℤ (pos m) = omega (arith, ints) in
    rw h (omega (arith, ints), omega (arith, ints))

by_negative : (x : ℤ) (b : ℕ) → (negsuc b <ℤ modulo x (negsuc b)) × (modulo x (negsuc b) ≤ℤ pos 0)
by_negative (pos a) b =
    rw (product (a / suc b + min 1 (a % suc b)) b)
    (above (a / suc b) (a % suc b) a b (div-add-mod' a (suc b)) (omega arith))
by_negative (negsuc a) b =
    both (suc a / suc b) (suc a % suc b) a b (div-add-mod' (suc a) (suc b)) (omega arith)

pub negative : (x y : ℤ) → y <ℤ pos 0 → (y <ℤ modulo x y) × (modulo x y ≤ℤ pos 0)
negative x (pos b) h = absurd (omega (arith, ints))
negative x (negsuc b) h = by_negative x b
