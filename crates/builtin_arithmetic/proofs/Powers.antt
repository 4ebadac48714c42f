-- Powers by squaring.
use Rattle.std.specs.Prelude.{ℤ, nat_eq, pos, negsuc, unsigned_abs, Ok}
use Rattle.std.proofs.lemmas.Int.{to_z-of_z}
use Rattle.pl_model.specs.Evaluables.{negative_power}
use Rattle.std.specs.Int.{int_pow}
use mir.Val.{bool_byte, SFits, to_z, of_z}
use mir.Syntax.{w64}
use Rattle.std.proofs.lemmas.Bool.Decides.{nat_tests}
use Rattle.std.proofs.Common.{◌≡◌, ◌-◌, lit<, ℕ, zero, suc, ◌+◌, ◌*◌, ◌/◌, ◌%◌, ◌^◌, ◌<◌, ◌≤◌, Bool, true, false, refl, sym, ap, ◌∙◌, arith}
use Rattle.std.proofs.Math.Nat.{pow-le-pow_right, pow-suc, div-one}
use Rattle.std.proofs.Math.Pow.{pow-add, shr-shr, shr_le}
use Rattle.builtin_arithmetic.specs.Powers.{squared}

-- The square of a power has twice the exponent.
squared_is : (b n : ℕ) (odd : Bool) (m : ℕ) → squared (b ^ n) b false ≡ b ^ (n + n)
squared_is b n odd m = sym (pow-add b n n)

even : (b n : ℕ) → n % 2 ≡ 0 → squared (b ^ (n / 2)) b false ≡ b ^ n
even b n h =
    let e : n / 2 + n / 2 ≡ n = omega arith in
    sym (pow-add b (n / 2) (n / 2)) ∙ ap (λ k. b ^ k) e

odd : (b n : ℕ) → n % 2 ≡ 1 → squared (b ^ (n / 2)) b true ≡ b ^ n
odd b n h =
    let e : suc (n / 2 + n / 2) ≡ n = omega arith in
    ap (λ k. k * b) (sym (pow-add b (n / 2) (n / 2))) ∙ sym (pow-suc b (n / 2 + n / 2)) ∙ ap (λ k. b ^ k) e

-- One bit of the exponent further.
pub halved : (e i : ℕ) → e / 2 ^ suc i ≡ e / 2 ^ i / 2
halved e i = sym (shr-shr e i 1 ∙ ap (λ k. e / 2 ^ k) (omega arith))

by_rest : (b n m : ℕ) → n % 2 ≡ m → squared (b ^ (n / 2)) b (nat_eq m 1) ≡ b ^ n
by_rest b n zero h = even b n h
by_rest b n (suc zero) h = odd b n h
by_rest b n (suc (suc m)) h = absurd (omega arith)

step_at : (b e i : ℕ) → squared (b ^ (e / 2 ^ suc i)) b (nat_eq (e / 2 ^ i % 2) 1) ≡ b ^ (e / 2 ^ i)
step_at b e i =
    ap (λ n. squared (b ^ n) b (nat_eq (e / 2 ^ i % 2) 1)) (halved e i)
    ∙ by_rest b (e / 2 ^ i) (e / 2 ^ i % 2) refl

step : (b e i : ℕ) → 0 < i → squared (b ^ (e / 2 ^ i)) b (nat_eq (e / 2 ^ (i - 1) % 2) 1) ≡ b ^ (e / 2 ^ (i - 1))
step b e i lt =
    let h : i ≡ suc (i - 1) = omega arith in
    ap (λ k. squared (b ^ (e / 2 ^ k)) b (nat_eq (e / 2 ^ (i - 1) % 2) 1)) h ∙ step_at b e (i - 1)

pub stepped : (b e i p q : ℕ) → 0 < i → p ≡ b ^ (e / 2 ^ i) → q ≡ squared p b (nat_eq (e / 2 ^ (i - 1) % 2) 1)
    → q ≡ b ^ (e / 2 ^ (i - 1))
stepped b e i p q lt p-is q-is =
    q-is ∙ ap (λ k. squared k b (nat_eq (e / 2 ^ (i - 1) % 2) 1)) p-is ∙ step b e i lt

-- Where the power to the leading bits is too large, the whole power is.
pub too_large : (b e i p : ℕ) → (b ≡ 0 → ⊥) → 0 < i → p ≡ b ^ (e / 2 ^ i)
    → (squared p b (nat_eq (e / 2 ^ (i - 1) % 2) 1) < 2 ^ 64 → ⊥) → b ^ e < 2 ^ 64 → ⊥
too_large b e i p ne lt p-is above fits =
    let h = stepped b e i p (squared p b (nat_eq (e / 2 ^ (i - 1) % 2) 1)) lt p-is refl in
    let le : b ^ (e / 2 ^ (i - 1)) ≤ b ^ e = pow-le-pow_right (omega arith) (shr_le e (i - 1)) in
    above (rw h (omega arith))

pub zero_power : (e n : ℕ) → n ≡ bool_byte (nat_eq e 0) → (0 ^ e < 2 ^ 64) × (n ≡ 0 ^ e)
zero_power zero n h = (lit< tt, h)
zero_power (suc e) n h =
    let z : 0 ^ suc e ≡ 0 = pow-suc 0 e ∙ omega arith in
    let t : nat_eq (suc e) 0 ≡ false = grind (arith, nat_tests) in
    (rw z (lit< tt), h ∙ ap bool_byte t ∙ sym z)

-- All bits of the exponent are taken.
pub whole : (b e i p : ℕ) → i ≤ 0 → p ≡ b ^ (e / 2 ^ i) → p ≡ b ^ e
whole b e i p h p-is =
    let z : i ≡ 0 = omega arith in
    p-is ∙ ap (λ k. b ^ (e / 2 ^ k)) z ∙ ap (λ k. b ^ k) (div-one e)

-- Powers of -1.
one_power : (n : ℕ) → 1 ^ n ≡ 1
one_power zero = refl
one_power (suc n) = pow-suc 1 n ∙ omega (arith, one_power n)

pub minus_one_even : (n : ℕ) → n % 2 ≡ 0 → pos 1 ≡ int_pow (negsuc 0) n
minus_one_even n h = rw (h, one_power n)

pub minus_one_odd : (n : ℕ) → (n % 2 ≡ 0 → ⊥) → negsuc 0 ≡ int_pow (negsuc 0) n
minus_one_odd n h =
    let e : n % 2 ≡ 1 = omega arith in
    rw (e, one_power n)

minus_one_is : (z : ℤ) → SFits w64 z → of_z w64 z ≡ 18446744073709551615 → z ≡ negsuc 0
minus_one_is z f e = sym (to_z-of_z w64 z f) ∙ ap (to_z w64) e

-- The power of -1 to a negative exponent, whose magnitude the code computes.
module _ (x e : ℤ) (n : ℕ) (fx : SFits w64 x) (fe : SFits w64 e) (x-is : of_z w64 x ≡ 18446744073709551615)
    (n-is : n ≡ unsigned_abs (to_z w64 (of_z w64 e))) where
  magnitude : n ≡ unsigned_abs e
  magnitude = rw (to_z-of_z w64 e fe) at n-is

  pub reciprocal_even : n % 2 ≡ 0 → Ok (pos 1) ≡ negative_power x (unsigned_abs e)
  reciprocal_even h =
      rw (minus_one_is x fx x-is) (ap Ok (minus_one_even (unsigned_abs e) (rw magnitude at h)))

  pub reciprocal_odd : (n % 2 ≡ 0 → ⊥) → Ok (negsuc 0) ≡ negative_power x (unsigned_abs e)
  reciprocal_odd h =
      rw (minus_one_is x fx x-is) (ap Ok (minus_one_odd (unsigned_abs e) (λ k. h (rw magnitude k))))
