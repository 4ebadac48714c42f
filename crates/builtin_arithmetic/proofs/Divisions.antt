-- The quotient rounded downward from the one rounded toward zero.
use Rattle.std.proofs.Common.{◌≡◌, ◌≢◌, ℕ, zero, suc, ◌+◌, ◌*◌, ◌/◌, ◌%◌, ◌<◌, Bool, true, false, ◌≤◌, ◌^◌, ◌-◌, min, cond, ltb, refl, sym, ap, ◌∙◌, arith, int_div, int_rem, if◌then◌else◌, w64}
use lib.Signed.{mag, mag_rem}
use mir.Val.{SFits, to_z, of_z}
use Rattle.std.specs.Cmp.{signed_Decides}
use Rattle.std.specs.Bool.{Decides}
use Rattle.std.specs.Ordering.{int_eq}
use Rattle.std.proofs.lemmas.Bool.{lt-ltb}
use Rattle.std.specs.Prelude.{ℤ, pos, negsuc, neg_ℤ, ◌+ℤ◌, ◌-ℤ◌, ◌*ℤ◌, Ok}
use Rattle.std.proofs.Math.Nat.{div-add-mod', div-le_self}
use Rattle.std.proofs.Math.Arith.{digits_div}
use Rattle.std.proofs.Math.IntN.{pred_ℤ, pred_ℤ-*ℤ, sub_ℕ}
use Rattle.std.proofs.lemmas.Int.{ints, quot-rem, to_z-of_z}
use Rattle.pl_model.specs.Evaluables.{floor_div, modulo, divided, is_in_range}
use Rattle.builtin_arithmetic.specs.Division.{turns}

-- Of a number and the next one, divided.
exact_at : (a b k : ℕ) → k * suc b ≡ suc a → suc (a / suc b) ≡ k
exact_at a b zero e = absurd (omega arith)
exact_at a b (suc j) e =
    let h : a ≡ j * suc b + b = omega arith in
    ap suc (ap (λ n. n / suc b) h ∙ digits_div j (omega arith))

exact : (a b : ℕ) → suc a % suc b ≡ 0 → suc (a / suc b) ≡ suc a / suc b
exact a b e =
    let h = div-add-mod' (suc a) (suc b) in
    exact_at a b (suc a / suc b) (omega arith)

inexact_at : (a b k r : ℕ) → k * suc b + suc r ≡ suc a → r < suc b → a / suc b ≡ k
inexact_at a b k r e lt =
    let h : a ≡ k * suc b + r = omega arith in
    ap (λ n. n / suc b) h ∙ digits_div k lt

inexact : (a b r : ℕ) → suc a % suc b ≡ suc r → a / suc b ≡ suc a / suc b
inexact a b r e =
    let h = div-add-mod' (suc a) (suc b) in
    inexact_at a b (suc a / suc b) r (omega arith) (omega arith)

pred_neg : (k : ℕ) → pred_ℤ (neg_ℤ (pos k)) ≡ negsuc k
pred_neg zero = refl
pred_neg (suc j) = refl

-- A negative number divided by a positive one, and a positive by a negative one, by the remainder.
left : (a b m : ℕ) → suc a % suc b ≡ m
    → negsuc (a / suc b) ≡ (if turns (neg_ℤ (pos m)) (pos (suc b)) then pred_ℤ (neg_ℤ (pos (suc a / suc b))) else neg_ℤ (pos (suc a / suc b)))
left a b zero e = ap (λ n. neg_ℤ (pos n)) (exact a b e)
left a b (suc r) e = ap negsuc (inexact a b r e) ∙ sym (pred_neg (suc a / suc b))

-- A positive number divided by a negative one, by the remainder.
right : (a b m : ℕ) → a % suc b ≡ m
    → neg_ℤ (pos (a / suc b + min 1 m)) ≡ (if turns (pos m) (negsuc b) then pred_ℤ (neg_ℤ (pos (a / suc b))) else neg_ℤ (pos (a / suc b)))
right a b zero e = ap (λ n. neg_ℤ (pos n)) (omega arith)
right a b (suc r) e =
    let h : a / suc b + min 1 (suc r) ≡ suc (a / suc b) = omega arith in
    ap (λ n. neg_ℤ (pos n)) h ∙ sym (pred_neg (a / suc b))

-- Numbers of one sign.
same : (z : ℤ) (m b : ℕ) → z ≡ (if turns (pos m) (pos b) then pred_ℤ z else z)
same z zero b = refl
same z (suc m) b = refl

same_negative : (z : ℤ) (m b : ℕ) → z ≡ (if turns (neg_ℤ (pos m)) (negsuc b) then pred_ℤ z else z)
same_negative z zero b = refl
same_negative z (suc m) b = refl

-- The quotient rounded downward is one less where the remainder has another sign than the divisor.
pub floor_is : (x y : ℤ) → y ≢ pos 0
    → floor_div x y ≡ (if turns (int_rem x y) y then pred_ℤ (int_div x y) else int_div x y)
floor_is (pos a) (pos b) ne = same (pos (a / b)) (a % b) b
floor_is (pos a) (negsuc b) ne = right a b (a % suc b) refl
floor_is (negsuc a) (pos zero) ne = absurd (ne refl)
floor_is (negsuc a) (pos (suc b)) ne = left a b (suc a % suc b) refl
floor_is (negsuc a) (negsuc b) ne = same_negative (pos (suc a / suc b)) (suc a % suc b) b

-- Its size.
mag_neg_le : (k n : ℕ) → k ≤ suc n → mag (neg_ℤ (pos k)) ≤ n
mag_neg_le zero n h = omega arith
mag_neg_le (suc k) n h = omega arith

pub floor_fits : (x y : ℤ) → SFits w64 x → SFits w64 (int_div x y) → SFits w64 (floor_div x y)
floor_fits (pos a) (pos b) f q = q
floor_fits (pos a) (negsuc b) f q =
    let h = div-le_self a (suc b) in
    let k = mag_neg_le (a / suc b + min 1 (a % suc b)) a (omega arith) in
    record { sfits = omega (arith, f.sfits) }
floor_fits (negsuc a) (pos b) f q =
    let h = div-le_self a b in
    record { sfits = omega (arith, f.sfits) }
floor_fits (negsuc a) (negsuc b) f q = q

-- A result that fits is the value of the division.
in_range_fits : (z : ℤ) → SFits w64 z → is_in_range z ≡ true
in_range_fits (pos n) f = lt-ltb n (2 ^ 63) f.sfits
in_range_fits (negsuc n) f = lt-ltb n (2 ^ 63) f.sfits

false_from_not : {P : Type 0} (r : Bool) → Decides r P → (P → ⊥) → r ≡ false
false_from_not true d n = absurd (n (d.0 refl))
false_from_not false d n = refl

pub divided_fits : (y z : ℤ) → y ≢ pos 0 → SFits w64 z → Ok z ≡ divided y z
divided_fits y z ne f =
    rw (false_from_not (int_eq y (pos 0)) (signed_Decides y (pos 0)) ne) (rw (in_range_fits z f))

pub pred-is : (q : ℤ) → pred_ℤ q ≡ q -ℤ pos 1
pred-is (pos zero) = refl
pred-is (pos (suc n)) = omega (arith, ints)
pred-is (negsuc n) = omega (arith, ints)

-- The results of the code, whose numbers are passed by their bits.
module _ (x y q r : ℤ) (t : Bool) (fx : SFits w64 x) (fy : SFits w64 y) (ne : y ≢ pos 0)
    (fq : SFits w64 (int_div (to_z w64 (of_z w64 x)) (to_z w64 (of_z w64 y))))
    (q-is : q ≡ int_div (to_z w64 (of_z w64 x)) (to_z w64 (of_z w64 y)))
    (r-is : r ≡ int_rem (to_z w64 (of_z w64 x)) (to_z w64 (of_z w64 y)))
    (t-is : t ≡ turns (to_z w64 (of_z w64 r)) (to_z w64 (of_z w64 y))) where
  back_x : to_z w64 (of_z w64 x) ≡ x
  back_x = to_z-of_z w64 x fx

  back_y : to_z w64 (of_z w64 y) ≡ y
  back_y = to_z-of_z w64 y fy

  quotient : q ≡ int_div x y
  quotient = rw (back_x, back_y) at q-is

  quotient_fits : SFits w64 (int_div x y)
  quotient_fits = rw (back_x, back_y) at fq

  q_fits : SFits w64 q
  q_fits = rw quotient quotient_fits

  rest : r ≡ int_rem x y
  rest = rw (back_x, back_y) at r-is

  rest_fits : SFits w64 r
  rest_fits =
      let h = mag_rem x y in
      let k : SFits w64 (int_rem x y) = record { sfits = omega (arith, fx.sfits) } in
      rw rest k

  turning : t ≡ turns (int_rem x y) y
  turning = rw (to_z-of_z w64 r rest_fits, back_y, rest) at t-is

  fits : SFits w64 (floor_div x y)
  fits = floor_fits x y fx quotient_fits

  pub down : t ≡ true → Ok (to_z w64 (of_z w64 (to_z w64 (of_z w64 q) -ℤ pos 1))) ≡ divided y (floor_div x y)
  down e =
      let h : turns (int_rem x y) y ≡ true = sym turning ∙ e in
      let floor : floor_div x y ≡ pred_ℤ (int_div x y) = floor_is x y ne ∙ rw h in
      let less : q -ℤ pos 1 ≡ floor_div x y = sym (pred-is q) ∙ ap pred_ℤ quotient ∙ sym floor in
      ap Ok
      (ap (λ z. to_z w64 (of_z w64 (z -ℤ pos 1))) (to_z-of_z w64 q q_fits)
      ∙ ap (λ z. to_z w64 (of_z w64 z)) less
      ∙ to_z-of_z w64 (floor_div x y) fits)
      ∙ divided_fits y (floor_div x y) ne fits

  pub straight : t ≡ false → Ok (to_z w64 (of_z w64 q)) ≡ divided y (floor_div x y)
  straight e =
      let h : turns (int_rem x y) y ≡ false = sym turning ∙ e in
      let floor : floor_div x y ≡ int_div x y = floor_is x y ne ∙ rw h in
      ap Ok (to_z-of_z w64 q q_fits ∙ quotient ∙ sym floor) ∙ divided_fits y (floor_div x y) ne fits

-- What the quotient rounded downward leaves.
mod_down : (x p y r : ℤ) → p +ℤ r ≡ x → x -ℤ (p -ℤ y) ≡ r +ℤ y
mod_down x p y r e = omega (arith, ints)

mod_straight : (x p r : ℤ) → p +ℤ r ≡ x → x -ℤ p ≡ r
mod_straight x p r e = omega (arith, ints)

modulo_down : (x y : ℤ) → y ≢ pos 0 → turns (int_rem x y) y ≡ true → modulo x y ≡ int_rem x y +ℤ y
modulo_down x y ne h =
    let floor : floor_div x y ≡ pred_ℤ (int_div x y) = floor_is x y ne ∙ rw h in
    ap (λ z. x -ℤ (z *ℤ y)) floor
    ∙ ap (λ z. x -ℤ z) (pred_ℤ-*ℤ (int_div x y) y)
    ∙ mod_down x (int_div x y *ℤ y) y (int_rem x y) (quot-rem x y)

modulo_straight : (x y : ℤ) → y ≢ pos 0 → turns (int_rem x y) y ≡ false → modulo x y ≡ int_rem x y
modulo_straight x y ne h =
    let floor : floor_div x y ≡ int_div x y = floor_is x y ne ∙ rw h in
    ap (λ z. x -ℤ (z *ℤ y)) floor ∙ mod_straight x (int_div x y *ℤ y) (int_rem x y) (quot-rem x y)

cond_fits : (t : Bool) (m n : ℕ) → m < 2 ^ 63 → n < 2 ^ 63 → SFits w64 (cond t (negsuc m) (pos n))
cond_fits true m n hm hn = record { sfits = hm }
cond_fits false m n hm hn = record { sfits = hn }

difference_fits : (a b : ℕ) → a < 2 ^ 63 → b ≤ 2 ^ 63 → SFits w64 (sub_ℕ a b)
difference_fits a b ha hb = cond_fits (ltb a b) (b - suc a) (a - b) (omega arith) (omega arith)

-- A sum of two numbers of which one is negative and the other is not.
sum_fits : (r y : ℤ) → SFits w64 r → SFits w64 y → turns r y ≡ true → SFits w64 (r +ℤ y)
sum_fits (pos zero) y fr fy h = cc
sum_fits (pos (suc r)) (pos b) fr fy h = cc
sum_fits (pos (suc r)) (negsuc b) fr fy h = difference_fits (suc r) (suc b) fr.sfits (omega (arith, fy.sfits))
sum_fits (negsuc r) (pos b) fr fy h = difference_fits b (suc r) fy.sfits (omega (arith, fr.sfits))
sum_fits (negsuc r) (negsuc b) fr fy h = cc

module _ (x y r : ℤ) (t : Bool) (fx : SFits w64 x) (fy : SFits w64 y) (ne : y ≢ pos 0)
    (r-is : r ≡ int_rem (to_z w64 (of_z w64 x)) (to_z w64 (of_z w64 y)))
    (t-is : t ≡ turns (to_z w64 (of_z w64 r)) (to_z w64 (of_z w64 y))) where
  rest_is : r ≡ int_rem x y
  rest_is = rw (to_z-of_z w64 x fx, to_z-of_z w64 y fy) at r-is

  rem_fits : SFits w64 r
  rem_fits =
      let h = mag_rem x y in
      let k : SFits w64 (int_rem x y) = record { sfits = omega (arith, fx.sfits) } in
      rw rest_is k

  turns_is : t ≡ turns r y
  turns_is = rw (to_z-of_z w64 r rem_fits, to_z-of_z w64 y fy) at t-is

  pub raised : t ≡ true
      → Ok (to_z w64 (of_z w64 (to_z w64 (of_z w64 r) +ℤ to_z w64 (of_z w64 y)))) ≡ divided y (modulo x y)
  raised e =
      let h : turns r y ≡ true = sym turns_is ∙ e in
      let f = sum_fits r y rem_fits fy h in
      let m : modulo x y ≡ r +ℤ y = modulo_down x y ne (rw (← rest_is) h) ∙ rw (← rest_is) in
      let g : SFits w64 (modulo x y) = rw m f in
      ap Ok
      (ap (λ z. to_z w64 (of_z w64 (z +ℤ to_z w64 (of_z w64 y)))) (to_z-of_z w64 r rem_fits)
      ∙ ap (λ z. to_z w64 (of_z w64 (r +ℤ z))) (to_z-of_z w64 y fy)
      ∙ to_z-of_z w64 (r +ℤ y) f
      ∙ sym m)
      ∙ divided_fits y (modulo x y) ne g

  pub kept : t ≡ false → Ok (to_z w64 (of_z w64 r)) ≡ divided y (modulo x y)
  kept e =
      let h : turns r y ≡ false = sym turns_is ∙ e in
      let m : modulo x y ≡ r = modulo_straight x y ne (rw (← rest_is) h) ∙ rw (← rest_is) in
      let g : SFits w64 (modulo x y) = rw m rem_fits in
      ap Ok (to_z-of_z w64 r rem_fits ∙ sym m) ∙ divided_fits y (modulo x y) ne g
