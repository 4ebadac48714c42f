-- Numbers that texts spell.
use Rattle.std.proofs.Common.{◌≡◌, ◌≢◌, ℕ, ℤ, pos, negsuc, zero, suc, ◌^◌, ◌<◌, ◌≤◌, ◌==◌, true, false, if◌then◌else◌, List, [], ◌∷◌, length, drop, slice_index, Option, Some, None, option_map, refl, sym, ap, subst, ◌∙◌, arith}
use Rattle.std.specs.Prelude.{neg_ℤ}
use Rattle.std.specs.Str.{IsUtf8, chars}
use Rattle.std.proofs.lemmas.Bool.{eq-eqb, le-ltb, ne_eqb}
use Rattle.std.proofs.lemmas.Str.{encodes-chars}
use Rattle.pl_model.specs.AtomBuiltins.{behind_layout, number_in, numeral_at, signed, whole_numeral}
use Rattle.pl_model.specs.Tokens.{skip_layout}
use Rattle.lex_core.specs.declared.number_texts.NumberText.TheVariants.{TooLarge}
use Rattle.lex_core.specs.NumberTexts.{IsNumber, saturated, saturated_numeral, saturated_value}

-- A numeral that is all of the bytes, or not.
pub no_numeral : (bs : List ℕ) (o : Option (ℕ × ℕ)) → None ≡ saturated_numeral o → None ≡ saturated_value (whole_numeral bs o)
no_numeral bs None e = refl
no_numeral bs (Some n) e = cc

module _ (bs : List ℕ) (v k : ℕ) where
  parts : (n : ℕ × ℕ) → Some (v, k) ≡ saturated_numeral (Some n) → (v ≡ saturated n.0) × (k ≡ n.1)
  parts n e =
      let same : ◌≡◌ {A = ℕ × ℕ} (v, k) (saturated n.0, n.1) = cc in
      (ap (λ (p : ℕ × ℕ). p.0) same, ap (λ (p : ℕ × ℕ). p.1) same)

  pub whole : (o : Option (ℕ × ℕ)) → Some (v, k) ≡ saturated_numeral o → k ≡ length bs → Some v ≡ saturated_value (whole_numeral bs o)
  whole None e all = cc
  whole (Some n) e all =
      let both = parts n e in
      ap Some both.0 ∙ sym (ap (λ b. saturated_value (if b then Some n.0 else None)) (eq-eqb n.1 (length bs) (sym both.1 ∙ all)))

  pub not_whole : (o : Option (ℕ × ℕ)) → Some (v, k) ≡ saturated_numeral o → k ≢ length bs → None ≡ saturated_value (whole_numeral bs o)
  not_whole None e less = cc
  not_whole (Some n) e less =
      let both = parts n e in
      sym (ap (λ b. saturated_value (if b then Some n.0 else None)) (ne_eqb n.1 (length bs) (λ same. less (both.1 ∙ same))))

-- Values past the integers of 64 bits.
value : (v n : ℕ) → Some v ≡ saturated_value (Some n) → v ≡ saturated n
value v n e = cc

pub large_from_zero : (o : Option ℕ) (v : ℕ) → Some v ≡ saturated_value o → 2 ^ 63 ≤ v → IsNumber (option_map (λ n. pos n) o) TooLarge
large_from_zero None v e big = cc
large_from_zero (Some n) v e big =
    let same = value v n e in
    (pos n, (refl, le-ltb n (2 ^ 63) (omega (arith, same, big))))

pub large_below_zero : (o : Option ℕ) (v : ℕ) → Some v ≡ saturated_value o → 2 ^ 63 < v → IsNumber (option_map (λ n. neg_ℤ (pos n)) o) TooLarge
large_below_zero None v e big = cc
large_below_zero (Some zero) v e big = let same = value v 0 e in absurd (omega (arith, same, big))
large_below_zero (Some (suc n)) v e big =
    let same = value v (suc n) e in
    (negsuc n, (refl, le-ltb n (2 ^ 63) (omega (arith, same, big))))

-- A minus sign.
pub signed_minus : (bs : List ℕ) → slice_index bs 0 ≡ 45
    → option_map (λ n. neg_ℤ (pos n)) (whole_numeral (drop 1 bs) (numeral_at (drop 1 bs))) ≡ signed bs
signed_minus [] e = absurd (omega (arith, e))
signed_minus (b ∷ bs) e =
    sym
    (ap
    (λ t. if t then option_map (λ n. neg_ℤ (pos n)) (whole_numeral bs (numeral_at bs)) else option_map (λ n. pos n) (whole_numeral (b ∷ bs) (numeral_at (b ∷ bs))))
    (eq-eqb b 45 e))

-- The number of a text by its bytes.
pub by_bytes : (bs : List ℕ) → IsUtf8 bs → behind_layout bs (skip_layout 0 0 bs) ≡ number_in (chars bs)
by_bytes bs u = sym (ap (λ xs. behind_layout xs (skip_layout 0 0 xs)) (encodes-chars bs u))
