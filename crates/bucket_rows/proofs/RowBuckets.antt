-- The bytes that stand in the words of a text.
use Rattle.std.proofs.Math.Nat.{pow-le-pow_right}
use mathlib.Core.Logic.{dite}
use native.Mathlib.Decide.{dec_le}
use Rattle.std.proofs.Common.{◌≡◌, ◌+◌, ◌≤◌, ℕ, zero, suc, ◌*◌, ◌/◌, ◌%◌, ◌^◌, ◌<◌, List, [], ◌∷◌, length, get_or, refl, sym, ◌∙◌, arith}
use Rattle.atom_words.specs.Texts.{unpacks}

pub unpacks_length : (ws : List ℕ) → length (unpacks ws) ≡ 8 * length ws
unpacks_length [] = refl
unpacks_length (w ∷ ws) = let rest = unpacks_length ws in omega arith

-- byte by byte
pub byte_at : (ws : List ℕ) (i : ℕ) → i < 8 * length ws → get_or (unpacks ws) i 0 ≡ get_or ws (i / 8) 0 / 2 ^ (8 * (i % 8)) % 256
byte_at [] i h = absurd (omega arith)
byte_at (w ∷ ws) zero h = omega arith
byte_at (w ∷ ws) (suc zero) h = omega arith
byte_at (w ∷ ws) (suc (suc zero)) h = omega arith
byte_at (w ∷ ws) (suc (suc (suc zero))) h = omega arith
byte_at (w ∷ ws) (suc (suc (suc (suc zero)))) h = omega arith
byte_at (w ∷ ws) (suc (suc (suc (suc (suc zero))))) h = omega arith
byte_at (w ∷ ws) (suc (suc (suc (suc (suc (suc zero)))))) h = omega arith
byte_at (w ∷ ws) (suc (suc (suc (suc (suc (suc (suc zero))))))) h = omega arith
byte_at (w ∷ ws) (suc (suc (suc (suc (suc (suc (suc (suc i)))))))) h = let n : ℕ = suc (suc (suc (suc (suc (suc (suc (suc i))))))) in let word : n / 8 ≡ suc (i / 8) = omega arith in let place : n % 8 ≡ i % 8 = omega arith in
    byte_at ws i (omega arith) ∙ sym (λ j. get_or (w ∷ ws) (word j) 0 / 2 ^ (8 * place j) % 256)

-- a row of the table has few heads
pub few_heads : (row : ℕ) → 2 ^ row + 2 ^ row ≤ 4194560 → row < 64
few_heads row h = dite (dec_le 64 row) (λ (le : 64 ≤ row). absurd (let big : 2 ^ 64 ≤ 2 ^ row = pow-le-pow_right {n = 2} (omega arith) {i = 64} {j = row} le in omega (arith, big, h))) (λ (lt : ¬ (64 ≤ row)). omega (arith, lt))
