-- The bytes of a character, and of a run of characters, are UTF-8.
use Rattle.std.proofs.Common.{◌≡◌, ℕ, ◌+◌, ◌<◌, ◌≤◌, zero, suc, Bool, true, false, cond, nat_lt, List, [], ◌∷◌, ◌++◌, length, take, drop, min, refl, ap, sym, subst, ◌∙◌, arith}
use Rattle.std.proofs.lemmas.List.{length-take, length-drop, take_min}
use Rattle.std.proofs.Math.Seq.{take-nil}
use lib.Utf8.{low_scalar}
use lib.Dec.{ltb→lt}
use Rattle.std.proofs.lemmas.Str.{IsUtf8-nil, IsUtf8-append, IsUtf8-from_is_utf8, IsUtf8-encode, encode_ascii}
use Rattle.std.specs.Str.{IsUtf8, is_utf8, continuation_len}
use Rattle.pl_model.specs.Tokens.{Front, nothing, scalar, broken, front, front_of, run}
use Rattle.pl_model.proofs.CharacterRuns.{front-ascii, front-wide, front-bounds, run-passes, run-stops, run-broken}

take-add : (m n : ℕ) (bs : List ℕ) → take (m + n) bs ≡ take m bs ++ take n (drop m bs)
take-add zero n bs = ap (λ k. take k bs) (omega arith)
take-add (suc m) n [] = take-nil (suc m + n) ∙ sym (take-nil n)
take-add (suc m) n (b ∷ bs) =
    let more : suc m + n ≡ suc (m + n) = omega arith in
    ap (λ k. take k (b ∷ bs)) more ∙ ap (λ xs. b ∷ xs) (take-add m n bs)

-- A character at the front.

nothing_front : (t : Bool) (b : ℕ) (u : Bool) (piece : List ℕ) → cond t (scalar b 1) (front_of u piece) ≡ nothing → ⊥
nothing_front true b u piece e = cc
nothing_front false b true piece e = cc
nothing_front false b false piece e = cc

something : (b : ℕ) (bs : List ℕ) → front (b ∷ bs) ≡ nothing → ⊥
something b bs e =
    nothing_front (nat_lt b 128) b (is_utf8 (take (suc (continuation_len b)) (b ∷ bs))) (take (suc (continuation_len b)) (b ∷ bs)) e

text-front_of : (t : Bool) (piece : List ℕ) (c k : ℕ) → is_utf8 piece ≡ t → front_of t piece ≡ scalar c k → IsUtf8 piece × (k ≡ length piece)
text-front_of true piece c k h e = (IsUtf8-from_is_utf8 piece h, cc)
text-front_of false piece c k h e = cc

ascii-text : (b : ℕ) → b < 128 → IsUtf8 (b ∷ [])
ascii-text b h = subst IsUtf8 (encode_ascii b h) (IsUtf8-encode b (low_scalar b (omega arith)))

front-text-by : (t : Bool) (b : ℕ) (bs : List ℕ) (c k : ℕ) → nat_lt b 128 ≡ t → front (b ∷ bs) ≡ scalar c k → IsUtf8 (take k (b ∷ bs))
front-text-by true b bs c k h e =
    let one : scalar b 1 ≡ scalar c k = sym (front-ascii b bs h) ∙ e in
    let size : k ≡ 1 = cc in
    let low : b < 128 = ltb→lt b 128 (rw h tt) in
    rw size (ascii-text b low)
front-text-by false b bs c k h e =
    let n = suc (continuation_len b) in
    let piece = take n (b ∷ bs) in
    let found = text-front_of (is_utf8 piece) piece c k refl (sym (front-wide b bs h) ∙ e) in
    let size : k ≡ min n (length (b ∷ bs)) = found.1 ∙ length-take n (b ∷ bs) in
    rw (size, take_min n (b ∷ bs)) found.0

pub front-text : (bs : List ℕ) (c k : ℕ) → front bs ≡ scalar c k → IsUtf8 (take k bs)
front-text [] c k e = cc
front-text (b ∷ bs) c k e = front-text-by (nat_lt b 128) b bs c k refl e

-- A run of characters.

run-text-by : (p : ℕ → Bool) (bs : List ℕ) (t : Bool) (c k : ℕ) → front bs ≡ scalar c k → p c ≡ t
    → IsUtf8 (take (run p 0 (drop k bs)) (drop k bs)) → IsUtf8 (take (run p 0 bs) bs)
run-text-by p bs true c k e pass behind =
    rw (run-passes p bs c k e pass, take-add k (run p 0 (drop k bs)) bs)
    (IsUtf8-append (take k bs) (take (run p 0 (drop k bs)) (drop k bs)) (front-text bs c k e) behind)
run-text-by p bs false c k e fails behind = rw (run-stops p bs c k e fails) IsUtf8-nil

run-text-front : (p : ℕ → Bool) (bs : List ℕ) (f : Front) → front bs ≡ f
    → ((k : ℕ) → 0 < k → IsUtf8 (take (run p 0 (drop k bs)) (drop k bs))) → IsUtf8 (take (run p 0 bs) bs)
run-text-front p [] f e later = IsUtf8-nil
run-text-front p (b ∷ bs) nothing e later = absurd (something b bs e)
run-text-front p (b ∷ bs) (scalar c k) e later =
    run-text-by p (b ∷ bs) (p c) c k e refl (later k (front-bounds (b ∷ bs) c k e).0)
run-text-front p (b ∷ bs) broken e later = rw (run-broken p (b ∷ bs) e) IsUtf8-nil

run-text-within : (p : ℕ → Bool) (n : ℕ) (bs : List ℕ) → length bs ≤ n → IsUtf8 (take (run p 0 bs) bs)
run-text-within p zero [] h = IsUtf8-nil
run-text-within p zero (b ∷ bs) h = absurd (omega arith)
run-text-within p (suc n) bs h =
    run-text-front p bs (front bs) refl (λ k some. run-text-within p n (drop k bs) (omega (arith, length-drop k bs)))

pub run-text : (p : ℕ → Bool) (bs : List ℕ) → IsUtf8 (take (run p 0 bs) bs)
run-text p bs = run-text-within p (length bs) bs (omega arith)
