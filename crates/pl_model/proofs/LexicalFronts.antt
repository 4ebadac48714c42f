-- A character's UTF-8 at the front of bytes is that character.
use Rattle.std.proofs.Common.{◌≡◌, ℕ, ◌+◌, ◌/◌, ◌%◌, ◌<◌, ◌≤◌, Bool, true, false, cond, nat_lt, List, [], ◌∷◌, ◌++◌, length, take, slice_index, refl, sym, ap, ◌∙◌, arith}
use Rattle.std.specs.Char.{encode_utf8, IsScalar}
use Rattle.std.specs.Str.{chars, IsUtf8, continuation_len}
use Rattle.std.proofs.lemmas.Bool.Decides.{nat_tests}
use Rattle.std.proofs.lemmas.List.{append-nil}
use Rattle.std.proofs.lemmas.Str.{encode_ascii, IsUtf8-encode, is_utf8-from_IsUtf8, chars_past_char, chars-nil}
use Rattle.std.proofs.Math.Seq.{take-append_seam}
use Rattle.std.proofs.Math.Utf8.{encode}
use lib.Dec.{ltb}
use Rattle.pl_model.specs.Tokens.{scalar, front, front_of, wide_front}
use Rattle.pl_model.proofs.CharacterRuns.{front-ascii, front-wide}

-- The first byte of a character past ASCII says how many follow.
record Wide (piece : List ℕ) : Type 0 where
  lead : ℕ
  tail : List ℕ
  is : piece ≡ lead ∷ tail
  high : 128 ≤ lead
  long : length tail ≡ continuation_len lead

two_bytes : (b : ℕ) → 128 ≤ b → b < 224 → 1 ≡ continuation_len b
two_bytes b low high = grind (arith, nat_tests)

three_bytes : (b : ℕ) → 224 ≤ b → b < 240 → 2 ≡ continuation_len b
three_bytes b low high = grind (arith, nat_tests)

four_bytes : (b : ℕ) → 240 ≤ b → 3 ≡ continuation_len b
four_bytes b low = grind (arith, nat_tests)

wide_by : (s t : Bool) (c w x y : ℕ) → 128 ≤ c → nat_lt c 2048 ≡ s → nat_lt c 65536 ≡ t
    → Wide (cond s ((192 + c / 64) ∷ w ∷ []) (cond t ((224 + c / 4096) ∷ x ∷ w ∷ []) ((240 + c / 262144) ∷ y ∷ x ∷ w ∷ [])))
wide_by true t c w x y low small e =
    let less : c < 2048 = grind (arith, nat_tests) in
    record { lead = 192 + c / 64; tail = w ∷ []; is = refl; high = omega arith; long = two_bytes (192 + c / 64) (omega arith) (omega arith) }
wide_by false true c w x y low large e =
    let less : c < 65536 = grind (arith, nat_tests) in
    record { lead = 224 + c / 4096; tail = x ∷ w ∷ []; is = refl; high = omega arith; long = three_bytes (224 + c / 4096) (omega arith) (omega arith) }
wide_by false false c w x y low large e =
    record { lead = 240 + c / 262144; tail = y ∷ x ∷ w ∷ []; is = refl; high = omega arith; long = four_bytes (240 + c / 262144) (omega arith) }

past_ascii : (c : ℕ) (t : Bool) (xs ys : List ℕ) → nat_lt c 128 ≡ false → Wide ys → Wide (cond (nat_lt c 128) xs ys)
past_ascii c t xs ys e w = rw e w

wide : (c : ℕ) → 128 ≤ c → Wide (encode c)
unfolding encode
wide c low =
    let no : nat_lt c 128 ≡ false = grind (arith, nat_tests) in
    past_ascii c true (c ∷ []) _ no (wide_by (nat_lt c 2048) (nat_lt c 65536) c (128 + c % 64) (128 + c / 64 % 64) (128 + c / 4096 % 64) low refl refl)

front-wide_piece : (c : ℕ) (piece bs : List ℕ) → Wide piece → IsUtf8 piece → chars piece ≡ c ∷ [] → front (piece ++ bs) ≡ scalar c (length piece)
front-wide_piece c piece bs w utf8 spells =
    let no : nat_lt w.lead 128 ≡ false = low w.lead w.high in
    ap (λ ps. front (ps ++ bs)) w.is
    ∙ front-wide w.lead (w.tail ++ bs) no
    ∙ ap (λ n. wide_front (w.lead ∷ take n (w.tail ++ bs))) (sym w.long)
    ∙ ap (λ ts. wide_front (w.lead ∷ ts)) (take-append_seam w.tail bs)
    ∙ ap wide_front (sym w.is)
    ∙ ap (λ t. front_of t piece) (is_utf8-from_IsUtf8 piece utf8)
    ∙ ap (λ cs. scalar (slice_index cs 0) (length piece)) spells
  where
    low : (b : ℕ) → 128 ≤ b → nat_lt b 128 ≡ false
    low b h = grind (arith, nat_tests)

pub chars-one : (c : ℕ) → IsScalar c → chars (encode_utf8 c) ≡ c ∷ []
chars-one c is = chars_past_char (encode_utf8 c) [] c (IsUtf8-encode c is) (sym (append-nil (encode_utf8 c))) ∙ ap (λ cs. c ∷ cs) chars-nil

front-encode_by : (t : Bool) (c : ℕ) (bs : List ℕ) → IsScalar c → nat_lt c 128 ≡ t → front (encode_utf8 c ++ bs) ≡ scalar c (length (encode_utf8 c))
front-encode_by true c bs is e =
    let low : c < 128 = grind (arith, nat_tests) in
    ap (λ ps. front (ps ++ bs)) (encode_ascii c low) ∙ front-ascii c bs e ∙ ap (λ ps. scalar c (length ps)) (sym (encode_ascii c low))
front-encode_by false c bs is e =
    let high : 128 ≤ c = grind (arith, nat_tests) in
    front-wide_piece c (encode_utf8 c) bs (wide c high) (IsUtf8-encode c is) (chars-one c is)

pub front-encode : (c : ℕ) (bs : List ℕ) → IsScalar c → front (encode_utf8 c ++ bs) ≡ scalar c (length (encode_utf8 c))
front-encode c bs is = front-encode_by (nat_lt c 128) c bs is refl
