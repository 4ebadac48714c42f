-- The value of an integer token is at most 2^63.
use Rattle.std.proofs.Common.{◌≡◌, ℕ, ◌+◌, ◌<◌, ◌≤◌, ◌^◌, Bool, true, false, cond, nat_lt, ◌==◌, ◌&&◌, ◌||◌, List, [], ◌∷◌, length, take, drop, slice_index, Option, Some, None, Result, Ok, Err, refl, sym, subst, ◌∙◌, arith}
use Rattle.std.proofs.lemmas.Bool.Decides.{nat_tests}
use Rattle.std.proofs.lemmas.Str.{scalars-chars, IsUtf8-from_is_utf8}
use Rattle.std.proofs.Math.Utf8.{scalar, scalar_fits}
use Rattle.std.specs.Char.{is_ascii_digit}
use Rattle.std.specs.Str.{all_scalars, chars, is_utf8}
use Rattle.std.specs.Str.Parse.{digits_value}
use Rattle.pl_model.specs.Tokens.{Front, nothing, scalar as scalar_front, broken, front, front_of, skip_layout, closes_clause, run}
use Rattle.pl_model.specs.Characters.{is_symbol}
use Rattle.pl_model.specs.LexicalCharacters.{begins}
use Rattle.pl_model.specs.LexicalQuoted.{is_digit, digit_count, simple_escape, coded, digits_escape, four_digits_escape, simple_piece, escape, begins_with, piece_of, piece, Spelled, closed, quoted_by, closing, spelled}
use Rattle.pl_model.specs.LexicalTokens.{integer, radix_constant, decimal_constant, coded_character, character_code, radix_of, numeral, token_of, token_front, placed, from_start, token, token_at}
use Rattle.pl_model.specs.declared.syntax.SyntaxKind.TheVariants.{BadUtf8, BadEscape, FloatNumeral, IntegerTooLarge}
use Rattle.pl_model.specs.declared.syntax.SyntaxFault.{SyntaxFault}
use Rattle.pl_model.specs.declared.lexical.Begins.{Begins}
use Rattle.pl_model.specs.declared.lexical.Begins.TheVariants.{Name as NameBegins, Variable as VariableBegins, Digit, Symbol, Solo, Quote, Punctuation as PunctuationBegins, Other}
use Rattle.pl_model.specs.declared.lexical.Piece.{Piece}
use Rattle.pl_model.specs.declared.lexical.Piece.TheVariants.{Character, Continuation, Close, Bad}
use Rattle.pl_model.specs.declared.lexical.TokenKind.{TokenKind}
use Rattle.pl_model.specs.declared.lexical.TokenKind.TheVariants.{Name, Integer, Quoted, DoubleQuoted, BackQuoted, EndToken}
use Rattle.pl_model.specs.declared.lexical.Reading.{Reading}
use Rattle.pl_model.specs.declared.lexical.Reading.TheVariants.{Token, Fault, Nothing}
use Rattle.pl_model.proofs.CharacterRuns.{front-ascii, front-wide}
use Rattle.pl_model.proofs.LexicalPieces.{piece_front, piece-front}

abbrev Small : ℕ → Type 0
Small n = n ≤ 2 ^ 63

abbrev SmallKind : TokenKind → Type 0
SmallKind (Integer n) = Small n
SmallKind k = Unit {0}

abbrev SmallReading : Reading → Type 0
SmallReading (Token kind size) = SmallKind kind
SmallReading r = Unit {0}

abbrev SmallPiece : Piece → Type 0
SmallPiece (Character c k) = Small c
SmallPiece p = Unit {0}

abbrev SmallOption : Option ℕ → Type 0
SmallOption (Some c) = Small c
SmallOption None = Unit {0}

either_reading : (t : Bool) (x y : Reading) → (t ≡ true → SmallReading x) → (t ≡ false → SmallReading y) → SmallReading (cond t x y)
either_reading true x y f g = f refl
either_reading false x y f g = g refl

either_piece : (t : Bool) (x y : Piece) → (t ≡ true → SmallPiece x) → SmallPiece y → SmallPiece (cond t x y)
either_piece true x y f g = f refl
either_piece false x y f g = g

either_option : (t : Bool) (x y : Option ℕ) → SmallOption x → SmallOption y → SmallOption (cond t x y)
either_option true x y f g = f
either_option false x y f g = g

both_left : (a b : Bool) → (a && b) ≡ true → a ≡ true
both_left true b e = refl
both_left false b e = cc

scalar-small : (c : ℕ) → scalar c ≡ true → Small c
scalar-small c e = omega (arith, scalar_fits c e)

first-small : (cs : List ℕ) → all_scalars cs ≡ true → Small (slice_index cs 0)
first-small [] e = omega arith
first-small (c ∷ cs) e = scalar-small c (both_left (scalar c) (all_scalars cs) e)

-- Characters.

front_of-small : (t : Bool) (bs : List ℕ) (c k : ℕ) → is_utf8 bs ≡ t → front_of t bs ≡ scalar_front c k → Small c
front_of-small true bs c k text e =
    let same : slice_index (chars bs) 0 ≡ c = cc in
    subst Small same (first-small (chars bs) (scalars-chars bs (IsUtf8-from_is_utf8 bs text)))
front_of-small false bs c k text e = cc

front-small-by : (t : Bool) (b : ℕ) (bs : List ℕ) (c k : ℕ) → nat_lt b 128 ≡ t → front (b ∷ bs) ≡ scalar_front c k → Small c
front-small-by true b bs c k h e =
    let one : scalar_front b 1 ≡ scalar_front c k = sym (front-ascii b bs h) ∙ e in
    let same : b ≡ c = cc in
    let low : b < 128 = grind (arith, nat_tests) in
    omega arith
front-small-by false b bs c k h e = front_of-small _ _ c k refl (sym (front-wide b bs h) ∙ e)

front-small : (bs : List ℕ) (c k : ℕ) → front bs ≡ scalar_front c k → Small c
front-small [] c k e = cc
front-small (b ∷ bs) c k e = front-small-by (nat_lt b 128) b bs c k refl e

-- Escape sequences.

simple_escape-small : (c : ℕ) → Small c → SmallOption (simple_escape c)
simple_escape-small c h =
    either_option (c == 97) _ _ (omega arith) (either_option (c == 98) _ _ (omega arith) (either_option (c == 102) _ _ (omega arith)
    (either_option (c == 110) _ _ (omega arith) (either_option (c == 114) _ _ (omega arith) (either_option (c == 116) _ _ (omega arith)
    (either_option (c == 118) _ _ (omega arith) (either_option (c == 101) _ _ (omega arith) (either_option (c == 115) _ _ (omega arith)
    (either_option ((c == 92) || ((c == 39) || ((c == 34) || (c == 96)))) (Some c) None h tt)))))))))

coded-small : (code size : ℕ) → SmallPiece (coded code size)
coded-small code size =
    either_piece (all_scalars (code ∷ [])) (Character code size) (Bad BadEscape 2)
    (λ t. scalar-small code (both_left (scalar code) (all_scalars []) t)) tt

digits_escape-small : (radix before : ℕ) (bs : List ℕ) → SmallPiece (digits_escape radix before bs)
digits_escape-small radix before bs =
    either_piece (digit_count radix bs == 0) (Bad BadEscape 2) _ (λ _. tt) (coded-small (digits_value radix (take (digit_count radix bs) bs)) _)

simple_piece-small : (o : Option ℕ) (bs : List ℕ) (c k : ℕ) → SmallOption o → SmallPiece (simple_piece o bs c k)
simple_piece-small (Some code) bs c k h = h
simple_piece-small None bs c k h =
    either_piece (c == 10) (Continuation 2) _ (λ _. tt) (either_piece (c == 120) (digits_escape 16 2 (drop 1 bs)) _ (λ _. digits_escape-small 16 2 (drop 1 bs))
    (either_piece (is_digit 8 c) (digits_escape 8 1 bs) _ (λ _. digits_escape-small 8 1 bs)
    (either_piece (c == 117) (four_digits_escape (drop 1 bs)) (Bad BadEscape (1 + k))
    (λ _. either_piece (digit_count 16 (take 4 (drop 1 bs)) == 4) (coded (digits_value 16 (take 4 (drop 1 bs))) 6) (Bad BadEscape 2)
    (λ _. coded-small (digits_value 16 (take 4 (drop 1 bs))) 6) tt) tt)))

abbrev escape_by : List ℕ → Front → Piece
escape_by bs nothing = Bad BadEscape 1
escape_by bs (scalar_front c k) = simple_piece (simple_escape c) bs c k
escape_by bs broken = Bad BadEscape 2

escape-by : (bs : List ℕ) → escape bs ≡ escape_by bs (front bs)
escape-by bs = by (front bs) where
  by : (f : Front) → elim f [ nothing ↦ Bad BadEscape 1 | scalar_front c k ↦ simple_piece (simple_escape c) bs c k | broken ↦ Bad BadEscape 2 ] ≡ escape_by bs f
  by nothing = refl
  by (scalar_front c k) = refl
  by broken = refl

escape_by-small : (bs : List ℕ) (f : Front) → front bs ≡ f → SmallPiece (escape_by bs f)
escape_by-small bs nothing e = tt
escape_by-small bs (scalar_front c k) e = simple_piece-small (simple_escape c) bs c k (simple_escape-small c (front-small bs c k e))
escape_by-small bs broken e = tt

escape-small : (bs : List ℕ) → SmallPiece (escape bs)
escape-small bs = subst SmallPiece (sym (escape-by bs)) (escape_by-small bs (front bs) refl)

piece_of-small : (quote : ℕ) (bs : List ℕ) (c k : ℕ) → Small quote → Small c → SmallPiece (piece_of quote bs c k)
piece_of-small quote bs c k q h =
    either_piece (c == quote) (cond (begins_with quote (drop 1 bs)) (Character quote 2) Close) _
    (λ _. either_piece (begins_with quote (drop 1 bs)) (Character quote 2) Close (λ _. q) tt)
    (either_piece (c == 92) (escape (drop 1 bs)) (Character c k) (λ _. escape-small (drop 1 bs)) h)

piece_front-small : (quote : ℕ) (bs : List ℕ) (f : Front) → Small quote → front bs ≡ f → SmallPiece (piece_front quote bs f)
piece_front-small quote bs nothing q e = tt
piece_front-small quote bs (scalar_front c k) q e = piece_of-small quote bs c k q (front-small bs c k e)
piece_front-small quote bs broken q e = tt

piece-small : (quote : ℕ) (bs : List ℕ) → Small quote → SmallPiece (piece quote bs)
piece-small quote bs q = subst SmallPiece (sym (piece-front quote bs)) (piece_front-small quote bs (front bs) q refl)

-- Numerals.

coded_character-small : (p : Piece) → SmallPiece p → SmallReading (coded_character p)
coded_character-small (Character c k) h = h
coded_character-small (Continuation k) h = tt
coded_character-small Close h = tt
coded_character-small (Bad kind k) h = tt

not_large : (n : ℕ) → nat_lt (2 ^ 63) n ≡ false → Small n
not_large n e = grind (arith, nat_tests)

integer-small : (value size : ℕ) → SmallReading (integer value size)
integer-small value size =
    either_reading (nat_lt (2 ^ 63) value) (Fault IntegerTooLarge 0) (Token (Integer value) size) (λ _. tt) (not_large value)

decimal-small : (bs : List ℕ) → SmallReading (decimal_constant bs)
decimal-small bs =
    let k = digit_count 10 bs in
    let value = digits_value 10 (take k bs) in
    either_reading (nat_lt (2 ^ 63) value) (Fault IntegerTooLarge 0) _ (λ _. tt)
    (λ t. either_reading ((slice_index bs k == 46) && is_ascii_digit (slice_index bs (k + 1))) (Fault FloatNumeral 0) (Token (Integer value) k)
    (λ _. tt) (λ _. not_large value t))

numeral-small : (bs : List ℕ) → SmallReading (numeral bs)
numeral-small bs =
    let zero_first = slice_index bs 0 == 48 in
    let radix = radix_of (slice_index bs 1) in
    let behind = drop 2 bs in
    either_reading (zero_first && ((slice_index bs 1 == 39) && nat_lt 2 (length bs))) (character_code behind) _
    (λ _. either_reading (slice_index behind 0 == 10) (Fault BadEscape 0) (coded_character (piece 39 behind)) (λ _. tt)
    (λ _. coded_character-small (piece 39 behind) (piece-small 39 behind (omega arith))))
    (λ _. either_reading (zero_first && is_digit radix (slice_index bs 2)) (radix_constant radix bs) (decimal_constant bs)
    (λ _. integer-small (digits_value radix (take (digit_count radix behind) behind)) (digit_count radix behind + 2)) (λ _. decimal-small bs))

-- Tokens.

kind-small : (t u : Bool) (cs : List ℕ) → SmallKind (cond t (Quoted cs) (cond u (DoubleQuoted cs) (BackQuoted cs)))
kind-small true u cs = tt
kind-small false true cs = tt
kind-small false false cs = tt

closed-small : (quote size : ℕ) (s : Spelled) → SmallReading (closed quote size s)
closed-small quote size (Ok cs) = kind-small (quote == 39) (quote == 34) cs
closed-small quote size (Err f) = tt

quoted_by-small : (quote : ℕ) (bs : List ℕ) (o : Option ℕ) → SmallReading (quoted_by quote bs o)
quoted_by-small quote bs None = tt
quoted_by-small quote bs (Some n) = closed-small quote (n + 2) (spelled quote 1 0 bs)

token_of-small : (direct : Bool) (bs : List ℕ) (b : Begins) (c k : ℕ) → SmallReading (token_of direct bs b c k)
token_of-small direct bs NameBegins c k = tt
token_of-small direct bs VariableBegins c k = tt
token_of-small direct bs Digit c k = numeral-small bs
token_of-small direct bs Symbol c k =
    let n = run is_symbol 0 bs in
    either_reading ((n == 1) && ((slice_index bs 0 == 46) && closes_clause (drop 1 bs))) (Token EndToken 1) (Token (Name (chars (take n bs))) n) (λ _. tt) (λ _. tt)
token_of-small direct bs Solo c k = tt
token_of-small direct bs Quote c k = quoted_by-small c (drop 1 bs) (closing c 0 (drop 1 bs))
token_of-small direct bs (PunctuationBegins mark) c k = tt
token_of-small direct bs Other c k = tt

abbrev at_front : Bool → List ℕ → Front → Reading
at_front direct bs nothing = Nothing
at_front direct bs (scalar_front c k) = token_of direct bs (begins c) c k
at_front direct bs broken = Fault BadUtf8 0

token_front-at : (direct : Bool) (bs : List ℕ) → token_front direct bs ≡ at_front direct bs (front bs)
token_front-at direct bs = by (front bs) where
  by : (f : Front) → elim f [ nothing ↦ Nothing | scalar_front c k ↦ token_of direct bs (begins c) c k | broken ↦ Fault BadUtf8 0 ] ≡ at_front direct bs f
  by nothing = refl
  by (scalar_front c k) = refl
  by broken = refl

at_front-small : (direct : Bool) (bs : List ℕ) (f : Front) → SmallReading (at_front direct bs f)
at_front-small direct bs nothing = tt
at_front-small direct bs (scalar_front c k) = token_of-small direct bs (begins c) c k
at_front-small direct bs broken = tt

placed-small : (start : ℕ) (x : Reading) (n s e : ℕ) → SmallReading x → placed start x ≡ token (Integer n) s e → n ≤ 2 ^ 63
placed-small start (Token kind size) n s e small is =
    let same : kind ≡ Integer n = cc in subst SmallKind same small
placed-small start (Fault kind k) n s e small is = cc
placed-small start Nothing n s e small is = cc

from_start-small : (text : List ℕ) (at : ℕ) (r : Result ℕ SyntaxFault) (n s e : ℕ) → from_start text at r ≡ token (Integer n) s e → n ≤ 2 ^ 63
from_start-small text at (Err f) n s e is = cc
from_start-small text at (Ok start) n s e is =
    placed-small start (token_front (start == at) (drop start text)) n s e
    (subst SmallReading (sym (token_front-at (start == at) (drop start text))) (at_front-small (start == at) (drop start text) (front (drop start text)))) is

pub integer-bound : (text : List ℕ) (at n s e : ℕ) → token_at text at ≡ token (Integer n) s e → n ≤ 2 ^ 63
unfolding token_at
integer-bound text at n s e is = from_start-small text at (skip_layout at 0 (drop at text)) n s e is
