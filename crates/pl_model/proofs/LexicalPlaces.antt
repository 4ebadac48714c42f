-- Where tokens lie: what stands at the front of bytes has one byte at least and no more than there are, and a fault
-- lies within them.
use Rattle.std.proofs.Common.{◌≡◌, ℕ, ◌+◌, ◌-◌, ◌^◌, ◌<◌, ◌≤◌, zero, suc, Bool, true, false, cond, nat_lt, ◌==◌, ◌&&◌, ◌||◌, List, [], ◌∷◌, length, take, drop, get_or, slice_index, Option, Some, None, option_map, Ok, Err, refl, sym, ap, ◌∙◌, arith}
use Rattle.std.specs.Char.{digit_value, is_ascii_digit, is_ascii_lowercase, is_ascii_uppercase}
use Rattle.std.specs.Str.{chars}
use Rattle.std.specs.Str.Parse.{digits_value}
use Rattle.std.proofs.lemmas.Bool.Decides.{nat_tests}
use Rattle.std.proofs.lemmas.List.{length-drop}
use Rattle.unicode_ident.specs.Ident.{is_xid_start}
use Rattle.pl_model.specs.declared.syntax.SyntaxFault.{SyntaxFault}
use Rattle.pl_model.specs.declared.syntax.SyntaxKind.TheVariants.{BadUtf8, BadEscape, FloatNumeral, IntegerTooLarge}
use Rattle.pl_model.specs.declared.lexical.Begins.{Begins}
use Rattle.pl_model.specs.declared.lexical.Begins.TheVariants.{Name as NameBegins, Variable as VariableBegins, Digit, Symbol, Solo, Quote, Punctuation as PunctuationBegins, Other}
use Rattle.pl_model.specs.declared.lexical.Mark.TheVariants.{Open, Close as CloseMark, OpenList, CloseList, OpenCurly, CloseCurly, Bar, Comma}
use Rattle.pl_model.specs.declared.lexical.Piece.{Piece}
use Rattle.pl_model.specs.declared.lexical.Piece.TheVariants.{Character, Continuation, Close, Bad}
use Rattle.pl_model.specs.declared.lexical.TokenKind.TheVariants.{Name, Integer, EndToken}
use Rattle.pl_model.specs.declared.lexical.Reading.{Reading}
use Rattle.pl_model.specs.declared.lexical.Reading.TheVariants.{Token, Fault, Nothing}
use Rattle.pl_model.specs.Characters.{is_symbol, continues_name}
use Rattle.pl_model.specs.Tokens.{Front, nothing, scalar, broken, front, run, skip_layout, closes_clause}
use Rattle.pl_model.specs.LexicalCharacters.{is_solo, is_quote, punctuation, ascii_begins, begins}
use Rattle.pl_model.specs.LexicalQuoted.{is_digit, digit_count, piece, HasSize, closing, Spelled, behind, spelled, closed, quoted_by, quoted}
use Rattle.pl_model.specs.LexicalTokens.{word_size, integer, radix_constant, decimal_constant, coded_character, character_code, radix_of, numeral, symbols, token_of, token_front, placed, from_start, token_at}
use Rattle.pl_model.proofs.CharacterRuns.{front-bounds, run-within, run-passes}
use Rattle.pl_model.proofs.LexicalPieces.{piece-size, closing_piece, closing-piece, spelled_piece, spelled-piece}

-- What is read within this many bytes.
abbrev pub ReadsWithin : ℕ → Reading → Type 0
ReadsWithin n (Token kind size) = (0 < size) × (size ≤ n)
ReadsWithin n (Fault kind at) = at ≤ n
ReadsWithin n Nothing = Unit {0}

either : (n : ℕ) (t : Bool) (p q : Reading) → (t ≡ true → ReadsWithin n p) → (t ≡ false → ReadsWithin n q) → ReadsWithin n (cond t p q)
either n true p q f g = f refl
either n false p q f g = g refl

both : (a b : Bool) → (a && b) ≡ true → (a ≡ true) × (b ≡ true)
both true b e = (refl, e)
both false b e = cc

-- Numerals.

integer-within : (n value size : ℕ) → 0 < size → size ≤ n → ReadsWithin n (integer value size)
integer-within n value size some within =
    either n (nat_lt (2 ^ 63) value) (Fault IntegerTooLarge 0) (Token (Integer value) size) (λ _. omega arith) (λ _. (some, within))

radix_some : (x b : ℕ) → nat_lt x (radix_of b) ≡ true → 0 < b
radix_some x zero e = let no : x < 0 = grind (arith, nat_tests) in omega arith
radix_some x (suc b) e = omega arith

read_inside : (bs : List ℕ) (n : ℕ) → 0 < get_or bs n 0 → n < length bs
read_inside [] n h = absurd (omega arith)
read_inside (b ∷ bs) zero h = omega arith
read_inside (b ∷ bs) (suc n) h = omega (arith, read_inside bs n h)

radix_constant-within : (radix : ℕ) (bs : List ℕ) → 2 ≤ length bs → ReadsWithin (length bs) (radix_constant radix bs)
radix_constant-within radix bs two =
    let n = digit_count radix (drop 2 bs) in
    let rest : n ≤ length (drop 2 bs) = run-within (is_digit radix) 0 (drop 2 bs) in
    integer-within (length bs) (digits_value radix (take n (drop 2 bs))) (n + 2) (omega arith) (omega (arith, length-drop 2 bs))

decimal_digit : (c : ℕ) → is_ascii_digit c ≡ true → is_digit 10 c ≡ true
decimal_digit c e = grind (arith, nat_tests)

decimal_constant-within : (bs : List ℕ) (c k : ℕ) → front bs ≡ scalar c k → is_ascii_digit c ≡ true → ReadsWithin (length bs) (decimal_constant bs)
decimal_constant-within bs c k e digit =
    let n = digit_count 10 bs in
    let value = digits_value 10 (take n bs) in
    let within : n ≤ length bs = run-within (is_digit 10) 0 bs in
    let some : 0 < n = omega (arith, run-passes (is_digit 10) bs c k e (decimal_digit c digit), front-bounds bs c k e) in
    either (length bs) (nat_lt (2 ^ 63) value) (Fault IntegerTooLarge 0) _ (λ _. omega arith)
    (λ _. either (length bs) ((slice_index bs n == 46) && is_ascii_digit (slice_index bs (n + 1))) (Fault FloatNumeral 0) (Token (Integer value) n)
    (λ _. omega arith) (λ _. (some, within)))

coded_character-within : (n : ℕ) (p : Piece) → HasSize n p → ReadsWithin (n + 2) (coded_character p)
coded_character-within n (Character c k) h = (omega arith, omega (arith, h.1))
coded_character-within n (Continuation k) h = omega arith
coded_character-within n Close h = omega arith
coded_character-within n (Bad kind k) h = omega arith

character_code-within : (bs : List ℕ) → 0 < length bs → ReadsWithin (length bs + 2) (character_code bs)
character_code-within bs some =
    either (length bs + 2) (slice_index bs 0 == 10) (Fault BadEscape 0) (coded_character (piece 39 bs)) (λ _. omega arith)
    (λ _. coded_character-within (length bs) (piece 39 bs) (piece-size 39 bs some))

code_within : (bs : List ℕ) → nat_lt 2 (length bs) ≡ true → ReadsWithin (length bs) (character_code (drop 2 bs))
code_within bs h =
    let long : 2 < length bs = grind (arith, nat_tests) in
    let rest : length (drop 2 bs) + 2 ≡ length bs = omega (arith, length-drop 2 bs) in
    let inside : ReadsWithin (length (drop 2 bs) + 2) (character_code (drop 2 bs)) = character_code-within (drop 2 bs) (omega arith) in
    rw rest at inside

pub numeral-within : (bs : List ℕ) (c k : ℕ) → front bs ≡ scalar c k → is_ascii_digit c ≡ true → ReadsWithin (length bs) (numeral bs)
numeral-within bs c k e digit =
    either (length bs) ((slice_index bs 0 == 48) && ((slice_index bs 1 == 39) && nat_lt 2 (length bs))) (character_code (drop 2 bs)) _
    (λ t. code_within bs (both (slice_index bs 1 == 39) (nat_lt 2 (length bs)) (both (slice_index bs 0 == 48) ((slice_index bs 1 == 39) && nat_lt 2 (length bs)) t).1).1)
    (λ _. either (length bs) ((slice_index bs 0 == 48) && is_digit (radix_of (slice_index bs 1)) (slice_index bs 2))
    (radix_constant (radix_of (slice_index bs 1)) bs) (decimal_constant bs)
    (λ t. radix_constant-within (radix_of (slice_index bs 1)) bs
    (omega (
      arith,
      read_inside bs 1 (radix_some (digit_value (slice_index bs 2)) (slice_index bs 1)
          (both (slice_index bs 0 == 48) (is_digit (radix_of (slice_index bs 1)) (slice_index bs 2)) t).1),
    )))
    (λ _. decimal_constant-within bs c k e digit))

-- Quoted texts.

abbrev ClosesBefore : ℕ → Option ℕ → Type 0
ClosesBefore n None = Unit {0}
ClosesBefore n (Some m) = m < n

one_later : (n : ℕ) (o : Option ℕ) → ClosesBefore n o → ClosesBefore (suc n) (option_map (λ m. suc m) o)
one_later n None h = tt
one_later n (Some m) h = omega arith

closing_piece-before : (quote : ℕ) (bs : List ℕ) (p : Piece) → ((k : ℕ) → ClosesBefore (length bs) (closing quote k bs))
    → ClosesBefore (suc (length bs)) (closing_piece quote bs p)
closing_piece-before quote bs (Character c k) h = one_later (length bs) (closing quote (k - 1) bs) (h (k - 1))
closing_piece-before quote bs (Continuation k) h = one_later (length bs) (closing quote (k - 1) bs) (h (k - 1))
closing_piece-before quote bs Close h = omega arith
closing_piece-before quote bs (Bad kind k) h = one_later (length bs) (closing quote (k - 1) bs) (h (k - 1))

closing-before : (quote inside : ℕ) (bs : List ℕ) → ClosesBefore (length bs) (closing quote inside bs)
closing-before quote inside [] = tt
closing-before quote (suc k) (b ∷ bs) = one_later (length bs) (closing quote k bs) (closing-before quote k bs)
closing-before quote zero (b ∷ bs) =
    rw (closing-piece quote b bs) (closing_piece-before quote bs (piece quote (b ∷ bs)) (λ k. closing-before quote k bs))

abbrev FaultBelow : ℕ → Spelled → Type 0
FaultBelow n (Ok cs) = Unit {0}
FaultBelow n (Err f) = f.1 ≤ n

behind-below : (n c : ℕ) (r : Spelled) → FaultBelow n r → FaultBelow n (behind c r)
behind-below n c (Ok cs) h = tt
behind-below n c (Err f) h = h

below-same : (m n : ℕ) (r : Spelled) → m ≤ n → FaultBelow m r → FaultBelow n r
below-same m n (Ok cs) e h = tt
below-same m n (Err f) e h = omega (arith, h)

spelled_piece-below : (quote at : ℕ) (bs : List ℕ) (p : Piece) → ((k : ℕ) → FaultBelow (suc at + length bs) (spelled quote (suc at) k bs))
    → FaultBelow (at + suc (length bs)) (spelled_piece quote at bs p)
spelled_piece-below quote at bs (Character c k) h =
    behind-below (at + suc (length bs)) c (spelled quote (suc at) (k - 1) bs)
    (below-same (suc at + length bs) (at + suc (length bs)) (spelled quote (suc at) (k - 1) bs) (omega arith) (h (k - 1)))
spelled_piece-below quote at bs (Continuation k) h =
    below-same (suc at + length bs) (at + suc (length bs)) (spelled quote (suc at) (k - 1) bs) (omega arith) (h (k - 1))
spelled_piece-below quote at bs Close h = tt
spelled_piece-below quote at bs (Bad kind k) h = omega arith

spelled-below : (quote at inside : ℕ) (bs : List ℕ) → FaultBelow (at + length bs) (spelled quote at inside bs)
spelled-below quote at inside [] = tt
spelled-below quote at (suc k) (b ∷ bs) =
    below-same (suc at + length bs) (at + suc (length bs)) (spelled quote (suc at) k bs) (omega arith) (spelled-below quote (suc at) k bs)
spelled-below quote at zero (b ∷ bs) =
    rw (spelled-piece quote at b bs)
    (spelled_piece-below quote at bs (piece quote (b ∷ bs)) (λ k. spelled-below quote (suc at) k bs))

closed-within : (quote n size : ℕ) (r : Spelled) → 0 < size → size ≤ n → FaultBelow n r → ReadsWithin n (closed quote size r)
closed-within quote n size (Ok cs) some within h = (some, within)
closed-within quote n size (Err f) some within h = h

quoted_by-within : (quote : ℕ) (bs : List ℕ) (o : Option ℕ) → ClosesBefore (length bs) o → ReadsWithin (1 + length bs) (quoted_by quote bs o)
quoted_by-within quote bs None h = omega arith
quoted_by-within quote bs (Some n) h =
    closed-within quote (1 + length bs) (n + 2) (spelled quote 1 0 bs) (omega arith) (omega arith) (spelled-below quote 1 0 bs)

-- A quoted text lies within its opening quote and what is after.
pub quoted-within : (quote : ℕ) (bs : List ℕ) → ReadsWithin (1 + length bs) (quoted quote bs)
quoted-within quote bs = quoted_by-within quote bs (closing quote 0 bs) (closing-before quote 0 bs)

-- Which characters begin what.

abbrev BeginsRight : ℕ → Begins → Type 0
BeginsRight c NameBegins = Unit {0}
BeginsRight c VariableBegins = Unit {0}
BeginsRight c Digit = is_ascii_digit c ≡ true
BeginsRight c Symbol = is_symbol c ≡ true
BeginsRight c Solo = Unit {0}
BeginsRight c Quote = Unit {0}
BeginsRight c (PunctuationBegins m) = Unit {0}
BeginsRight c Other = Unit {0}

right : (c : ℕ) (t : Bool) (p q : Begins) → (t ≡ true → BeginsRight c p) → BeginsRight c q → BeginsRight c (cond t p q)
right c true p q f g = f refl
right c false p q f g = g

punctuation-right : (c : ℕ) → BeginsRight c (punctuation c)
punctuation-right c =
    right c (c == 40) (PunctuationBegins Open) _ (λ _. tt)
    (right c (c == 41) (PunctuationBegins CloseMark) _ (λ _. tt)
    (right c (c == 91) (PunctuationBegins OpenList) _ (λ _. tt)
    (right c (c == 93) (PunctuationBegins CloseList) _ (λ _. tt)
    (right c (c == 123) (PunctuationBegins OpenCurly) _ (λ _. tt)
    (right c (c == 125) (PunctuationBegins CloseCurly) _ (λ _. tt)
    (right c (c == 124) (PunctuationBegins Bar) _ (λ _. tt)
    (right c (c == 44) (PunctuationBegins Comma) Other (λ _. tt) tt)))))))

ascii_begins-right : (c : ℕ) → BeginsRight c (ascii_begins c)
ascii_begins-right c =
    right c (is_ascii_lowercase c) NameBegins _ (λ _. tt)
    (right c (is_ascii_uppercase c || (c == 95)) VariableBegins _ (λ _. tt)
    (right c (is_ascii_digit c) Digit _ (λ t. t)
    (right c (is_symbol c) Symbol _ (λ t. t)
    (right c (is_solo c) Solo _ (λ _. tt)
    (right c (is_quote c) Quote (punctuation c) (λ _. tt) (punctuation-right c))))))

begins-right : (c : ℕ) → BeginsRight c (begins c)
begins-right c =
    right c (nat_lt c 128) (ascii_begins c) (cond (is_xid_start c) NameBegins Other) (λ _. ascii_begins-right c)
    (right c (is_xid_start c) NameBegins Other (λ _. tt) tt)

-- Tokens.

word-within : (bs : List ℕ) (size : ℕ) → 0 < size → size ≤ length bs → (0 < word_size size bs) × (word_size size bs ≤ length bs)
word-within bs size some within =
    (omega arith, omega (arith, run-within continues_name 0 (drop size bs), length-drop size bs))

symbols-within : (bs : List ℕ) (c k : ℕ) → front bs ≡ scalar c k → is_symbol c ≡ true → ReadsWithin (length bs) (symbols bs)
symbols-within bs c k e symbol =
    let n = run is_symbol 0 bs in
    let within : n ≤ length bs = run-within is_symbol 0 bs in
    let some : 0 < n = omega (arith, run-passes is_symbol bs c k e symbol, front-bounds bs c k e) in
    either (length bs) ((n == 1) && ((slice_index bs 0 == 46) && closes_clause (drop 1 bs))) (Token EndToken 1) (Token (Name (chars (take n bs))) n)
    (λ _. (omega arith, omega arith)) (λ _. (some, within))

quoted_front-within : (bs : List ℕ) (c : ℕ) → 0 < length bs → ReadsWithin (length bs) (quoted c (drop 1 bs))
quoted_front-within bs c some =
    let rest : 1 + length (drop 1 bs) ≡ length bs = omega (arith, length-drop 1 bs) in
    let inside : ReadsWithin (1 + length (drop 1 bs)) (quoted c (drop 1 bs)) = quoted-within c (drop 1 bs) in
    rw rest at inside

token_of-within : (direct : Bool) (bs : List ℕ) (class : Begins) (c k : ℕ) → front bs ≡ scalar c k → BeginsRight c class
    → ReadsWithin (length bs) (token_of direct bs class c k)
token_of-within direct bs NameBegins c k e h = let b = front-bounds bs c k e in word-within bs k b.0 b.1
token_of-within direct bs VariableBegins c k e h = let b = front-bounds bs c k e in word-within bs k b.0 b.1
token_of-within direct bs Digit c k e h = numeral-within bs c k e h
token_of-within direct bs Symbol c k e h = symbols-within bs c k e h
token_of-within direct bs Solo c k e h = front-bounds bs c k e
token_of-within direct bs Quote c k e h = let b = front-bounds bs c k e in quoted_front-within bs c (omega (arith, b.0, b.1))
token_of-within direct bs (PunctuationBegins m) c k e h = front-bounds bs c k e
token_of-within direct bs Other c k e h = omega arith

abbrev token_by : Bool → List ℕ → Front → Reading
token_by direct bs nothing = Nothing
token_by direct bs (scalar c k) = token_of direct bs (begins c) c k
token_by direct bs broken = Fault BadUtf8 0

token_front-by : (direct : Bool) (bs : List ℕ) → token_front direct bs ≡ token_by direct bs (front bs)
token_front-by direct bs = by (front bs) where
  by : (f : Front) → elim f [ nothing ↦ Nothing | scalar c k ↦ token_of direct bs (begins c) c k | broken ↦ Fault BadUtf8 0 ] ≡ token_by direct bs f
  by nothing = refl
  by (scalar c k) = refl
  by broken = refl

pub token_front-scalar : (direct : Bool) (bs : List ℕ) (c k : ℕ) → front bs ≡ scalar c k → token_front direct bs ≡ token_of direct bs (begins c) c k
token_front-scalar direct bs c k e = token_front-by direct bs ∙ ap (token_by direct bs) e

pub token_front-broken : (direct : Bool) (bs : List ℕ) → front bs ≡ broken → token_front direct bs ≡ Fault BadUtf8 0
token_front-broken direct bs e = token_front-by direct bs ∙ ap (token_by direct bs) e

token_by-within : (direct : Bool) (bs : List ℕ) (f : Front) → front bs ≡ f → ReadsWithin (length bs) (token_by direct bs f)
token_by-within direct bs nothing e = tt
token_by-within direct bs (scalar c k) e = token_of-within direct bs (begins c) c k e (begins-right c)
token_by-within direct bs broken e = omega arith

-- What stands at the front of bytes lies within them.
pub token_front-within : (direct : Bool) (bs : List ℕ) → ReadsWithin (length bs) (token_front direct bs)
token_front-within direct bs = rw (token_front-by direct bs) (token_by-within direct bs (front bs) refl)

-- The token at a place.

pub token_at-start : (text : List ℕ) (at start : ℕ) → Ok start ≡ skip_layout at 0 (drop at text)
    → token_at text at ≡ placed start (token_front (start == at) (drop start text))
unfolding token_at
token_at-start text at start e = ap (from_start text at) (sym e)

pub token_at-fault : (text : List ℕ) (at : ℕ) (f : SyntaxFault) → Err f ≡ skip_layout at 0 (drop at text) → token_at text at ≡ Err f
unfolding token_at
token_at-fault text at f e = ap (from_start text at) (sym e)
