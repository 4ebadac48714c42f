-- Quoted texts (ISO 6.4.2.1, 6.4.6, 6.4.7): their pieces, where they close, and the characters that they spell.
use Rattle.std.specs.Prelude.{ℕ, List, [], ◌∷◌, Bool, false, Option, Some, None, Result, Ok, Err, ◌+◌, ◌-◌, ◌<◌, ◌≤◌, suc, zero, ◌||◌, ◌==◌, nat_lt, if◌then◌else◌, take, drop, slice_index, option_map}
use Rattle.std.specs.Char.{digit_value}
use Rattle.std.specs.Str.{all_scalars}
use Rattle.std.specs.Str.Parse.{digits_value}
use Rattle.pl_term.specs.Tree.{Chars}
use Rattle.pl_model.specs.Tokens.{nothing, scalar, broken, front, run}
use Rattle.pl_model.specs.declared.syntax.SyntaxKind.{SyntaxKind}
use Rattle.pl_model.specs.declared.syntax.SyntaxKind.TheVariants.{BadUtf8, BadEscape, OpenQuote}
use Rattle.pl_model.specs.declared.lexical.Piece.{Piece}
use Rattle.pl_model.specs.declared.lexical.Piece.TheVariants.{Character, Continuation, Close, Bad}
use Rattle.pl_model.specs.declared.lexical.TokenKind.{TokenKind}
use Rattle.pl_model.specs.declared.lexical.TokenKind.TheVariants.{Quoted, DoubleQuoted, BackQuoted}
use Rattle.pl_model.specs.declared.lexical.Reading.{Reading}
use Rattle.pl_model.specs.declared.lexical.Reading.TheVariants.{Token, Fault}

-- Digits (6.4.4): `0` to `9`, and `a` to `f` or `A` to `F` for the values from ten on.

abbrev pub is_digit : ℕ → ℕ → Bool
is_digit radix c = nat_lt (digit_value c) radix

-- How many digits of a radix stand at the front.
abbrev pub digit_count : ℕ → List ℕ → ℕ
digit_count radix bs = run (is_digit radix) 0 bs

-- Escape sequences (6.4.2.1). The bytes are those after the backslash; the number of bytes counts it too.

-- A control escape sequence, or a meta escape sequence.
abbrev pub simple_escape : ℕ → Option ℕ
simple_escape c =
    if c == 97 then Some 7 else
    if c == 98 then Some 8 else
    if c == 102 then Some 12 else
    if c == 110 then Some 10 else
    if c == 114 then Some 13 else
    if c == 116 then Some 9 else
    if c == 118 then Some 11 else
    if c == 101 then Some 27 else
    if c == 115 then Some 32 else
    if (c == 92) || ((c == 39) || ((c == 34) || (c == 96))) then Some c else None

-- A code that is a character stands for it.
abbrev pub coded : ℕ → ℕ → Piece
coded code size = if all_scalars (code ∷ []) then Character code size else Bad BadEscape 2

-- An octal or hexadecimal escape sequence: digits, and a backslash that closes it where one is there. Before the
-- digits stand this number of bytes.
abbrev pub digits_escape : ℕ → ℕ → List ℕ → Piece
digits_escape radix before bs =
    let n = digit_count radix bs in
    if n == 0 then Bad BadEscape 2 else
    coded (digits_value radix (take n bs)) (if slice_index bs n == 92 then before + n + 1 else before + n)

-- `\u` and four hexadecimal digits.
abbrev pub four_digits_escape : List ℕ → Piece
four_digits_escape bs = if digit_count 16 (take 4 bs) == 4 then coded (digits_value 16 (take 4 bs)) 6 else Bad BadEscape 2

abbrev pub simple_piece : Option ℕ → List ℕ → ℕ → ℕ → Piece
simple_piece (Some code) bs c size = Character code 2
simple_piece None bs c size =
    if c == 10 then Continuation 2 else
    if c == 120 then digits_escape 16 2 (drop 1 bs) else
    if is_digit 8 c then digits_escape 8 1 bs else
    if c == 117 then four_digits_escape (drop 1 bs) else Bad BadEscape (1 + size)

-- What a backslash and the bytes after it are. A sequence that is none is passed with one character.
abbrev pub escape : List ℕ → Piece
escape bs = elim (front bs) [ nothing ↦ Bad BadEscape 1 | scalar c k ↦ simple_piece (simple_escape c) bs c k | broken ↦ Bad BadEscape 2 ]

-- The number of bytes of a piece.
abbrev pub piece_size : Piece → ℕ
piece_size (Character c k) = k
piece_size (Continuation k) = k
piece_size Close = 1
piece_size (Bad kind k) = k

-- A piece of at least one byte, and no more than this number.
abbrev pub HasSize : ℕ → Piece → Type 0
HasSize n p = (0 < piece_size p) × (piece_size p ≤ n)

-- Whether this byte stands at the front.
abbrev pub begins_with : ℕ → List ℕ → Bool
begins_with c [] = false
begins_with c (b ∷ bs) = b == c

-- A piece of a text in these quotes: a quote inside is doubled, a character after a backslash is escaped, any
-- other character is itself, a newline too.
abbrev pub piece_of : ℕ → List ℕ → ℕ → ℕ → Piece
piece_of quote bs c size =
    if c == quote then (if begins_with quote (drop 1 bs) then Character quote 2 else Close) else
    if c == 92 then escape (drop 1 bs) else Character c size

abbrev pub piece : ℕ → List ℕ → Piece
piece quote bs = elim (front bs) [ nothing ↦ Bad BadUtf8 1 | scalar c k ↦ piece_of quote bs c k | broken ↦ Bad BadUtf8 1 ]

-- Quoted texts. The bytes are those after the opening quote. The second number says how many bytes at the front
-- belong to a piece that was passed already.

-- The number of bytes before the closing quote, or none where the text stays open.
abbrev pub closing : ℕ → ℕ → List ℕ → Option ℕ
closing quote inside [] = None
closing quote (suc k) (b ∷ bs) = option_map (λ n. suc n) (closing quote k bs)
closing quote zero (b ∷ bs) =
    elim (piece quote (b ∷ bs)) [
      | Character c k ↦ option_map (λ n. suc n) (closing quote (k - 1) bs)
      | Continuation k ↦ option_map (λ n. suc n) (closing quote (k - 1) bs)
      | Close ↦ Some 0
      | Bad kind k ↦ option_map (λ n. suc n) (closing quote (k - 1) bs)
    ]

-- The characters up to the closing quote, or the first fault, with its place if the front is at `at`.
abbrev pub Spelled : Type 0
Spelled = Result Chars (SyntaxKind × ℕ)

abbrev pub behind : ℕ → Spelled → Spelled
behind c (Ok cs) = Ok (c ∷ cs)
behind c (Err f) = Err f

abbrev pub spelled : ℕ → ℕ → ℕ → List ℕ → Spelled
spelled quote at inside [] = Ok []
spelled quote at (suc k) (b ∷ bs) = spelled quote (suc at) k bs
spelled quote at zero (b ∷ bs) =
    elim (piece quote (b ∷ bs)) [
      | Character c k ↦ behind c (spelled quote (suc at) (k - 1) bs)
      | Continuation k ↦ spelled quote (suc at) (k - 1) bs
      | Close ↦ Ok []
      | Bad kind k ↦ Err (kind, at)
    ]

-- The token of a text in these quotes.
abbrev pub quoted_kind : ℕ → Chars → TokenKind
quoted_kind quote cs = if quote == 39 then Quoted cs else if quote == 34 then DoubleQuoted cs else BackQuoted cs

abbrev pub closed : ℕ → ℕ → Spelled → Reading
closed quote size (Ok cs) = Token (quoted_kind quote cs) size
closed quote size (Err f) = Fault f.0 f.1

abbrev pub quoted_by : ℕ → List ℕ → Option ℕ → Reading
quoted_by quote bs None = Fault OpenQuote 0
quoted_by quote bs (Some n) = closed quote (n + 2) (spelled quote 1 0 bs)

-- A quoted text, whose opening quote stands before these bytes: one that stays open is that fault, whatever is in
-- it; else its first fault counts.
abbrev pub quoted : ℕ → List ℕ → Reading
quoted quote bs = quoted_by quote bs (closing quote 0 bs)
