-- Tokens (ISO 6.4): what stands at a place of a text. The text is a list of bytes, and a place is the number of bytes
-- before it. A token is the longest that can be read (6.4).
use Rattle.std.specs.Prelude.{ℕ, List, Bool, true, Result, Ok, Err, ◌+◌, ◌^◌, ◌&&◌, ◌==◌, nat_lt, if◌then◌else◌, length, take, drop, slice_index}
use Rattle.std.specs.Char.{is_ascii_digit}
use Rattle.std.specs.Str.{chars}
use Rattle.std.specs.Str.Parse.{digits_value}
use Rattle.pl_model.specs.Characters.{is_symbol, continues_name}
use Rattle.pl_model.specs.Tokens.{nothing, scalar, broken, front, run, skip_layout, closes_clause}
use Rattle.pl_model.specs.LexicalCharacters.{begins}
use Rattle.pl_model.specs.LexicalQuoted.{is_digit, digit_count, piece, quoted}
use Rattle.pl_model.specs.declared.syntax.SyntaxKind.{SyntaxKind}
use Rattle.pl_model.specs.declared.syntax.SyntaxKind.TheVariants.{BadUtf8, BadEscape, FloatNumeral, IntegerTooLarge, LoneCharacter}
use Rattle.pl_model.specs.declared.syntax.SyntaxFault.{SyntaxFault}
use Rattle.pl_model.specs.declared.lexical.Mark.{Mark}
use Rattle.pl_model.specs.declared.lexical.Mark.TheVariants.{Open, OpenCt}
use Rattle.pl_model.specs.declared.lexical.Begins.{Begins}
use Rattle.pl_model.specs.declared.lexical.Begins.TheVariants.{Name as NameBegins, Variable as VariableBegins, Digit, Symbol, Solo, Quote, Punctuation as PunctuationBegins, Other}
use Rattle.pl_model.specs.declared.lexical.Piece.{Piece}
use Rattle.pl_model.specs.declared.lexical.Piece.TheVariants.{Character, Continuation, Close, Bad}
use Rattle.pl_model.specs.declared.lexical.TokenKind.{TokenKind}
use Rattle.pl_model.specs.declared.lexical.TokenKind.TheVariants.{Name, Variable, Integer, Punctuation, EndToken}
use Rattle.pl_model.specs.declared.lexical.Reading.{Reading}
use Rattle.pl_model.specs.declared.lexical.Reading.TheVariants.{Token, Fault, Nothing}
use Rattle.pl_model.specs.declared.lexical.Lexeme.{Lexeme}
use Rattle.pl_model.specs.declared.lexical.Lexeme.TheVariants.{Token as TokenLexeme, End}

-- Names and variables (6.4.2, 6.4.3): a first character of so many bytes, and what continues a name after it.

abbrev pub word_size : ℕ → List ℕ → ℕ
word_size size bs = size + run continues_name 0 (drop size bs)

-- Numerals (6.4.4)

-- An integer has at most 64 bits with its sign.
abbrev pub integer : ℕ → ℕ → Reading
integer value size = if nat_lt (2 ^ 63) value then Fault IntegerTooLarge 0 else Token (Integer value) size

-- `0b`, `0o` or `0x` and digits of that radix.
abbrev pub radix_constant : ℕ → List ℕ → Reading
radix_constant radix bs =
    let n = digit_count radix (drop 2 bs) in integer (digits_value radix (take n (drop 2 bs))) (n + 2)

-- Decimal digits. Digits, a full stop and a digit would be a floating point number (6.4.5).
abbrev pub decimal_constant : List ℕ → Reading
decimal_constant bs =
    let n = digit_count 10 bs in
    let value = digits_value 10 (take n bs) in
    if nat_lt (2 ^ 63) value then Fault IntegerTooLarge 0 else
    if (slice_index bs n == 46) && is_ascii_digit (slice_index bs (n + 1)) then Fault FloatNumeral 0 else
    Token (Integer value) n

-- `0'` and one character of a quoted text, whose code it is.
abbrev pub coded_character : Piece → Reading
coded_character (Character c k) = Token (Integer c) (k + 2)
coded_character (Continuation k) = Fault BadEscape 2
coded_character Close = Fault BadEscape 0
coded_character (Bad kind k) = Fault kind 2

-- The bytes are those after `0'`. A newline has to be escaped here.
abbrev pub character_code : List ℕ → Reading
character_code bs = if slice_index bs 0 == 10 then Fault BadEscape 0 else coded_character (piece 39 bs)

-- The radix that a letter after `0` stands for.
abbrev pub radix_of : ℕ → ℕ
radix_of c = if c == 120 then 16 else if c == 111 then 8 else if c == 98 then 2 else 0

-- The numeral at the front of bytes, which begin with a digit.
abbrev pub numeral : List ℕ → Reading
numeral bs =
    if (slice_index bs 0 == 48) && ((slice_index bs 1 == 39) && nat_lt 2 (length bs)) then character_code (drop 2 bs) else
    if (slice_index bs 0 == 48) && is_digit (radix_of (slice_index bs 1)) (slice_index bs 2) then radix_constant (radix_of (slice_index bs 1)) bs else
    decimal_constant bs

-- Symbol characters (6.4.2), or the end token (6.4.8): a full stop by itself before white space, `%` or the end of
-- the text.
abbrev pub symbols : List ℕ → Reading
symbols bs =
    let n = run is_symbol 0 bs in
    if (n == 1) && ((slice_index bs 0 == 46) && closes_clause (drop 1 bs)) then Token EndToken 1 else
    Token (Name (chars (take n bs))) n

-- An opening parenthesis at the very place that was asked for is open ct (6.4.8).
abbrev pub mark_at : Bool → Mark → Mark
mark_at true Open = OpenCt
mark_at direct mark = mark

-- What begins with a character of so many bytes at the front.
abbrev pub token_of : Bool → List ℕ → Begins → ℕ → ℕ → Reading
token_of direct bs NameBegins c size = Token (Name (chars (take (word_size size bs) bs))) (word_size size bs)
token_of direct bs VariableBegins c size = Token (Variable (chars (take (word_size size bs) bs))) (word_size size bs)
token_of direct bs Digit c size = numeral bs
token_of direct bs Symbol c size = symbols bs
token_of direct bs Solo c size = Token (Name (chars (take size bs))) size
token_of direct bs Quote c size = quoted c (drop 1 bs)
token_of direct bs (PunctuationBegins mark) c size = Token (Punctuation (mark_at direct mark)) size
token_of direct bs Other c size = Fault LoneCharacter 0

-- What stands at the front of bytes at which no layout stands; whether layout was passed before them says which of
-- the two opening parentheses `(` is.
abbrev pub token_front : Bool → List ℕ → Reading
token_front direct bs =
    elim (front bs) [ nothing ↦ Nothing | scalar c k ↦ token_of direct bs (begins c) c k | broken ↦ Fault BadUtf8 0 ]

-- The token, the end of the text, or the first fault with its place.
abbrev pub Lexed : Type 0
Lexed = Result Lexeme SyntaxFault

abbrev pub placed : ℕ → Reading → Lexed
placed start (Token kind size) = Ok (TokenLexeme kind start (start + size))
placed start (Fault kind n) = Err (record { kind = kind; at = start + n })
placed start Nothing = Ok End

abbrev pub from_start : List ℕ → ℕ → Result ℕ SyntaxFault → Lexed
from_start text at (Ok start) = placed start (token_front (start == at) (drop start text))
from_start text at (Err f) = Err f

abbrev pub token : TokenKind → ℕ → ℕ → Lexed
token kind start end = Ok (TokenLexeme kind start end)

abbrev pub lex_fault : SyntaxKind → ℕ → Lexed
lex_fault kind at = Err (record { kind = kind; at = at })

-- The first token at a place or after it, where layout is passed.
unfoldable pub token_at : List ℕ → ℕ → Lexed
token_at text at = from_start text at (skip_layout at 0 (drop at text))
