-- Parts of written terms (ISO 7.10.5): names, variables, where a term stands, and characters that would run together.
use Rattle.std.specs.Prelude.{ℕ, ◌/◌, ◌%◌, [], ◌∷◌, ◌++◌, Bool, true, false, ◌&&◌, ◌||◌, ◌==◌, nat_lt, bytes_eq, codes, decimal, if◌then◌else◌}
use Rattle.std.specs.Char.{digit_char}
use Rattle.std.specs.List.{flat_map}
use Rattle.pl_term.specs.Tree.{Chars, Tree, var, int, atom, comp, count}
use Rattle.pl_model.specs.Characters.{is_symbol, continues_name, is_bare_name}

-- Names

-- The code of a character in hexadecimal, for the codes below 256.
abbrev pub hexadecimal : ℕ → Chars
hexadecimal c = if nat_lt c 16 then digit_char c ∷ [] else digit_char (c / 16) ∷ digit_char (c % 16) ∷ []

-- ISO 6.4.2.1: a character as it stands in a quoted name: a quote, a backslash, a newline and a tab after a
-- backslash, the other control characters by their codes, any other as itself.
abbrev pub escaped : ℕ → Chars
escaped c =
    if c == 39
    then codes "\\'"
    else
    (if c == 92
    then codes "\\\\"
    else
    (if c == 10
    then codes "\\n"
    else
    (if c == 9
    then codes "\\t"
    else (if nat_lt c 32 || (c == 127) then codes "\\x" ++ (hexadecimal c ++ codes "\\") else c ∷ []))))

abbrev pub quoted : Chars → Chars
quoted cs = codes "'" ++ (flat_map escaped cs ++ codes "'")

-- The name of an atom, or of a compound term: in quotes where it would not read back without them.
abbrev pub name : Chars → Chars
name f = if is_bare_name f then f else quoted f

-- The name of a compound term before its arguments in parentheses: `[]` and `{}` stand in quotes there.
abbrev pub functor : Chars → Chars
functor f = if bytes_eq f (codes "[]") || bytes_eq f (codes "{}") then quoted f else name f

-- ISO 7.10.5 a: a variable as `_` and its number.
abbrev pub variable : ℕ → Chars
variable n = codes "_" ++ decimal n

-- Places

-- Where a term stands: by itself (the whole term, an argument, an element), or as an operand, on the left of an
-- operator of some priority or elsewhere.
pub data Place : Type 0 where
  alone : Place
  operand : Place
  left_operand : ℕ → Place

abbrev pub is_operand : Place → Bool
is_operand alone = false
is_operand operand = true
is_operand (left_operand p) = true

-- What follows an element of a list: the end of the list, a further element, or a tail that is no list.
pub data Tail : Type 0 where
  ends : Tail
  goes_on : Tail
  partial : Tail

abbrev pub tail_of : Tree → Tail
tail_of (var n) = partial
tail_of (int i) = partial
tail_of (atom a) = if bytes_eq a (codes "[]") then ends else partial
tail_of (comp f t ts) = if (count ts == 1) && bytes_eq f (codes ".") then goes_on else partial

-- Neighbours

-- Characters that would be read as part of one token: two symbol characters, two that may continue a name, and
-- two single quotes.
abbrev pub would_join : ℕ → ℕ → Bool
would_join c d = (is_symbol c && is_symbol d) || ((continues_name c && continues_name d) || ((c == 39) && (d == 39)))

-- The last character of a piece, or `c` where it has none.
abbrev pub last_character : ℕ → Chars → ℕ
last_character c [] = c
last_character c (d ∷ ds) = last_character d ds
