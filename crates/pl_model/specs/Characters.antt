-- Characters (ISO 6.5) and the names that stand without quotes (ISO 6.4.2).
use Rattle.std.specs.Prelude.{ℕ, [], ◌∷◌, Bool, false, not, ◌&&◌, ◌||◌, ◌==◌, nat_lt, nat_eq, bytes_eq, codes, if◌then◌else◌}
use Rattle.std.specs.Char.{is_ascii_lowercase, is_ascii_alphanumeric}
use Rattle.std.specs.List.{list_all, list_any, starts_with}
use Rattle.unicode_ident.specs.Ident.{is_xid_start, is_xid_continue}
use Rattle.pl_term.specs.Tree.{Chars}

-- ISO 6.5.1: a symbol character, of which runs are tokens.
abbrev pub is_symbol : ℕ → Bool
is_symbol c = list_any (λ d. d == c) (codes "+-*/\\^<>=~:.?@#&$")

-- ISO 6.5.2: a letter name begins with a small letter; past ASCII, with any character that may begin an
-- identifier (Unicode Standard Annex 31, XID_Start).
abbrev pub begins_name : ℕ → Bool
begins_name c = if nat_lt c 128 then is_ascii_lowercase c else is_xid_start c

-- ISO 6.5.2: a letter, a digit or the underscore goes on in a name; past ASCII, any character that may continue
-- an identifier (XID_Continue).
abbrev pub continues_name : ℕ → Bool
continues_name c = if nat_lt c 128 then is_ascii_alphanumeric c || (c == 95) else is_xid_continue c

-- ISO 6.4.2: a letter digit token.
abbrev pub is_letter_name : Chars → Bool
is_letter_name [] = false
is_letter_name (c ∷ cs) = begins_name c && list_all continues_name cs

-- ISO 6.4.2: a graphic token that reads back as a name. A `.` would end a clause, and `/*` begins a comment.
abbrev pub is_symbol_name : Chars → Bool
is_symbol_name [] = false
is_symbol_name (c ∷ cs) =
    list_all is_symbol (c ∷ cs)
    && (not (bytes_eq (c ∷ cs) (codes ".")) && not (starts_with nat_eq (c ∷ cs) (codes "/*")))

-- ISO 6.4.2, 6.3.1.3: the solo names, the empty list and the curly brackets.
abbrev pub is_solo_name : Chars → Bool
is_solo_name cs = list_any (bytes_eq cs) (codes "!" ∷ codes ";" ∷ codes "[]" ∷ codes "{}" ∷ [])

-- A name that stands without quotes.
abbrev pub is_bare_name : Chars → Bool
is_bare_name cs = is_letter_name cs || (is_symbol_name cs || is_solo_name cs)
