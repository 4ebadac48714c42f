-- Skipping: where reading may go on after a fault. From a place on the text is passed piece by piece, layout, tokens
-- (ISO 6.4) and what is neither, up to the first end token (6.4.8).
use Rattle.std.specs.Prelude.{ℕ, List, [], ◌∷◌, Bool, false, Option, Some, None, ◌+◌, ◌-◌, suc, zero, ◌&&◌, ◌==◌, nat_lt, if◌then◌else◌, length, drop, slice_index, option_map}
use Rattle.pl_model.specs.Tokens.{nothing, scalar, broken, front, Blank, passes, stops, spoils, blank, line_length, block_length}
use Rattle.pl_model.specs.LexicalCharacters.{is_quote}
use Rattle.pl_model.specs.LexicalQuoted.{closing}
use Rattle.pl_model.specs.LexicalTokens.{token_front}
use Rattle.pl_model.specs.declared.lexical.TokenKind.TheVariants.{EndToken}
use Rattle.pl_model.specs.declared.lexical.Reading.{Reading}
use Rattle.pl_model.specs.declared.lexical.Reading.TheVariants.{Token, Fault, Nothing}
use Rattle.pl_model.specs.declared.skipping.Passing.{Passing}
use Rattle.pl_model.specs.declared.skipping.Passing.TheVariants.{Through, Ends, StaysOpen}

-- Something of this number of bytes, if it ends.
abbrev pub whole : Option ℕ → Passing
whole (Some n) = Through n
whole None = StaysOpen

-- The number of bytes of the character at the front; a byte that begins none is passed alone.
abbrev pub character_size : List ℕ → ℕ
character_size bs = elim (front bs) [ nothing ↦ 1 | scalar c k ↦ k | broken ↦ 1 ]

-- The number of bytes of the comment at the front (6.4.1), if it ends.
abbrev pub comment_size : List ℕ → Option ℕ
comment_size bs =
    if slice_index bs 0 == 37 then Some (suc (line_length (drop 1 bs))) else option_map (λ n. 2 + n) (block_length (drop 2 bs))

-- The number of bytes of the quoted text at the front (6.4.2.1, 6.4.6, 6.4.7), if it is closed.
abbrev pub quoted_size : List ℕ → Option ℕ
quoted_size bs = option_map (λ n. n + 2) (closing (slice_index bs 0) 0 (drop 1 bs))

-- Whether `0'` and one byte more stand at the front.
abbrev pub begins_code : List ℕ → Bool
begins_code bs = (slice_index bs 0 == 48) && ((slice_index bs 1 == 39) && nat_lt 2 (length bs))

-- A fault where a token would be. A quoted text with a fault in it is passed whole, `0'` with the one character after
-- it, and anything else by one character.
abbrev pub behind_fault : List ℕ → Passing
behind_fault bs =
    if is_quote (slice_index bs 0) then whole (quoted_size bs) else
    if begins_code bs then Through (2 + character_size (drop 2 bs)) else Through (character_size bs)

abbrev pub behind_reading : List ℕ → Reading → Passing
behind_reading bs (Token EndToken n) = Ends n
behind_reading bs (Token kind n) = Through n
behind_reading bs (Fault kind n) = behind_fault bs
behind_reading bs Nothing = Through 1

-- A comment is passed whole, with a fault in it too.
abbrev pub behind_blank : List ℕ → Blank → Passing
behind_blank bs (passes n) = Through n
behind_blank bs stops = behind_reading bs (token_front false bs)
behind_blank bs (spoils kind n) = whole (comment_size bs)

abbrev pub passing : List ℕ → Passing
passing bs = behind_blank bs (blank bs)

-- The number of bytes up to the first end token, and with it. The first number says how many bytes at the front belong
-- to a piece that was passed already.
abbrev pub clause_length : ℕ → List ℕ → Option ℕ
clause_length inside [] = None
clause_length (suc k) (b ∷ bs) = option_map (λ n. suc n) (clause_length k bs)
clause_length zero (b ∷ bs) =
    elim (passing (b ∷ bs)) [
      | Through n ↦ option_map (λ m. suc m) (clause_length (n - 1) bs)
      | Ends n ↦ Some n
      | StaysOpen ↦ None
    ]

abbrev pub end_or : ℕ → ℕ → Option ℕ → ℕ
end_or size at (Some n) = at + n
end_or size at None = size

-- The place after the first end token at a place or after it, or the end of the text where there is none, or where
-- a quoted text or a comment before it stays open.
unfoldable pub skip : List ℕ → ℕ → ℕ
skip text at = end_or (length text) at (clause_length 0 (drop at text))
