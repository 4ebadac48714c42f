-- Characters of a text and its layout (ISO 6.4.1, 6.5): what stands at the front of some bytes, the longest run of characters
-- that pass a test, and layout. The text is a list of bytes, and a place is the number of bytes before it.
use Rattle.std.specs.Prelude.{ℕ, List, [], ◌∷◌, Bool, true, false, Option, Some, None, Result, Ok, Err, ◌+◌, ◌-◌, suc, zero, ◌&&◌, ◌||◌, ◌==◌, nat_lt, if◌then◌else◌, length, take, drop, slice_index, option_map}
use Rattle.std.specs.Char.{is_whitespace}
use Rattle.std.specs.Str.{chars, is_utf8, continuation_len}
pub use Rattle.pl_model.specs.Characters.{is_symbol, continues_name}
use Rattle.pl_model.specs.declared.syntax.SyntaxKind.{SyntaxKind}
use Rattle.pl_model.specs.declared.syntax.SyntaxKind.TheVariants.{BadUtf8, OpenComment}
use Rattle.pl_model.specs.declared.syntax.SyntaxFault.{SyntaxFault}

-- What stands at the front of some bytes, which are read as UTF-8 (RFC 3629).
pub data Front : Type 0 where
  nothing : Front  -- no byte is left
  scalar : ℕ → ℕ → Front  -- a character, with the number of its bytes
  broken : Front  -- the first byte begins no character

-- The first byte says how many bytes its character has, and these have to be UTF-8.
abbrev pub front_of : Bool → List ℕ → Front
front_of true piece = scalar (slice_index (chars piece) 0) (length piece)
front_of false piece = broken

abbrev pub wide_front : List ℕ → Front
wide_front piece = front_of (is_utf8 piece) piece

abbrev pub front : List ℕ → Front
front [] = nothing
front (b ∷ bs) = if nat_lt b 128 then scalar b 1 else wide_front (take (suc (continuation_len b)) (b ∷ bs))

-- The number of bytes of the longest run of characters at the front that all pass a test. The second argument is
-- the number of bytes at the front that belong to a character which has passed it already.
abbrev pub run : (ℕ → Bool) → ℕ → List ℕ → ℕ
run p inside [] = zero
run p (suc k) (b ∷ bs) = suc (run p k bs)
run p zero (b ∷ bs) = elim (front (b ∷ bs)) [ nothing ↦ zero | scalar c k ↦ if p c then suc (run p (k - 1) bs) else zero | broken ↦ zero ]

-- Layout (ISO 6.4.1): white space, and comments.

pub data Blank : Type 0 where
  passes : ℕ → Blank  -- layout of this number of bytes, at least one
  stops : Blank  -- no layout
  spoils : SyntaxKind → ℕ → Blank  -- layout with a fault, which lies this number of bytes after its start

-- The bytes before the next newline, or before the end of the text.
abbrev pub line_length : List ℕ → ℕ
line_length [] = zero
line_length (b ∷ bs) = if b == 10 then zero else suc (line_length bs)

-- The bytes up to the next `*/`, and with it.
abbrev pub block_length : List ℕ → Option ℕ
block_length [] = None
block_length (b ∷ bs) =
    if b == 42 && slice_index bs 0 == 47 then Some 2 else option_map (λ n. suc n) (block_length bs)

-- A comment of this number of bytes is passed, if all of its bytes are UTF-8.
abbrev pub passed_comment : ℕ → ℕ → Blank
passed_comment size valid = if nat_lt valid size then spoils BadUtf8 valid else passes size

abbrev pub comment : List ℕ → ℕ → Blank
comment bs size = passed_comment size (run (λ c. true) 0 (take size bs))

abbrev pub block : List ℕ → Option ℕ → Blank
block bs None = spoils OpenComment 0
block bs (Some size) = comment bs (2 + size)

-- One piece of layout at the front: a white space character, a comment from `%` to the end of the line, or a
-- comment from `/*` to `*/`.
abbrev pub blank_at : List ℕ → ℕ → ℕ → Blank
blank_at bs c size =
    if is_whitespace c then passes size else
    if c == 37 then comment bs (suc (line_length (drop 1 bs))) else
    if c == 47 && slice_index bs 1 == 42 then block bs (block_length (drop 2 bs)) else stops

abbrev pub blank : List ℕ → Blank
blank bs = elim (front bs) [ nothing ↦ stops | scalar c k ↦ blank_at bs c k | broken ↦ stops ]

-- The place after the layout that begins at a place, from which on the bytes are given. The second argument is
-- the number of bytes at the front that belong to layout which was passed already.
abbrev pub skip_layout : ℕ → ℕ → List ℕ → Result ℕ SyntaxFault
skip_layout at inside [] = Ok at
skip_layout at (suc k) (b ∷ bs) = skip_layout (suc at) k bs
skip_layout at zero (b ∷ bs) =
    elim (blank (b ∷ bs)) [
      | passes n ↦ skip_layout (suc at) (n - 1) bs
      | stops ↦ Ok at
      | spoils kind n ↦ Err (record { kind = kind; at = at + n })
    ]

-- Ends.

-- The place after the run of characters that go on from a place and pass a test.
abbrev pub run_end : (ℕ → Bool) → List ℕ → ℕ → ℕ
run_end p text at = at + run p 0 (drop at text)

-- White space, `%` or the end of the text stands at the front (ISO 6.4.8).
abbrev pub closes_clause : List ℕ → Bool
closes_clause bs = elim (front bs) [ nothing ↦ true | scalar c k ↦ is_whitespace c || c == 37 | broken ↦ false ]
