-- Prolog flags (ISO 7.11). Two of them can be changed: `double_quotes` and `unknown`.
use Rattle.std.specs.Prelude.{◌-◌, ◌^◌, List, [], ◌∷◌, Option, Some, None, unwrap_or, Bool, if◌then◌else◌, bytes_eq, codes, pos, negsuc}
use Rattle.std.specs.List.{list_any}
use Rattle.pl_term.specs.Tree.{Chars, Tree, int, atom}
use Rattle.pl_model.specs.declared.grammar.Quotes.{Quotes}
use Rattle.pl_model.specs.declared.grammar.Quotes.TheVariants.{Codes, Chars as Characters, Atom as AtomText}

-- What the call of an unknown procedure does (ISO 7.11.2.4): it raises an error, or it fails.
pub data Unknown : Type 0 where
  raises : Unknown
  fails : Unknown

pub record Flags : Type 0 where
  -- what a double-quoted text stands for (ISO 7.11.2.5)
  pub double_quotes : Quotes
  pub unknown : Unknown

-- At the start double-quoted texts are lists of codes, and an unknown procedure raises an error.
abbrev pub opening_flags : Flags
opening_flags = record { double_quotes = Codes; unknown = raises }

abbrev pub quotes_text : Quotes → Chars
quotes_text Codes = codes "codes"
quotes_text Characters = codes "chars"
quotes_text AtomText = codes "atom"

abbrev pub unknown_text : Unknown → Chars
unknown_text raises = codes "error"
unknown_text fails = codes "fail"

abbrev pub quotes_of : Chars → Option Quotes
quotes_of v =
    if bytes_eq v (codes "codes") then Some Codes
    else if bytes_eq v (codes "chars") then Some Characters
    else if bytes_eq v (codes "atom") then Some AtomText
    else None

abbrev pub unknown_of : Chars → Option Unknown
unknown_of v =
    if bytes_eq v (codes "error") then Some raises
    else if bytes_eq v (codes "fail") then Some fails
    else None

-- The flag gets the value, where it has such a value (ISO 8.17.1).
abbrev pub with_flag : Chars → Chars → Flags → Flags
with_flag f v fs =
    if bytes_eq f (codes "double_quotes") then record fs { double_quotes = unwrap_or (quotes_of v) fs.double_quotes }
    else if bytes_eq f (codes "unknown") then record fs { unknown = unwrap_or (unknown_of v) fs.unknown }
    else fs

-- The flags with their values, in standard order (ISO 7.11.1, 7.11.2, 8.17.2). Integers have 64 bits (ISO 7.1.2), and
-- the quotient of // is rounded toward zero.
abbrev pub listed_flags : Flags → List (Chars × Tree)
listed_flags fs =
    (codes "bounded", atom (codes "true"))
    ∷ (codes "double_quotes", atom (quotes_text fs.double_quotes))
    ∷ (codes "integer_rounding_function", atom (codes "toward_zero"))
    ∷ (codes "max_integer", int (pos (2 ^ 63 - 1)))
    ∷ (codes "min_integer", int (negsuc (2 ^ 63 - 1)))
    ∷ (codes "unknown", atom (unknown_text fs.unknown)) ∷ []

-- The flags that cannot be changed, and those that can with their values.
abbrev pub fixed_flags : List Chars
fixed_flags =
    codes "bounded" ∷ codes "integer_rounding_function" ∷ codes "max_integer" ∷ codes "min_integer" ∷ []

abbrev pub is_fixed_flag : Chars → Bool
is_fixed_flag f = list_any (bytes_eq f) fixed_flags

abbrev pub flag_values : Chars → List Chars
flag_values f =
    if bytes_eq f (codes "double_quotes") then codes "codes" ∷ codes "chars" ∷ codes "atom" ∷ []
    else if bytes_eq f (codes "unknown") then codes "error" ∷ codes "fail" ∷ []
    else []

abbrev pub is_flag_value : Chars → Chars → Bool
is_flag_value f v = list_any (bytes_eq v) (flag_values f)
