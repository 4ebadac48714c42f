-- Words of the laws of tokens.
use Rattle.std.specs.Prelude.{◌≡◌, ℕ, List, [], ◌∷◌, Bool, false, ◌&&◌, ◌||◌, ◌==◌, ◌<◌, ◌≤◌, ◌++◌, Ok, codes, if◌then◌else◌, length, drop, slice_index}
use Rattle.std.specs.Char.{is_ascii_uppercase, is_ascii_digit}
use Rattle.std.specs.List.{list_all, flat_map}
use Rattle.pl_term.specs.Tree.{Chars}
use Rattle.pl_model.specs.Characters.{continues_name}
use Rattle.pl_model.specs.Tokens.{skip_layout}
use Rattle.pl_model.specs.LexicalQuoted.{digit_count, begins_with}
use Rattle.pl_model.specs.LexicalTokens.{radix_of}

-- ISO 6.4.3: a variable begins with a capital letter or an underscore, and goes on as a name.
abbrev pub begins_variable : ℕ → Bool
begins_variable c = is_ascii_uppercase c || (c == 95)

abbrev pub is_variable_name : Chars → Bool
is_variable_name [] = false
is_variable_name (c ∷ cs) = begins_variable c && list_all continues_name cs

-- What stands after a decimal numeral ends it: no digit, no single quote or letter that would make another
-- numeral of a 0, and no full stop with a digit.
pub record EndsNumeral (rest : List ℕ) : Type 0 where
  pub digit : digit_count 10 rest ≡ 0
  pub quote : begins_with 39 rest ≡ false
  pub letter : radix_of (slice_index rest 0) ≡ 0
  pub fraction : ((slice_index rest 0 == 46) && is_ascii_digit (slice_index rest 1)) ≡ false

-- A token from `start` to `end` is the next one at `at`: between them stands layout alone, it has one byte at
-- least, and it lies within the text.
pub record NextTo (text : List ℕ) (at start end : ℕ) : Type 0 where
  pub layout : skip_layout at 0 (drop at text) ≡ Ok start
  pub behind : at ≤ start
  pub some : start < end
  pub within : end ≤ length text

-- A text in these quotes: the quote is doubled, a backslash escaped, any other character is itself.
abbrev pub doubled_in : ℕ → ℕ → Chars
doubled_in quote c = if c == quote then quote ∷ quote ∷ [] else if c == 92 then codes "\\\\" else c ∷ []

abbrev pub in_quotes : ℕ → Chars → Chars
in_quotes quote cs = quote ∷ (flat_map (doubled_in quote) cs ++ quote ∷ [])
