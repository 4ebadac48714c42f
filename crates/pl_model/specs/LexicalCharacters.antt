-- Characters (ISO 6.5): which token begins with each.
use Rattle.std.specs.Prelude.{ℕ, Bool, ◌||◌, ◌==◌, nat_lt, if◌then◌else◌}
use Rattle.std.specs.Char.{is_ascii_lowercase, is_ascii_uppercase, is_ascii_digit}
use Rattle.unicode_ident.specs.Ident.{is_xid_start}
use Rattle.pl_model.specs.Characters.{is_symbol}
use Rattle.pl_model.specs.declared.lexical.Mark.TheVariants.{Open, Close, OpenList, CloseList, OpenCurly, CloseCurly, Bar, Comma}
use Rattle.pl_model.specs.declared.lexical.Begins.{Begins}
use Rattle.pl_model.specs.declared.lexical.Begins.TheVariants.{Name, Variable, Digit, Symbol, Solo, Quote, Punctuation, Other}

-- ISO 6.5.3: the cut and the semicolon are names of one character.
abbrev pub is_solo : ℕ → Bool
is_solo c = (c == 33) || (c == 59)

-- ISO 6.5.5, 6.4.6, 6.4.7: the single quote, the double quote and the back quote.
abbrev pub is_quote : ℕ → Bool
is_quote c = (c == 39) || ((c == 34) || (c == 96))

-- ISO 6.5.3: the other solo characters are punctuation.
abbrev pub punctuation : ℕ → Begins
punctuation c =
    if c == 40 then Punctuation Open else
    if c == 41 then Punctuation Close else
    if c == 91 then Punctuation OpenList else
    if c == 93 then Punctuation CloseList else
    if c == 123 then Punctuation OpenCurly else
    if c == 125 then Punctuation CloseCurly else
    if c == 124 then Punctuation Bar else
    if c == 44 then Punctuation Comma else Other

abbrev pub ascii_begins : ℕ → Begins
ascii_begins c =
    if is_ascii_lowercase c then Name else
    if is_ascii_uppercase c || (c == 95) then Variable else
    if is_ascii_digit c then Digit else
    if is_symbol c then Symbol else
    if is_solo c then Solo else
    if is_quote c then Quote else punctuation c

-- Past ASCII the characters that may begin an identifier (XID_Start, Unicode Standard Annex 31) begin a name.
abbrev pub begins : ℕ → Begins
begins c = if nat_lt c 128 then ascii_begins c else if is_xid_start c then Name else Other
