-- Built-in predicates on atoms and characters (ISO 8.16). Places and lengths count characters.
use Rattle.std.specs.Prelude.{ℕ, zero, suc, ◌+◌, ◌-◌, ◌*◌, pos, ℤ, List, [], ◌∷◌, ◌++◌, map, length, take, drop, Bool, true, false, not, ◌&&◌, ◌||◌, ◌==◌, nat_lt, Option, Some, None, Result, Ok, Err, bytes_eq, codes, if◌then◌else◌, slice_index, neg_ℤ, encode_utf8_all}
use Rattle.std.specs.Option.{option_map}
use Rattle.std.specs.Fmt.{signed_decimal}
use Rattle.std.specs.Str.Parse.{digits_value}
use Rattle.pl_term.specs.Tree.{Chars, Tree, Trees, var, int, atom, none, more}
use Rattle.pl_model.specs.Tokens.{skip_layout}
use Rattle.pl_model.specs.LexicalQuoted.{is_digit, digit_count}
use Rattle.pl_model.specs.LexicalTokens.{radix_of, character_code}
use Rattle.pl_model.specs.declared.syntax.SyntaxFault.{SyntaxFault}
use Rattle.pl_model.specs.declared.lexical.TokenKind.TheVariants.{Integer}
use Rattle.pl_model.specs.declared.lexical.Reading.{Reading}
use Rattle.pl_model.specs.declared.lexical.Reading.TheVariants.{Token}
use Rattle.pl_model.specs.Evaluables.{is_in_range}
use Rattle.pl_model.specs.TermGrammar.{is_too_long}
use Rattle.pl_model.specs.Balls.{type_error, representation_error, syntax_error}
use Rattle.pl_model.specs.Terms.{is_variable, is_atom, list_term}
use Rattle.pl_model.specs.Checks.{first_error, error_if, bound_error, atom_error, atomic_error, integer_error, negative_error, elements, text_of_atom, natural_of}
use Rattle.pl_model.specs.BuiltinRows.{Answer, Row, table, error, plain_answer, one_answer}
use Rattle.pl_model.specs.TermBuiltins.{makes, two, three, unless, on_list}

abbrev pub number : ℕ → Tree
number n = int (pos n)

-- An atom that is made has at most 248 bytes.
abbrev pub if_short : Chars → Row → Row
if_short a r = if is_too_long a then error (representation_error (codes "max_atom_length")) else r

-- atom_length/2 (8.16.1)
abbrev pub measures : Tree → Tree → Row
measures a n =
    unless
    (first_error (bound_error a ∷ atom_error a ∷ integer_error n ∷ negative_error n ∷ []))
    (one_answer (two a (number (length (text_of_atom a)))))

-- atom_concat/3 (8.16.2): the two parts of the third at each place, or the third of the two.
abbrev pub parts_from : ℕ → ℕ → Chars → List Answer
parts_from zero i c = []
parts_from (suc k) i c = plain_answer (three (atom (take i c)) (atom (drop i c)) (atom c)) ∷ parts_from k (suc i) c

abbrev pub concatenates : Tree → Tree → Tree → Row
concatenates a b c =
    unless
    (first_error
    ((if is_variable c then first_error (bound_error a ∷ bound_error b ∷ []) else None)
    ∷ atom_error a ∷ atom_error b ∷ atom_error c ∷ []))
    (if is_atom a && is_atom b
    then if_short (text_of_atom a ++ text_of_atom b) (one_answer (three a b (atom (text_of_atom a ++ text_of_atom b))))
    else table (parts_from (suc (length (text_of_atom c))) zero (text_of_atom c)))

-- sub_atom/5 (8.16.3): by the place, then by the length.
abbrev pub five : Tree → Tree → Tree → Tree → Tree → Trees
five s t u v w = more s (more t (three u v w))

abbrev pub sub_atoms_at : ℕ → ℕ → Chars → ℕ → List Answer
sub_atoms_at zero n a before = []
sub_atoms_at (suc k) n a before =
    plain_answer (five (atom a) (number before) (number n) (number (length a - before - n)) (atom (take n (drop before a))))
    ∷ sub_atoms_at k (suc n) a before

abbrev pub sub_atoms_from : ℕ → ℕ → Chars → List Answer
sub_atoms_from zero before a = []
sub_atoms_from (suc k) before a = sub_atoms_at (suc (length a - before)) zero a before ++ sub_atoms_from k (suc before) a

abbrev pub counted_error : Tree → Option Tree
counted_error n = first_error (integer_error n ∷ negative_error n ∷ [])

abbrev pub sub_atoms : Tree → Tree → Tree → Tree → Tree → Row
sub_atoms a b l f s =
    unless
    (first_error
    (bound_error a ∷ atom_error a ∷ counted_error b ∷ counted_error l ∷ counted_error f ∷ atom_error s ∷ []))
    (table (sub_atoms_from (suc (length (text_of_atom a))) zero (text_of_atom a)))

-- Characters and character codes (ISO 7.1.2.2, 7.1.4.1)

abbrev pub is_character : Tree → Bool
is_character (atom (c ∷ [])) = true
is_character _ = false

abbrev pub character_error : Tree → Option Tree
character_error t =
    first_error (bound_error t ∷ error_if (not (is_character t)) (type_error (codes "character") t) ∷ [])

-- A code of a character: a Unicode scalar value.
abbrev pub is_scalar : ℕ → Bool
is_scalar c = nat_lt c 55296 || (nat_lt 57343 c && nat_lt c 1114112)

abbrev pub is_code : Tree → Bool
is_code (int (pos c)) = is_scalar c
is_code _ = false

abbrev pub code_error : Tree → Option Tree
code_error t =
    first_error
    (bound_error t ∷ integer_error t ∷ error_if (not (is_code t)) (representation_error (codes "character_code")) ∷ [])

abbrev pub all_errors : (Tree → Option Tree) → List Tree → Option Tree
all_errors check [] = None
all_errors check (t ∷ ts) = first_error (check t ∷ all_errors check ts ∷ [])

abbrev pub first_or_zero : Chars → ℕ
first_or_zero [] = 0
first_or_zero (c ∷ cs) = c

abbrev pub character_in : Tree → ℕ
character_in t = first_or_zero (text_of_atom t)

abbrev pub as_character : ℕ → Tree
as_character c = atom (c ∷ [])

-- atom_chars/2, atom_codes/2 (8.16.4, 8.16.5). An integer is taken as its text.
abbrev pub text_of_atomic : Tree → Chars
text_of_atomic (atom a) = a
text_of_atomic (int i) = signed_decimal i
text_of_atomic _ = []

abbrev pub spells : (Tree → Option Tree) → (Tree → ℕ) → (ℕ → Tree) → Tree → Tree → Row
spells check from to (var x) l =
    on_list (elements l)
    (λ ts. unless (all_errors check ts) (if_short (map from ts) (one_answer (two (atom (map from ts)) l))))
spells check from to a l =
    unless (atomic_error a) (makes (two a (list_term (map to (text_of_atomic a)))) (3 * length (text_of_atomic a)))

-- char_code/2 (8.16.6)
abbrev pub one_of_character : Tree → Option Tree
one_of_character t = if is_variable t then None else character_error t

abbrev pub one_of_code : Tree → Option Tree
one_of_code t = if is_variable t then None else code_error t

abbrev pub coded_row : Tree → Tree → Row
coded_row (var x) n = one_answer (two (as_character (natural_of n)) n)
coded_row c n = one_answer (two c (number (character_in c)))

abbrev pub codes_character : Tree → Tree → Row
codes_character c n =
    unless
    (first_error
    ((if is_variable c then bound_error n else None) ∷ one_of_character c ∷ one_of_code n ∷ []))
    (coded_row c n)

-- number_chars/2, number_codes/2 (8.16.7, 8.16.8): layout, a minus, and a numeral, up to the end of the text. What is no
-- such text is refused before a number that has more than 64 bits.
abbrev pub coded_numeral : Reading → Option (ℕ × ℕ)
coded_numeral (Token (Integer c) n) = Some (c, n)
coded_numeral _ = None

abbrev pub radix_numeral : ℕ → List ℕ → Option (ℕ × ℕ)
radix_numeral radix bs =
    let n = digit_count radix (drop 2 bs) in Some (digits_value radix (take n (drop 2 bs)), n + 2)

abbrev pub decimal_numeral : List ℕ → Option (ℕ × ℕ)
decimal_numeral bs =
    let n = digit_count 10 bs in if n == 0 then None else Some (digits_value 10 (take n bs), n)

-- The value of the numeral at the front of bytes (6.4.4), and its number of bytes.
abbrev pub numeral_at : List ℕ → Option (ℕ × ℕ)
numeral_at bs =
    if (slice_index bs 0 == 48) && ((slice_index bs 1 == 39) && nat_lt 2 (length bs)) then coded_numeral (character_code (drop 2 bs)) else
    if (slice_index bs 0 == 48) && is_digit (radix_of (slice_index bs 1)) (slice_index bs 2) then radix_numeral (radix_of (slice_index bs 1)) bs else
    decimal_numeral bs

abbrev pub whole_numeral : List ℕ → Option (ℕ × ℕ) → Option ℕ
whole_numeral bs None = None
whole_numeral bs (Some n) = if n.1 == length bs then Some n.0 else None

abbrev pub signed : List ℕ → Option ℤ
signed [] = None
signed (b ∷ bs) =
    if b == 45 then option_map (λ n. neg_ℤ (pos n)) (whole_numeral bs (numeral_at bs))
    else option_map (λ n. pos n) (whole_numeral (b ∷ bs) (numeral_at (b ∷ bs)))

abbrev pub behind_layout : List ℕ → Result ℕ SyntaxFault → Option ℤ
behind_layout bs (Ok start) = signed (drop start bs)
behind_layout bs (Err f) = None

abbrev pub number_in : Chars → Option ℤ
number_in t = let bs = encode_utf8_all t in behind_layout bs (skip_layout 0 0 bs)

abbrev pub number_row : Tree → Option ℤ → Row
number_row l None = error (syntax_error (codes "illegal_number"))
number_row l (Some i) =
    if is_in_range i then one_answer (two (int i) l) else error (syntax_error (codes "integer_too_large"))

abbrev pub spells_number : (Tree → Option Tree) → (Tree → ℕ) → (ℕ → Tree) → Tree → Tree → Row
spells_number check from to (var x) l =
    on_list (elements l) (λ ts. unless (all_errors check ts) (number_row l (number_in (map from ts))))
spells_number check from to (int i) l = makes (two (int i) (list_term (map to (signed_decimal i)))) (3 * length (signed_decimal i))
spells_number check from to n l = error (type_error (codes "number") n)

abbrev pub atom_row : Chars → Trees → Option Row
atom_row f (more t (more u none)) =
    if bytes_eq f (codes "atom_length") then Some (measures t u) else
    if bytes_eq f (codes "atom_chars") then Some (spells character_error character_in as_character t u) else
    if bytes_eq f (codes "atom_codes") then Some (spells code_error natural_of number t u) else
    if bytes_eq f (codes "number_chars") then Some (spells_number character_error character_in as_character t u) else
    if bytes_eq f (codes "number_codes") then Some (spells_number code_error natural_of number t u) else
    if bytes_eq f (codes "char_code") then Some (codes_character t u) else None
atom_row f (more t (more u (more v none))) = if bytes_eq f (codes "atom_concat") then Some (concatenates t u v) else None
atom_row f (more s (more t (more u (more v (more w none))))) =
    if bytes_eq f (codes "sub_atom") then Some (sub_atoms s t u v w) else None
atom_row f _ = None
