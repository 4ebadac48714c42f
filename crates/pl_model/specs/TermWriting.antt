-- Writing terms in full (ISO 7.10.5): the text of a term as the list of its pieces, and the spaces between neighbours.
-- write, writeq, print and write_canonical are four manners of it.
use Rattle.std.specs.Prelude.{ℕ, suc, List, [], ◌∷◌, ◌++◌, Bool, true, false, not, ◌&&◌, ◌||◌, ◌==◌, nat_lt, bytes_eq, codes, if◌then◌else◌, Option, Some, None, is_some}
use Rattle.std.specs.Char.{is_ascii_digit}
use Rattle.std.specs.Fmt.{signed_decimal}
use Rattle.pl_term.specs.Tree.{Chars, Tree, Trees, var, int, atom, comp, none, more, count}
use Rattle.pl_model.specs.Characters.{is_symbol_name}
use Rattle.pl_model.specs.declared.operators.Kind.{Kind}
use Rattle.pl_model.specs.declared.operators.Kind.TheVariants.{Yfx, Xf, Yf}
use Rattle.pl_model.specs.declared.operators.Place.TheVariants.{Prefix, Infix, Postfix}
use Rattle.pl_model.specs.OperatorTable.{OperatorTable, Entry, operator_at}
use Rattle.pl_model.specs.TermGrammar.{Lookup, left_argument, right_argument}
use Rattle.pl_model.specs.Writing.{name, functor, variable, Place, alone, operand, left_operand, is_operand, ends, goes_on, partial, tail_of, would_join, last_character}

-- How terms are written: whether names stand in quotes where they would not read back without them, and whether a term
-- in curly brackets is written with them.
pub record Manner : Type 0 where
  pub quotes : Bool
  pub curly : Bool

-- A piece of text. That of a prefix operator is told from the others, with its name.
pub data Piece : Type 0 where
  plain : Chars → Piece
  before_operand : Chars → Chars → Piece

-- The pieces in parentheses, where they have to stand in them.
abbrev pub parenthesized : Bool → List Piece → List Piece
parenthesized b ps = if b then plain (codes "(") ∷ (ps ++ plain (codes ")") ∷ []) else ps

-- How a compound term is written, by its name and the number of its arguments.
pub data Form : Type 0 where
  list : Form
  curly_brackets : Form
  infix_operation : Entry → Form
  prefix_operation : Entry → Form
  postfix_operation : Entry → Form
  functional : Form

-- A term of one argument is that of a prefix operator, or of a postfix operator that is no prefix operator.
abbrev pub form_of_one : Option Entry → Option Entry → Form
form_of_one (Some e) o = prefix_operation e
form_of_one None (Some e) = postfix_operation e
form_of_one None None = functional

abbrev pub form_of_two : Option Entry → Form
form_of_two (Some e) = infix_operation e
form_of_two None = functional

abbrev pub form : Manner → Lookup → Chars → ℕ → Form
form m ops f n =
    if (n == 2) && bytes_eq f (codes ".") then list else
    if m.curly && ((n == 1) && bytes_eq f (codes "{}")) then curly_brackets else
    if n == 2 then form_of_two (ops f Infix) else
    if n == 1 then form_of_one (ops f Prefix) (ops f Postfix) else functional

-- Names of operators

abbrev pub is_operator : Lookup → Chars → Bool
is_operator ops f = is_some (ops f Prefix) || (is_some (ops f Infix) || is_some (ops f Postfix))

abbrev pub name_by : Manner → Chars → Chars
name_by m f = if m.quotes then name f else f

abbrev pub functor_by : Manner → Chars → Chars
functor_by m f = if m.quotes then functor f else f

-- The comma is an operator without quotes.
abbrev pub operator_name : Manner → Chars → Chars
operator_name m f = if bytes_eq f (codes ",") then f else name_by m f

-- A comma, a semicolon and symbol names stand without spaces, any other infix or postfix operator with one space on each
-- side on which it has an operand.
abbrev pub is_tight : Chars → Bool
is_tight f = bytes_eq f (codes ",") || (bytes_eq f (codes ";") || is_symbol_name f)

abbrev pub infix_pieces : Manner → Chars → List Piece
infix_pieces m f =
    if is_tight f then plain (operator_name m f) ∷ [] else
    plain (codes " ") ∷ plain (operator_name m f) ∷ plain (codes " ") ∷ []

abbrev pub postfix_pieces : Manner → Chars → List Piece
postfix_pieces m f =
    if is_tight f then plain (operator_name m f) ∷ [] else plain (codes " ") ∷ plain (operator_name m f) ∷ []

-- Parentheses

-- An operand that is an atom and an operator stands in parentheses.
abbrev pub atom_pieces : Manner → Lookup → Place → Chars → List Piece
atom_pieces m ops place f = parenthesized (is_operand place && is_operator ops f) (plain (name_by m f) ∷ [])

abbrev pub is_left_associative : Kind → Bool
is_left_associative k = elim k [ Yfx ↦ true | Xf ↦ true | Yf ↦ true | _ ↦ false ]

-- A left operand of exactly the priority of the operator on its right, unless it is left associative.
abbrev pub clashes : Place → Entry → Bool
clashes alone e = false
clashes operand e = false
clashes (left_operand p) e = (e.0 == p) && not (is_left_associative e.1)

-- A term of an operator stands in parentheses where its priority is above the largest one that may stand here, or
-- where it clashes with the operator on its right.
abbrev pub needs_parentheses : ℕ → Place → Entry → Bool
needs_parentheses max place e = nat_lt max e.0 || clashes place e

module _ (m : Manner) (ops : Lookup) where
  -- The pieces of a term, where `max` is the largest priority of an operator that may stand without parentheses.
  -- Arguments and list elements stand at 999, what is between curly brackets at 1200.
  unfoldable mutual
    pub pieces : ℕ → Place → Tree → List Piece
    pieces max place (var n) = plain (variable n) ∷ []
    pieces max place (int i) = plain (signed_decimal i) ∷ []
    pieces max place (atom a) = atom_pieces m ops place a
    pieces max place (comp f t ts) =
        elim (form m ops f (suc (count ts))) [
          | list ↦ plain (codes "[") ∷ (pieces 999 alone t ++ list_tail ts)
          | curly_brackets ↦ plain (codes "{") ∷ (pieces 1200 alone t ++ plain (codes "}") ∷ [])
          | infix_operation e ↦ parenthesized (needs_parentheses max place e) (pieces (left_argument e) (left_operand e.0) t ++ (infix_pieces m f ++ right_operand e ts))
          | prefix_operation e ↦ parenthesized (needs_parentheses max place e) (before_operand f (operator_name m f) ∷ pieces (right_argument e) operand t)
          | postfix_operation e ↦ parenthesized (needs_parentheses max place e) (pieces (left_argument e) (left_operand e.0) t ++ postfix_pieces m f)
          | functional ↦ plain (functor_by m f) ∷ plain (codes "(") ∷ (pieces 999 alone t ++ arguments ts)
        ]

    -- The operand on the right of an infix operator.
    pub right_operand : Entry → Trees → List Piece
    right_operand e none = []
    right_operand e (more t ts) = pieces (right_argument e) operand t

    -- The arguments after the first one, with the closing parenthesis.
    pub arguments : Trees → List Piece
    arguments none = plain (codes ")") ∷ []
    arguments (more t ts) = plain (codes ",") ∷ (pieces 999 alone t ++ arguments ts)

    -- What follows an element of a list whose tail is the first of these terms, with the closing bracket.
    pub list_tail : Trees → List Piece
    list_tail none = plain (codes "]") ∷ []
    list_tail (more t ts) =
        elim (tail_of t) [
          | ends ↦ plain (codes "]") ∷ []
          | goes_on ↦ elements t
          | partial ↦ plain (codes "|") ∷ (pieces 999 alone t ++ plain (codes "]") ∷ [])
        ]

    -- The further elements of a list, with the closing bracket.
    pub elements : Tree → List Piece
    elements (var n) = []
    elements (int i) = []
    elements (atom a) = []
    elements (comp f t ts) = plain (codes ",") ∷ (pieces 999 alone t ++ list_tail ts)

-- Spaces

-- What stands before a piece: its last character, and the prefix operator that it is, if it is one.
pub record Behind : Type 0 where
  pub last : ℕ
  pub prefix : Option Chars

-- A prefix operator would be read as a functor before an opening parenthesis, and `-` as a sign before a digit.
abbrev pub would_bind : Option Chars → ℕ → Bool
would_bind None d = false
would_bind (Some f) d = (d == 40) || (bytes_eq f (codes "-") && is_ascii_digit d)

-- A piece with the space before it, if one is wanted. One without a character counts for nothing.
abbrev pub gap : Behind → ℕ → Chars
gap b d = if would_join b.last d || would_bind b.prefix d then codes " " else []

abbrev pub put : Behind → Chars → Chars
put b [] = []
put b (d ∷ ds) = gap b d ++ d ∷ ds

abbrev pub behind : Behind → Option Chars → Chars → Behind
behind b o [] = b
behind b o (d ∷ ds) = record { last = last_character d ds; prefix = o }

abbrev pub text_behind : Behind → List Piece → Chars
text_behind b [] = []
text_behind b (plain p ∷ ps) = put b p ++ text_behind (behind b None p) ps
text_behind b (before_operand f p ∷ ps) = put b p ++ text_behind (behind b (Some f) p) ps

-- The text of a term. There is no space before its first piece, as there is none after a space.
unfoldable pub text_of : Manner → Lookup → ℕ → Tree → Chars
text_of m ops max t = text_behind (record { last = 32; prefix = None }) (pieces m ops max alone t)

abbrev pub quoting : Manner
quoting = record { quotes = true; curly = true }

abbrev pub bare : Manner
bare = record { quotes = false; curly = true }

abbrev pub canonical : Manner
canonical = record { quotes = true; curly = false }

abbrev pub no_operators : Lookup
no_operators f p = None

-- writeq and print, write, and write_canonical, which writes no operators (ISO 8.14.2; SWI-Prolog manual, print/1).

abbrev pub writeq : OperatorTable → ℕ → Tree → Chars
writeq ops max t = text_of quoting (operator_at ops) max t

abbrev pub write : OperatorTable → ℕ → Tree → Chars
write ops max t = text_of bare (operator_at ops) max t

abbrev pub write_canonical : Tree → Chars
write_canonical t = text_of canonical no_operators 1200 t
