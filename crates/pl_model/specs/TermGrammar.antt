-- Terms and clauses in full (ISO 6.2, 6.3): a term is a primary, and then as many infix and postfix operators as fit.
-- Reading goes from a place of the text to another, one token at a time, and ends at the first fault that a reader
-- meets who looks one token ahead.
use Rattle.std.specs.Prelude.{ℕ, List, [], ◌∷◌, Bool, true, false, not, Option, Some, None, Ok, Err, ◌+◌, ◌-◌, ◌^◌, suc, zero, ◌&&◌, ◌||◌, ◌==◌, nat_lt, nat_le, if◌then◌else◌, bytes_eq, codes, is_some, length, map, slice_index, pos, neg_ℤ}
use Rattle.std.specs.Char.{is_ascii_digit}
use Rattle.pl_term.specs.Tree.{Chars, Tree, Trees, int, atom, comp, none, more}
use Rattle.pl_term.specs.Texts.{size}
use Rattle.pl_model.specs.declared.syntax.SyntaxKind.TheVariants.{AtomTooLong, IntegerTooLarge, UnexpectedToken, UnexpectedEnd, PriorityClash}
use Rattle.pl_model.specs.declared.lexical.Mark.{Mark}
use Rattle.pl_model.specs.declared.lexical.Mark.TheVariants.{Open, OpenCt, Close, OpenList, CloseList, OpenCurly, CloseCurly, Bar, Comma}
use Rattle.pl_model.specs.declared.lexical.TokenKind.TheVariants.{Name, Quoted, Variable, Integer, DoubleQuoted, BackQuoted, Punctuation, EndToken}
use Rattle.pl_model.specs.declared.lexical.Lexeme.TheVariants.{Token, End}
use Rattle.pl_model.specs.declared.operators.Kind.TheVariants.{Xfx, Xfy, Yfx, Fy, Fx, Yf}
use Rattle.pl_model.specs.declared.operators.Place.{Place}
use Rattle.pl_model.specs.declared.operators.Place.TheVariants.{Prefix, Infix, Postfix}
use Rattle.pl_model.specs.declared.grammar.Quotes.{Quotes}
use Rattle.pl_model.specs.declared.grammar.Quotes.TheVariants.{Codes, Chars as Characters, Atom as AtomText}
use Rattle.pl_model.specs.OperatorTable.{OperatorTable, Entry, operator_at}
use Rattle.pl_model.specs.LexicalTokens.{Lexed, token_at}
use Rattle.pl_model.specs.Grammar.{Reading, Part, Outcome, and_then, moved, refused, variable_named, Item, clause, fault, end_of_text, item}

-- Atoms and functors have at most 248 bytes in UTF-8.
abbrev pub is_too_long : Chars → Bool
is_too_long f = nat_lt 248 (size f)

-- Lists (ISO 6.3.5), and the texts that are lists (ISO 6.3.7)

abbrev pub cons : Tree → Tree → Tree
cons t tail = comp (codes ".") t (more tail none)

abbrev pub list_of : List Tree → Tree
list_of [] = atom (codes "[]")
list_of (t ∷ ts) = cons t (list_of ts)

abbrev pub codes_of : Chars → Tree
codes_of cs = list_of (map (λ c. int (pos c)) cs)

abbrev pub characters_of : Chars → Tree
characters_of cs = list_of (map (λ c. atom (c ∷ [])) cs)

-- Operators by their names and places, as a table of operators gives them.
abbrev pub Lookup : Type 0
Lookup = Chars → Place → Option Entry

-- Operators (ISO 6.3.4.2, table 4): an x is an argument of lower priority than the operator's own, a y one of at most
-- that.

abbrev pub lower : ℕ → ℕ
lower p = p - 1

abbrev pub left_argument : Entry → ℕ
left_argument e = elim e.1 [ Yfx ↦ e.0 | Yf ↦ e.0 | _ ↦ lower e.0 ]

abbrev pub right_argument : Entry → ℕ
right_argument e = elim e.1 [ Xfy ↦ e.0 | Fy ↦ e.0 | _ ↦ lower e.0 ]

-- An operator goes on with a left part where both priorities allow it.
abbrev pub fits : ℕ → Part → Entry → Bool
fits max p e = nat_le e.0 max && nat_le p.priority (left_argument e)

-- Some terms with commas between them.
pub record Items : Type 0 where
  pub first : Tree
  pub others : Trees
  pub reading : Reading

-- The list of these terms with a tail.
abbrev pub list_behind : Trees → Tree → Tree
list_behind none tail = tail
list_behind (more t ts) tail = cons t (list_behind ts tail)

abbrev pub list_with : Items → Tree → Tree
list_with q tail = cons q.first (list_behind q.others tail)

abbrev pub mark_number : Mark → ℕ
mark_number Open = 0
mark_number OpenCt = 1
mark_number Close = 2
mark_number OpenList = 3
mark_number CloseList = 4
mark_number OpenCurly = 5
mark_number CloseCurly = 6
mark_number Bar = 7
mark_number Comma = 8

-- The place after a punctuation token, where it stands ahead.
abbrev pub behind_mark : Mark → Lexed → Option ℕ
behind_mark mark (Ok (Token (Punctuation m) start end)) = if mark_number m == mark_number mark then Some end else None
behind_mark mark l = None

-- A term that is complete by itself, whose last token ends at a place: its priority is 0.
abbrev pub complete : Tree → Reading → ℕ → Outcome Part
complete t r end = Ok (record { term = t; priority = 0; reading = moved r end })

-- What is between the tokens that stand around it, up to the closing one.
module _ (text : List ℕ) where
  -- The fault of a token that cannot stand here.
  abbrev pub unexpected : {A : Type 0} → Lexed → Outcome A
  unexpected (Err f) = Err f
  unexpected (Ok End) = refused UnexpectedEnd (length text)
  unexpected (Ok (Token kind start end)) = refused UnexpectedToken start

  abbrev pub closed_by : Tree → Reading → Lexed → Option ℕ → Outcome Part
  closed_by t r l None = unexpected l
  closed_by t r l (Some end) = complete t r end

  abbrev pub closed : Mark → Tree → Reading → Outcome Part
  closed mark t r = let l = token_at text r.at in closed_by t r l (behind_mark mark l)

-- Each of these is told the parsers of the subterms: `inner` reads a term of at most a priority, `items` some terms of
-- at most 999 with commas between them.
module _ (text : List ℕ) (ops : Lookup) (quotes : Quotes) where
  -- Numerals (ISO 6.3.1.1, 6.3.1.2). The number 2^63 has no place among the integers of 64 bits, but -2^63 has.

  abbrev pub integer : Reading → ℕ → ℕ → ℕ → Outcome Part
  integer r n start end = if nat_lt n (2 ^ 63) then complete (int (pos n)) r end else refused IntegerTooLarge start

  -- A name token that is `-` without quotes and stands directly before a numeral: the two are one negative numeral.
  abbrev pub is_minus : Chars → ℕ → Bool
  is_minus f end = bytes_eq f (codes "-") && is_ascii_digit (slice_index text end)

  abbrev pub negative : Reading → Lexed → Outcome Part
  negative r (Ok (Token (Integer n) start end)) = complete (int (neg_ℤ (pos n))) r end
  negative r l = unexpected text l

  -- Texts in double quotes are what the flag double_quotes says (ISO 6.3.7); texts in back quotes are lists of codes.
  abbrev pub double_quoted : Reading → Chars → ℕ → ℕ → Quotes → Outcome Part
  double_quoted r cs start end Codes = complete (codes_of cs) r end
  double_quoted r cs start end Characters = complete (characters_of cs) r end
  double_quoted r cs start end AtomText = if is_too_long cs then refused AtomTooLong start else complete (atom cs) r end

  -- Whether a name stands directly before an opening parenthesis: then it is a functor (ISO 6.3.3).
  abbrev pub is_functor : ℕ → Bool
  is_functor end = slice_index text end == 40

  abbrev pub is_operator : Chars → Bool
  is_operator f = is_some (ops f Infix) && not (is_some (ops f Prefix))

  -- Whether what follows a prefix operator shows that it is an atom (ISO 6.3.4.2): a token that ends the term, or an
  -- infix operator that begins no term.
  abbrev pub stands_alone : Lexed → Bool
  stands_alone (Ok (Token EndToken start end)) = true
  stands_alone (Ok (Token (Punctuation mark) start end)) = elim mark [ Open ↦ false | OpenCt ↦ false | OpenList ↦ false | OpenCurly ↦ false | _ ↦ true ]
  stands_alone (Ok (Token (Name f) start end)) = is_operator f && not (is_functor end || is_minus f end)
  stands_alone (Ok (Token (Quoted f) start end)) = is_operator f && not (is_functor end)
  stands_alone l = false

  -- A prefix operator with its operand (ISO 6.3.4.2).
  abbrev pub prefix_term : (ℕ → Reading → Outcome Part) → ℕ → Reading → Chars → ℕ → ℕ → Entry → Outcome Part
  prefix_term inner max r f start end e =
      if nat_lt max e.0 then refused PriorityClash start else
      and_then (inner (right_argument e) (moved r end)) (λ p. Ok (record { term = comp f p.term none; priority = e.0; reading = p.reading }))

  -- An atom (ISO 6.3.1.3), or a prefix operator with its operand, by the token that follows.
  abbrev pub atom_or_operator : (ℕ → Reading → Outcome Part) → ℕ → Reading → Chars → ℕ → ℕ → Option Entry → Lexed → Outcome Part
  atom_or_operator inner max r f start end None l = complete (atom f) r end
  atom_or_operator inner max r f start end (Some e) (Err wrong) = Err wrong
  atom_or_operator inner max r f start end (Some e) l =
      if stands_alone l then complete (atom f) r end else prefix_term inner max r f start end e

  -- A compound term in functional notation (ISO 6.3.3), whose arguments begin at `r`.
  abbrev pub functional : (Reading → Outcome Items) → Chars → Reading → Outcome Part
  functional items f r = and_then (items r) (λ q. closed text Close (comp f q.first q.others) q.reading)

  abbrev pub named_term : (ℕ → Reading → Outcome Part) → (Reading → Outcome Items) → ℕ → Reading → Chars → ℕ → ℕ → Outcome Part
  named_term inner items max r f start end =
      if is_too_long f then refused AtomTooLong start else
      if is_functor end then functional items f (moved r (end + 1)) else
      atom_or_operator inner max r f start end (ops f Prefix) (token_at text end)

  -- A list in list notation (ISO 6.3.5), from the place after its opening bracket. Where a head tail separator stands
  -- ahead, the list has a tail after it.
  abbrev pub with_tail : (ℕ → Reading → Outcome Part) → Items → Option ℕ → Outcome Part
  with_tail inner q None = closed text CloseList (list_with q (atom (codes "[]"))) q.reading
  with_tail inner q (Some end) = and_then (inner 999 (moved q.reading end)) (λ p. closed text CloseList (list_with q p.term) p.reading)

  abbrev pub list_term : (ℕ → Reading → Outcome Part) → (Reading → Outcome Items) → Reading → Option ℕ → Outcome Part
  list_term inner items r (Some end) = complete (atom (codes "[]")) r end
  list_term inner items r None = and_then (items r) (λ q. with_tail inner q (behind_mark Bar (token_at text q.reading.at)))

  -- A term in curly brackets (ISO 6.3.6), from the place after the opening one.
  abbrev pub curly_term : (ℕ → Reading → Outcome Part) → Reading → Option ℕ → Outcome Part
  curly_term inner r (Some end) = complete (atom (codes "{}")) r end
  curly_term inner r None = and_then (inner 1200 r) (λ p. closed text CloseCurly (comp (codes "{}") p.term none) p.reading)

  -- What begins with a punctuation token that ends at a place (ISO 6.3.4.1: a term in parentheses has priority 0).
  abbrev pub enclosed : (ℕ → Reading → Outcome Part) → (Reading → Outcome Items) → Reading → Mark → ℕ → Lexed → Outcome Part
  enclosed inner items r mark end l =
      elim mark [
        | Open ↦ and_then (inner 1200 (moved r end)) (λ p. closed text Close p.term p.reading)
        | OpenCt ↦ and_then (inner 1200 (moved r end)) (λ p. closed text Close p.term p.reading)
        | OpenList ↦ list_term inner items (moved r end) (behind_mark CloseList (token_at text end))
        | OpenCurly ↦ curly_term inner (moved r end) (behind_mark CloseCurly (token_at text end))
        | _ ↦ unexpected text l
      ]

  -- A term that is no operation of an infix or postfix operator (ISO 6.3.1 to 6.3.7), from the token at its front.
  abbrev pub primary : (ℕ → Reading → Outcome Part) → (Reading → Outcome Items) → ℕ → Reading → Lexed → Outcome Part
  primary inner items max r (Ok (Token (Name f) start end)) =
      if is_minus f end then negative r (token_at text end) else named_term inner items max r f start end
  primary inner items max r (Ok (Token (Quoted f) start end)) = named_term inner items max r f start end
  primary inner items max r (Ok (Token (Variable name) start end)) = Ok (variable_named r name end)
  primary inner items max r (Ok (Token (Integer n) start end)) = integer r n start end
  primary inner items max r (Ok (Token (DoubleQuoted cs) start end)) = double_quoted r cs start end quotes
  primary inner items max r (Ok (Token (BackQuoted cs) start end)) = complete (codes_of cs) r end
  primary inner items max r (Ok (Token (Punctuation mark) start end)) =
      enclosed inner items r mark end (Ok (Token (Punctuation mark) start end))
  primary inner items max r l = unexpected text l

  -- The name that stands ahead as an operator would: a name, with or without quotes, or the comma.
  abbrev pub name_ahead : Lexed → Option (Chars × ℕ)
  name_ahead (Ok (Token (Name f) start end)) = Some (f, end)
  name_ahead (Ok (Token (Quoted f) start end)) = Some (f, end)
  name_ahead (Ok (Token (Punctuation Comma) start end)) = Some (codes ",", end)
  name_ahead l = None

  -- An infix operator goes on with a term after it, a postfix operator by itself (ISO 6.3.4.2). Where neither fits, the
  -- term ends.
  abbrev pub infix_term : (ℕ → Reading → Outcome Part) → (Part → Outcome Part) → Part → Chars → ℕ → Entry → Outcome Part
  infix_term inner next p f end e =
      and_then (inner (right_argument e) (moved p.reading end)) (λ q.
      next (record { term = comp f p.term (more q.term none); priority = e.0; reading = q.reading }))

  abbrev pub postfix_term : (Part → Outcome Part) → Part → Chars → ℕ → Entry → Outcome Part
  postfix_term next p f end e = next (record { term = comp f p.term none; priority = e.0; reading = moved p.reading end })

  abbrev pub operation : (ℕ → Reading → Outcome Part) → (Part → Outcome Part) → ℕ → Part → Chars → ℕ → Option Entry → Option Entry → Outcome Part
  operation inner next max p f end (Some e) o = if fits max p e then infix_term inner next p f end e else Ok p
  operation inner next max p f end None (Some e) = if fits max p e then postfix_term next p f end e else Ok p
  operation inner next max p f end None None = Ok p

  abbrev pub operation_ahead : (ℕ → Reading → Outcome Part) → (Part → Outcome Part) → ℕ → Part → Option (Chars × ℕ) → Outcome Part
  operation_ahead inner next max p None = Ok p
  operation_ahead inner next max p (Some n) =
      operation inner next max p n.0 n.1 (ops n.0 Infix) (ops n.0 Postfix)

  abbrev pub going_on : (ℕ → Reading → Outcome Part) → (Part → Outcome Part) → ℕ → Part → Lexed → Outcome Part
  going_on inner next max p (Err f) = Err f
  going_on inner next max p l = operation_ahead inner next max p (name_ahead l)

  -- After a term among others: a comma and further terms, or none.
  abbrev pub further : (Reading → Outcome Items) → Part → Option ℕ → Outcome Items
  further items p None = Ok (record { first = p.term; others = none; reading = p.reading })
  further items p (Some end) =
      and_then (items (moved p.reading end)) (λ q. Ok (record { first = p.term; others = more q.first q.others; reading = q.reading }))

  -- A term of at most a priority: its primary, and what follows it.
  abbrev pub term_by : (ℕ → Reading → Outcome Part) → (Reading → Outcome Items) → (ℕ → Part → Outcome Part) → ℕ → Reading → Outcome Part
  term_by inner items next max r = and_then (primary inner items max r (token_at text r.at)) (next max)

  -- A term of at most a priority, what may follow a left part in it, and some terms with commas between them. The number
  -- bounds how deep reading goes; one more than the bytes that are left is enough, since each step takes a token.
  unfoldable mutual
    pub term : ℕ → ℕ → Reading → Outcome Part
    term zero max r = refused UnexpectedEnd (length text)
    term (suc n) max r = term_by (term n) (items n) (operations n) max r

    pub operations : ℕ → ℕ → Part → Outcome Part
    operations zero max p = refused UnexpectedEnd (length text)
    operations (suc n) max p = going_on (term n) (operations n max) max p (token_at text p.reading.at)

    pub items : ℕ → Reading → Outcome Items
    items zero r = refused UnexpectedEnd (length text)
    items (suc n) r =
        and_then
        (term_by (term n) (items n) (operations n) 999 r)
        (λ p. further (items n) p (behind_mark Comma (token_at text p.reading.at)))

-- A clause is a term of at most priority 1200 and an end token (ISO 6.2.1).
abbrev pub ended : List ℕ → ℕ → Part → Lexed → Outcome Item
ended text start p (Ok (Token EndToken first last)) = Ok (clause p.term p.reading.names start last)
ended text start p l = unexpected text l

-- The item at a place, read no deeper than a number.
abbrev pub clause_at : ℕ → List ℕ → Lookup → Quotes → ℕ → ℕ → Outcome Item
clause_at depth text ops quotes at start =
    and_then
    (term text ops quotes depth 1200 (record { at = at; names = []; next = 0 }))
    (λ p. ended text start p (token_at text p.reading.at))

abbrev pub item_from : ℕ → List ℕ → ℕ → Lookup → Quotes → Lexed → Item
item_from depth text at ops quotes (Err f) = fault f.kind f.at
item_from depth text at ops quotes (Ok End) = end_of_text
item_from depth text at ops quotes (Ok (Token kind start end)) = item (clause_at depth text ops quotes at start)

abbrev pub item_within : ℕ → List ℕ → ℕ → Lookup → Quotes → Item
item_within depth text at ops quotes = item_from depth text at ops quotes (token_at text at)

-- The item at a place: a clause with its named variables, the place of its first token and the place after its end
-- token, or the first fault with its place, or nothing but layout. No text has an item deeper than the number of its
-- bytes.
unfoldable pub item_by : List ℕ → ℕ → Lookup → Quotes → Item
item_by text at ops quotes = item_within (suc (length text)) text at ops quotes

abbrev pub item_of : List ℕ → ℕ → OperatorTable → Quotes → Item
item_of text at ops quotes = item_by text at (operator_at ops) quotes

-- A few operators for worked texts.
abbrev pub small_prefix : Chars → Option Entry
small_prefix f =
    if bytes_eq f (codes "-") then Some (200, Fy) else
    if bytes_eq f (codes ":-") then Some (1200, Fx) else
    if bytes_eq f (codes "\\+") then Some (900, Fy) else None

abbrev pub small_infix : Chars → Option Entry
small_infix f =
    if bytes_eq f (codes ",") then Some (1000, Xfy) else
    if bytes_eq f (codes "-") then Some (500, Yfx) else
    if bytes_eq f (codes "=") then Some (700, Xfx) else None

abbrev pub small_postfix : Chars → Option Entry
small_postfix f = if bytes_eq f (codes "++") then Some (300, Yf) else None

abbrev pub small_operators : Lookup
small_operators f Prefix = small_prefix f
small_operators f Infix = small_infix f
small_operators f Postfix = small_postfix f
