-- What writeq writes is read back (ISO 7.10.5, 8.14.2.3): the premises of this law, and what it says.
use Rattle.std.specs.Prelude.{◌≡◌, ℕ, ℤ, List, [], ◌∷◌, length, Bool, true, not, ◌&&◌, ◌++◌, ◌<◌, ◌≤◌, ◌^◌, Option, Some, None, IfSome, IsSome, nat_lt, bytes_eq, if◌then◌else◌, codes, pos, negsuc}
use Rattle.std.specs.Str.{all_scalars, encode_utf8_all}
use Rattle.pl_term.specs.Tree.{Chars, Tree, Trees, var, int, atom, comp, none, more}
use Rattle.pl_term.specs.Variant.{IsVariant}
use Rattle.pl_model.specs.declared.grammar.Quotes.{Quotes}
use Rattle.pl_model.specs.declared.grammar.Quotes.TheVariants.{Codes}
use Rattle.pl_model.specs.declared.operators.Kind.{Kind}
use Rattle.pl_model.specs.declared.operators.Kind.TheVariants.{Xfy, Fy}
use Rattle.pl_model.specs.declared.operators.Place.{Place}
use Rattle.pl_model.specs.declared.operators.Place.TheVariants.{Prefix, Infix, Postfix}
use Rattle.pl_model.specs.OperatorTable.{OperatorTable, operator_at, opening_table, highest_priority, is_reserved, Refusal, refusal, changed}
use Rattle.pl_model.specs.Grammar.{clause}
use Rattle.pl_model.specs.TermGrammar.{Lookup, is_too_long, item_by, item_of, small_operators}
use Rattle.pl_model.specs.TermWriting.{quoting, text_of, writeq}

-- Terms whose texts are Unicode characters, of at most the 248 bytes that the reader takes, and whose variables' numbers
-- and integers have 64 bits.

abbrev pub is_readable_text : Chars → Bool
is_readable_text f = all_scalars f && not (is_too_long f)

abbrev pub has_64_bits : ℤ → Bool
has_64_bits (pos n) = nat_lt n (2 ^ 63)
has_64_bits (negsuc n) = nat_lt n (2 ^ 63)

abbrev mutual
  pub is_readable : Tree → Bool
  is_readable (var n) = nat_lt n (2 ^ 64)
  is_readable (int i) = has_64_bits i
  is_readable (atom a) = is_readable_text a
  is_readable (comp f t ts) = is_readable_text f && (is_readable t && all_readable ts)

  pub all_readable : Trees → Bool
  all_readable none = true
  all_readable (more t ts) = is_readable t && all_readable ts

-- What the law needs of operators: priorities from 1 to 1200, no name both infix and postfix (ISO 6.3.4.3), the comma as
-- an infix operator of priority 1000 alone, and `[]` and `{}` as no operators (ISO 8.14.3.3).
pub record IsRegular (ops : Lookup) : Type 0 where
  pub bounded : (f : Chars) (p : Place) → IfSome (ops f p) (λ e. (0 < e.0) × (e.0 ≤ highest_priority))
  pub apart : (f : Chars) → IsSome (ops f Infix) → ops f Postfix ≡ None
  pub comma : ops (codes ",") Infix ≡ Some (1000, Xfy)
  pub no_prefix : ops (codes ",") Prefix ≡ None
  pub no_postfix : ops (codes ",") Postfix ≡ None
  pub no_brackets : (p : Place) → ops (codes "[]") p ≡ None
  pub no_curly : (p : Place) → ops (codes "{}") p ≡ None

-- What each table keeps beside its soundness: the comma is not modified, and reserved names are no operators
-- (ISO 8.14.3.3).
pub record KeepsNames (t : OperatorTable) : Type 0 where
  pub comma : operator_at t (codes ",") Infix ≡ Some (1000, Xfy)
  pub no_prefix : operator_at t (codes ",") Prefix ≡ None
  pub no_postfix : operator_at t (codes ",") Postfix ≡ None
  pub reserved : (f : Chars) (p : Place) → is_reserved f ≡ true → operator_at t f p ≡ None

-- A priority, a specifier and a name, as op/3 is called with.
abbrev pub Change : Type 0
Change = ℕ × Kind × Chars

-- A change that is refused leaves the table as it is.
abbrev pub after_change : OperatorTable → Change → Option Refusal → OperatorTable
after_change t c None = changed t c.0 c.1 c.2
after_change t c (Some r) = t

-- The table at the start after some changes, the last one first.
abbrev pub table_after : List Change → OperatorTable
table_after [] = opening_table
table_after (c ∷ cs) = let t = table_after cs in after_change t c (refusal t c.0 (Some c.1) c.2)

-- A text as UTF-8, and after it a space and a full stop.
abbrev pub with_end : Chars → List ℕ
with_end cs = encode_utf8_all (cs ++ codes " .")

-- What is written of a term is read as one clause, from the first byte of the text to the last, whose term is a variant of
-- it.
pub record ReadsAs (ops : Lookup) (quotes : Quotes) (t : Tree) : Type 0 where
  pub term : Tree
  pub names : List (Chars × ℕ)
  pub is : item_by (with_end (text_of quoting ops 1200 t)) 0 ops quotes ≡ clause term names 0 (length (with_end (text_of quoting ops 1200 t)))
  pub variant : IsVariant t term

pub record ReadsBack (ops : OperatorTable) (quotes : Quotes) (t : Tree) : Type 0 where
  pub term : Tree
  pub names : List (Chars × ℕ)
  pub is : item_of (with_end (writeq ops 1200 t)) 0 ops quotes ≡ clause term names 0 (length (with_end (writeq ops 1200 t)))
  pub variant : IsVariant t term

-- Worked terms: a term without variables that is read back as it is, and an operator that no table has.

abbrev pub reads_itself : Tree → Type 0
reads_itself t =
    let text = with_end (text_of quoting small_operators 1200 t) in item_by text 0 small_operators Codes ≡ clause t [] 0 (length text)

abbrev pub bracket_operator : Lookup
bracket_operator f Prefix = if bytes_eq f (codes "[]") then Some (200, Fy) else None
bracket_operator f Infix = None
bracket_operator f Postfix = None
