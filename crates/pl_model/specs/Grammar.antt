-- What reading a text goes by (ISO 6.2, 6.3): how far it has come, the parts that were read, and the items of a text. Reading
-- goes from a place of the text to another and ends at the first fault.
use Rattle.std.specs.Prelude.{ℕ, List, [], ◌∷◌, ◌++◌, Option, Some, None, Result, Ok, Err, suc, if◌then◌else◌, bytes_eq, codes}
use Rattle.pl_term.specs.Tree.{Chars, Tree, var}
use Rattle.pl_model.specs.declared.syntax.SyntaxKind.{SyntaxKind}
use Rattle.pl_model.specs.declared.syntax.SyntaxFault.{SyntaxFault}

-- How far reading has come in a clause.
pub record Reading : Type 0 where
  pub at : ℕ  -- the place after the last token
  pub names : List (Chars × ℕ)  -- the named variables so far and their numbers, in order of first occurrence
  pub next : ℕ  -- the number of the next new variable

-- A term that was read, with its priority (ISO 6.3), and how far reading came.
pub record Part : Type 0 where
  pub term : Tree
  pub priority : ℕ
  pub reading : Reading

abbrev pub Outcome : Type 0 → Type 0
Outcome A = Result A SyntaxFault

-- The first outcome's value goes on; its fault stays.
abbrev pub and_then : {A B : Type 0} → Outcome A → (A → Outcome B) → Outcome B
and_then (Ok x) next = next x
and_then (Err f) next = Err f

abbrev pub moved : Reading → ℕ → Reading
moved r place = record r { at = place }

abbrev pub refused : {A : Type 0} → SyntaxKind → ℕ → Outcome A
refused kind at = Err (record { kind = kind; at = at })

-- Variables (ISO 6.3.2): `_` is a new one each time, any other name stands for one variable throughout a clause.

abbrev pub number_of : List (Chars × ℕ) → Chars → Option ℕ
number_of [] name = None
number_of (n ∷ ns) name = if bytes_eq n.0 name then Some n.1 else number_of ns name

abbrev pub variable : Tree → Reading → Part
variable t r = record { term = t; priority = 0; reading = r }

abbrev pub new_variable : Reading → List (Chars × ℕ) → ℕ → Part
new_variable r names place = variable (var r.next) (record { at = place; names = names; next = suc r.next })

abbrev pub named : Reading → Chars → ℕ → Option ℕ → Part
named r name place (Some n) = variable (var n) (moved r place)
named r name place None = new_variable r (r.names ++ (name, r.next) ∷ []) place

abbrev pub variable_named : Reading → Chars → ℕ → Part
variable_named r name place =
    if bytes_eq name (codes "_") then new_variable r r.names place else
    named r name place (number_of r.names name)

-- What stands at a place of a text: a clause with its named variables, the place of its first token and the place
-- after its end token, or a fault with its place, or nothing but layout.
pub data Item : Type 0 where
  clause : Tree → List (Chars × ℕ) → ℕ → ℕ → Item
  fault : SyntaxKind → ℕ → Item
  end_of_text : Item

abbrev pub item : Outcome Item → Item
item (Ok i) = i
item (Err f) = fault f.kind f.at
