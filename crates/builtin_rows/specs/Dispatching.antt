-- What is answered for a built-in predicate that is a function of its arguments, and for these.
use Rattle.std.specs.Prelude.{◌≡◌, ℕ, List, [], ◌++◌, IfOk, Option, Some, Result}
use Rattle.std.specs.List.{Contains}
use Rattle.pl_term.specs.Tree.{Chars, Trees}
use Rattle.pl_model.specs.History.{proc}
use Rattle.pl_model.specs.Builtins.{row}
use Rattle.pl_model.specs.BuiltinRows as rows
use Rattle.pl_model.specs.BuiltinRows.{Answer}
use Rattle.atom_words.specs.declared.view.Refusal.{Refusal}
use Rattle.atom_api.specs.Names.{Names}
use Rattle.term_store.specs.Contents.{Contents}
use Rattle.world_api.specs.Gains.{Gains}
use Rattle.world_api.specs.Texts.{Holds}
use Rattle.builtin_rows.specs.declared.predicates.Pred.{Pred}
use Rattle.builtin_rows.specs.Predicates.{name_of, arity_of}
use Rattle.builtin_rows.specs.declared.row.Row.{Row}
use Rattle.builtin_rows.specs.declared.row.Row.TheVariants.{Line}
use Rattle.builtin_rows.specs.Given.{Given, given, given_texts}
use Rattle.builtin_rows.specs.Rows.{IsRow, row_refusals}
use Rattle.builtin_rows.specs.Steps.{IsPlainRow}

-- What the predicate gives by this row of the definition.
abbrev pub given_by : Contents → ℕ → Pred → Trees → rows.Row → Given
given_by s next p ts r = given (proc (name_of p) (arity_of p)) ts next s.used s.budget r

-- The definition has a row for the predicate and these arguments, and the row of places stands for what it gives. The store
-- was `s` and is `t`, and `n` are the atoms that are held then.
pub record IsRowOf (s : Contents) (next : ℕ) (p : Pred) (ts : Trees) (n : Names) (t : Contents) (r : Row) : Type 0 where
  pub means : rows.Row
  pub row_is : row (name_of p) ts next ≡ Some means
  pub plain : IsPlainRow means
  pub stands : IsRow s next ts (given_by s next p ts means) n t r

-- A line is one of a table that the definition has for the predicate and these arguments, whatever the next number of a
-- variable is.
abbrev pub HasLines : Pred → Trees → Row → Type 0
HasLines p ts (Line ps following) = (xs : List Answer) × ((next : ℕ) → row (name_of p) ts next ≡ Some (rows.table xs))
HasLines p ts r = Unit {0}

-- The text stands in what the predicate gives.
abbrev pub IsGivenText : Contents → ℕ → Pred → Trees → Chars → Type 0
IsGivenText s next p ts c = (r : rows.Row) × (row (name_of p) ts next ≡ Some r) × Contains (given_texts (given_by s next p ts r)) c

-- What is answered for the predicate and these arguments.
pub record Does {E : Type 0} (s : Contents) (next : ℕ) (p : Pred) (ts : Trees) (n : Names) (t : Contents) (result : Result Row E) : Type 0 where
  pub row : IfOk result (IsRowOf s next p ts n t)
  pub lines : IfOk result (HasLines p ts)

-- The same, where the atoms that are held, what was refused of atoms and what was asked of them were the former ones and are
-- the latter.
pub record Dispatches {E : Type 0} (s : Contents) (next : ℕ) (p : Pred) (ts : Trees) (m n : Names) (refused refused' : List Refusal) (asked asked' : Option (List Chars))
    (t : Contents) (result : Result Row E) : Type 0 where
  pub does : Does s next p ts n t result
  pub holds : Holds m n
  pub refusals : IfOk result (λ r. refused' ≡ refused ++ row_refusals r)
  pub gains : Gains (IsGivenText s next p ts) asked asked'
