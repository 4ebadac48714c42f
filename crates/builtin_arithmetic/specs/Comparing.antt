-- Arithmetic comparisons (ISO 8.7), and what is/2 and they give.
use Rattle.std.specs.Prelude.{ℕ, ◌<◌, ◌^◌, ℤ, Bool, not, int_lt, int_le}
use Rattle.std.specs.Ordering.{int_eq}
use Rattle.pl_term.specs.Tree.{Chars, Tree}
use Rattle.pl_model.specs.BuiltinRows.{Row as Defined}
use Rattle.pl_model.specs.History.{proc}
use Rattle.pl_model.specs.TermBuiltins.{two}
use Rattle.atom_api.specs.Names.{Names}
use Rattle.term_store.specs.Contents.{Contents}
use Rattle.builtin_rows.specs.Given.{given}
pub use Rattle.builtin_rows.specs.Predicates.{name_of_values as name_of}
use Rattle.builtin_rows.specs.Rows.{IsRow}
use Rattle.builtin_rows.specs.declared.row.Row.{Row}
use Rattle.builtin_rows.specs.declared.predicates.Comparison.{Comparison}
use Rattle.builtin_rows.specs.declared.predicates.Comparison.TheVariants.{Equal, Different, Less, LessOrEqual, Greater, GreaterOrEqual}

abbrev pub holds_by : Comparison → ℤ → ℤ → Bool
holds_by Equal = int_eq
holds_by Different = λ x y. not (int_eq x y)
holds_by Less = int_lt
holds_by LessOrEqual = int_le
holds_by Greater = λ x y. int_lt y x
holds_by GreaterOrEqual = λ x y. int_le y x

-- The row of places gives, for the predicate with this name and these two arguments, what the definition's row gives, whatever
-- the next number of a variable is.
abbrev pub Gives : Chars → Tree → Tree → Defined → Names → Contents → Contents → Row → Type 0
Gives f t u d m s after r =
    (next : ℕ) → next < 2 ^ 64 → IsRow s next (two t u) (given (proc f 2) (two t u) next s.used s.budget d) m after r
