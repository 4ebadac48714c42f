-- The names of the built-in predicates that are functions of their arguments, and where the meaning of each one stands.
use Rattle.std.specs.Prelude.{ℕ, Bool, true, false, Option, Some, None, codes}
use Rattle.pl_term.specs.Tree.{Chars}
use Rattle.pl_model.specs.declared.system.PredicateKind.{PredicateKind}
use Rattle.pl_model.specs.declared.system.PredicateKind.TheVariants as kind
use Rattle.builtin_rows.specs.declared.predicates.Meaning.{Meaning}
use Rattle.builtin_rows.specs.declared.predicates.Meaning.TheVariants.{Row, Asks, Steps}
use Rattle.builtin_rows.specs.declared.predicates.Pred.{Pred}
use Rattle.builtin_rows.specs.declared.predicates.Pred.TheVariants.{One, Two, Three, SubAtom}
use Rattle.builtin_rows.specs.declared.predicates.OfOne.{OfOne}
use Rattle.builtin_rows.specs.declared.predicates.OfOne.TheVariants as one
use Rattle.builtin_rows.specs.declared.predicates.OfTwo.{OfTwo}
use Rattle.builtin_rows.specs.declared.predicates.OfTwo.TheVariants as two
use Rattle.builtin_rows.specs.declared.predicates.OfThree.{OfThree}
use Rattle.builtin_rows.specs.declared.predicates.OfThree.TheVariants as three
use Rattle.builtin_rows.specs.declared.predicates.Comparison.{Comparison}
use Rattle.builtin_rows.specs.declared.predicates.Comparison.TheVariants as by

abbrev pub name_of_one : OfOne → Chars
name_of_one one.Var = codes "var"
name_of_one one.Nonvar = codes "nonvar"
name_of_one one.Atom = codes "atom"
name_of_one one.Integer = codes "integer"
name_of_one one.Float = codes "float"
name_of_one one.Number = codes "number"
name_of_one one.Atomic = codes "atomic"
name_of_one one.Compound = codes "compound"
name_of_one one.Callable = codes "callable"
name_of_one one.Ground = codes "ground"

-- Terms are compared in the standard order.
abbrev pub name_of_terms : Comparison → Chars
name_of_terms by.Equal = codes "=="
name_of_terms by.Different = codes "\\=="
name_of_terms by.Less = codes "@<"
name_of_terms by.LessOrEqual = codes "@=<"
name_of_terms by.Greater = codes "@>"
name_of_terms by.GreaterOrEqual = codes "@>="

-- The values of terms are compared.
abbrev pub name_of_values : Comparison → Chars
name_of_values by.Equal = codes "=:="
name_of_values by.Different = codes "=\\="
name_of_values by.Less = codes "<"
name_of_values by.LessOrEqual = codes "=<"
name_of_values by.Greater = codes ">"
name_of_values by.GreaterOrEqual = codes ">="

abbrev pub name_of_two : OfTwo → Chars
name_of_two two.Equal = codes "="
name_of_two two.UnifyWithOccursCheck = codes "unify_with_occurs_check"
name_of_two two.NotUnifiable = codes "\\="
name_of_two two.SubsumesTerm = codes "subsumes_term"
name_of_two (two.Terms c) = name_of_terms c
name_of_two two.Sort = codes "sort"
name_of_two two.Msort = codes "msort"
name_of_two two.Keysort = codes "keysort"
name_of_two two.Univ = codes "=.."
name_of_two two.CopyTerm = codes "copy_term"
name_of_two two.TermVariables = codes "term_variables"
name_of_two two.Is = codes "is"
name_of_two (two.Values c) = name_of_values c
name_of_two two.AtomLength = codes "atom_length"
name_of_two two.AtomChars = codes "atom_chars"
name_of_two two.AtomCodes = codes "atom_codes"
name_of_two two.CharCode = codes "char_code"
name_of_two two.NumberChars = codes "number_chars"
name_of_two two.NumberCodes = codes "number_codes"

abbrev pub name_of_three : OfThree → Chars
name_of_three three.Compare = codes "compare"
name_of_three three.Functor = codes "functor"
name_of_three three.Arg = codes "arg"
name_of_three three.AtomConcat = codes "atom_concat"

abbrev pub name_of : Pred → Chars
name_of (One p) = name_of_one p
name_of (Two p) = name_of_two p
name_of (Three p) = name_of_three p
name_of SubAtom = codes "sub_atom"

abbrev pub arity_of : Pred → ℕ
arity_of (One p) = 1
arity_of (Two p) = 2
arity_of (Three p) = 3
arity_of SubAtom = 5

-- The kind that the list of the predicates of the system has.
abbrev pub kind_of : Meaning → PredicateKind
kind_of (Row p) = kind.Arguments
kind_of Asks = kind.State
kind_of Steps = kind.Search

-- Whether there is a predicate with a meaning of this kind.
abbrev pub has_row : Option Meaning → Bool
has_row (Some (Row p)) = true
has_row _ = false

abbrev pub asks_something : Option Meaning → Bool
asks_something (Some Asks) = true
asks_something _ = false

abbrev pub is_step : Option Meaning → Bool
is_step (Some Steps) = true
is_step _ = false
