-- The rows that the definitions have for the predicates.
use Rattle.std.proofs.Common.{◌+◌, ◌*◌, [], ◌∷◌, map, length, ℕ, zero, suc, ℤ, refl, Bool, List, Option, Some, None, Result, Ok, Err}
use Rattle.std.specs.Prelude.{is_some, not, true, false, if◌then◌else◌, IfSome}
use Rattle.pl_term.specs.Tree.{Chars, Tree, var, int, atom, comp}
use Rattle.pl_model.specs.Builtins.{row}
use Rattle.pl_model.specs.BuiltinRows as basic
use Rattle.pl_model.specs.BuiltinRows.{comparison, one_answer, test, test_row}
use Rattle.pl_model.specs.Evaluables.{Evaluated, evaluated, is_in_range}
use Rattle.pl_model.specs.Checks.{atom_error, atomic_error, bound_error, elements, first_error, integer_error, natural_of, negative_error, text_of_atom}
use Rattle.pl_term.specs.Order.{order}
use Rattle.pl_term.specs.Variables.{variables}
use Rattle.pl_model.specs.Terms.{arguments, list_term, variable_count}
use Rattle.pl_model.specs.TermBuiltins.{argument_at, argument_of, compares, compares_values, composed, composes, copies, evaluates, functor_of, gives_list, key, list_error, lists_variables, makes, makes_functor, merges, on_list, pairs_error, sign, sign_error, sorted, sorts, sorts_by_key, subsumes, three, two, univ, unless, with_argument, with_value}
use Rattle.pl_model.specs.AtomBuiltins.{all_errors, as_character, character_error, character_in, code_error, codes_character, coded_row, if_short, measures, number, number_in, number_row, spells, spells_number}
use Rattle.pl_model.specs.TermGrammar.{is_too_long}
use Rattle.pl_model.specs.Unify.{unify}
use Rattle.builtin_rows.specs.declared.predicates.Pred.TheVariants.{Two, Three}
use Rattle.builtin_rows.specs.declared.predicates.OfTwo.TheVariants as of_two
use Rattle.builtin_rows.specs.declared.predicates.OfThree.TheVariants as of_three
use Rattle.builtin_rows.specs.Predicates.{name_of_terms}
use Rattle.builtin_rows.specs.Steps.{IsPlainRow}
use Rattle.builtin_rows.specs.declared.predicates.Comparison.{Comparison}
use Rattle.builtin_rows.specs.declared.predicates.Comparison.TheVariants.{Equal, Different, Less, LessOrEqual, Greater, GreaterOrEqual}
use Rattle.builtin_arithmetic.specs.Comparing.{holds_by}
use Rattle.builtin_rows.proofs.Answering.{IsDefined}
use Rattle.iso_engine.proofs.Dispatched.{plain_test}

-- Several answers make no terms.
plain_unless : (e : Option Tree) (r : basic.Row) → IsPlainRow r → IsPlainRow (unless e r)
plain_unless None r h = h
plain_unless (Some e) r h = tt

plain_list : (els : Result (List Tree) Tree) (by : List Tree → basic.Row) → ((ts : List Tree) → IsPlainRow (by ts)) → IsPlainRow (on_list els by)
plain_list (Ok ts) by h = h ts
plain_list (Err e) by h = tt

plain_value : (v : Evaluated) (by : ℤ → basic.Row) → ((x : ℤ) → IsPlainRow (by x)) → IsPlainRow (with_value v by)
plain_value (Ok x) by h = h x
plain_value (Err f) by h = tt

plain_makes : (next : ℕ) (t f a : Tree) (k : ℕ) → IsPlainRow (makes_functor next t f a k)
plain_makes next t f a zero = tt
plain_makes next t (var x) a (suc k) = tt
plain_makes next t (int i) a (suc k) = tt
plain_makes next t (atom f) a (suc k) = tt
plain_makes next t (comp f u us) a (suc k) = tt

plain_functor : (next : ℕ) (t f a : Tree) → IsPlainRow (functor_of next t f a)
plain_functor next (var x) f a = plain_unless _ (makes_functor next (var x) f a (natural_of a)) (plain_makes next (var x) f a (natural_of a))
plain_functor next (int i) f a = tt
plain_functor next (atom b) f a = tt
plain_functor next (comp g u us) f a = tt

plain_argument : (n t : Tree) (o : Option Tree) → IsPlainRow (with_argument n t o)
plain_argument n t None = tt
plain_argument n t (Some a) = tt

plain_coded : (c n : Tree) → IsPlainRow (coded_row c n)
plain_coded (var x) n = tt
plain_coded (int i) n = tt
plain_coded (atom a) n = tt
plain_coded (comp f u us) n = tt

plain_if : (b : Bool) (r q : basic.Row) → IsPlainRow r → IsPlainRow q → IsPlainRow (if b then r else q)
plain_if true r q h k = h
plain_if false r q h k = k

plain_number : (l : Tree) (o : Option ℤ) → IsPlainRow (number_row l o)
plain_number l None = tt
plain_number l (Some i) = plain_if (is_in_range i) (one_answer (two (int i) l)) _ tt tt

module _ (check : Tree → Option Tree) (from : Tree → ℕ) (to : ℕ → Tree) where
  plain_short : (c : Chars) (r : basic.Row) → IsPlainRow r → IsPlainRow (if_short c r)
  plain_short c r h = plain_if (is_too_long c) _ r tt h

  plain_spells : (a l : Tree) → IsPlainRow (spells check from to a l)
  plain_spells (var x) l =
      plain_list (elements l) _
      (λ ts. plain_unless (all_errors check ts) _ (plain_short (map from ts) (one_answer (two (atom (map from ts)) l)) tt))
  plain_spells (int i) l = tt
  plain_spells (atom b) l = tt
  plain_spells (comp f u us) l = tt

  plain_spells_number : (a l : Tree) → IsPlainRow (spells_number check from to a l)
  plain_spells_number (var x) l =
      plain_list (elements l) _
      (λ ts. plain_unless (all_errors check ts) (number_row l (number_in (map from ts))) (plain_number l (number_in (map from ts))))
  plain_spells_number (int i) l = tt
  plain_spells_number (atom b) l = tt
  plain_spells_number (comp f u us) l = tt

plain_values : (by : ℤ → ℤ → Bool) (t u : Tree) → IsPlainRow (compares_values by t u)
plain_values by t u =
    plain_value (evaluated t) (λ x. with_value (evaluated u) (λ y. test (by x y) (two t u)))
    (λ x. plain_value (evaluated u) (λ y. test (by x y) (two t u)) (λ y. plain_test (by x y) (two t u)))

plain_composes : (l : Tree) (ts : List Tree) → IsPlainRow (composes l ts)
plain_composes l [] = tt
plain_composes l (f ∷ []) = plain_unless (first_error (bound_error f ∷ atomic_error f ∷ [])) (one_answer (two f l)) tt
plain_composes l (f ∷ (t ∷ ts)) =
    plain_unless (first_error (bound_error f ∷ atom_error f ∷ [])) (makes (two (composed f (t ∷ ts)) l) (2 + length ts)) tt

plain_univ : (t l : Tree) → IsPlainRow (univ t l)
plain_univ (var x) l = plain_list (elements l) (composes l) (plain_composes l)
plain_univ (int i) l = tt
plain_univ (atom a) l = tt
plain_univ (comp f u us) l = tt

module _ (t u : Tree) (next : ℕ) where
  pub equal_defined : IsDefined (Two of_two.Equal) (two t u) next (one_answer (two u u))
  unfolding row basic.row
  equal_defined = record { row_is = refl; plain = tt }

  pub occurs_defined : IsDefined (Two of_two.UnifyWithOccursCheck) (two t u) next (one_answer (two u u))
  unfolding row basic.row
  occurs_defined = record { row_is = refl; plain = tt }

  pub not_unifiable_defined : IsDefined (Two of_two.NotUnifiable) (two t u) next (test (not (is_some (unify t u))) (two t u))
  unfolding row basic.row
  not_unifiable_defined = record { row_is = refl; plain = plain_test (not (is_some (unify t u))) (two t u) }

  pub subsumes_defined : IsDefined (Two of_two.SubsumesTerm) (two t u) next (subsumes t u)
  unfolding row basic.row
  subsumes_defined = record { row_is = refl; plain = plain_test _ (two t u) }

  pub copies_defined : IsDefined (Two of_two.CopyTerm) (two t u) next (copies next t u)
  unfolding row basic.row
  copies_defined = record { row_is = refl; plain = tt }

  pub variables_defined : IsDefined (Two of_two.TermVariables) (two t u) next (lists_variables t u)
  unfolding row basic.row
  variables_defined =
      record {
        row_is = refl;
        plain = plain_unless (list_error u) (makes (two t (list_term (map var (variables t)))) (3 * variable_count t)) tt;
      }

  pub sorts_defined : IsDefined (Two of_two.Sort) (two t u) next (sorts t)
  unfolding row basic.row
  sorts_defined = record { row_is = refl; plain = plain_list (elements t) _ (λ ts. tt) }

  pub merges_defined : IsDefined (Two of_two.Msort) (two t u) next (merges t)
  unfolding row basic.row
  merges_defined = record { row_is = refl; plain = plain_list (elements t) _ (λ ts. tt) }

  pub keysorts_defined : IsDefined (Two of_two.Keysort) (two t u) next (sorts_by_key t)
  unfolding row basic.row
  keysorts_defined =
      record {
        row_is = refl;
        plain = plain_list (elements t) _ (λ ts. plain_unless (pairs_error ts) (gives_list t (sorted key ts)) tt);
      }

  pub univ_defined : IsDefined (Two of_two.Univ) (two t u) next (univ t u)
  unfolding row basic.row
  univ_defined = record { row_is = refl; plain = plain_univ t u }

  pub evaluates_defined : IsDefined (Two of_two.Is) (two t u) next (evaluates t u)
  unfolding row basic.row
  evaluates_defined = record { row_is = refl; plain = plain_value (evaluated u) _ (λ x. tt) }

  pub measures_defined : IsDefined (Two of_two.AtomLength) (two t u) next (measures t u)
  unfolding row basic.row
  measures_defined =
      record {
        row_is = refl;
        plain =
            plain_unless (first_error (bound_error t ∷ atom_error t ∷ integer_error u ∷ negative_error u ∷ []))
            (one_answer (two t (number (length (text_of_atom t))))) tt;
      }

  pub atom_chars_defined : IsDefined (Two of_two.AtomChars) (two t u) next (spells character_error character_in as_character t u)
  unfolding row basic.row
  atom_chars_defined = record { row_is = refl; plain = plain_spells character_error character_in as_character t u }

  pub atom_codes_defined : IsDefined (Two of_two.AtomCodes) (two t u) next (spells code_error natural_of number t u)
  unfolding row basic.row
  atom_codes_defined = record { row_is = refl; plain = plain_spells code_error natural_of number t u }

  pub codes_defined : IsDefined (Two of_two.CharCode) (two t u) next (codes_character t u)
  unfolding row basic.row
  codes_defined = record { row_is = refl; plain = plain_unless _ (coded_row t u) (plain_coded t u) }

  pub number_chars_defined : IsDefined (Two of_two.NumberChars) (two t u) next (spells_number character_error character_in as_character t u)
  unfolding row basic.row
  number_chars_defined = record { row_is = refl; plain = plain_spells_number character_error character_in as_character t u }

  pub number_codes_defined : IsDefined (Two of_two.NumberCodes) (two t u) next (spells_number code_error natural_of number t u)
  unfolding row basic.row
  number_codes_defined = record { row_is = refl; plain = plain_spells_number code_error natural_of number t u }

  pub values_defined : (k : Comparison) → IsDefined (Two (of_two.Values k)) (two t u) next (compares_values (holds_by k) t u)
  unfolding row basic.row
  values_defined Equal = record { row_is = refl; plain = plain_values (holds_by Equal) t u }
  values_defined Different = record { row_is = refl; plain = plain_values (holds_by Different) t u }
  values_defined Less = record { row_is = refl; plain = plain_values (holds_by Less) t u }
  values_defined LessOrEqual = record { row_is = refl; plain = plain_values (holds_by LessOrEqual) t u }
  values_defined Greater = record { row_is = refl; plain = plain_values (holds_by Greater) t u }
  values_defined GreaterOrEqual = record { row_is = refl; plain = plain_values (holds_by GreaterOrEqual) t u }

  pub terms_defined : (k : Comparison) → IfSome (test_row (comparison (name_of_terms k) (order t u)) (two t u)) (IsDefined (Two (of_two.Terms k)) (two t u) next)
  unfolding row basic.row
  terms_defined Equal = record { row_is = refl; plain = plain_test _ (two t u) }
  terms_defined Different = record { row_is = refl; plain = plain_test _ (two t u) }
  terms_defined Less = record { row_is = refl; plain = plain_test _ (two t u) }
  terms_defined LessOrEqual = record { row_is = refl; plain = plain_test _ (two t u) }
  terms_defined Greater = record { row_is = refl; plain = plain_test _ (two t u) }
  terms_defined GreaterOrEqual = record { row_is = refl; plain = plain_test _ (two t u) }

module _ (t u v : Tree) (next : ℕ) where
  pub compares_defined : IsDefined (Three of_three.Compare) (three t u v) next (compares t u v)
  unfolding row basic.row
  compares_defined =
      record {
        row_is = refl;
        plain = plain_unless (first_error (atom_error t ∷ sign_error t ∷ [])) (one_answer (three (atom (sign (order u v))) u v)) tt;
      }

  pub functor_defined : IsDefined (Three of_three.Functor) (three t u v) next (functor_of next t u v)
  unfolding row basic.row
  functor_defined = record { row_is = refl; plain = plain_functor next t u v }

  pub argument_defined : IsDefined (Three of_three.Arg) (three t u v) next (argument_of t u v)
  unfolding row basic.row
  argument_defined = record { row_is = refl; plain = plain_unless _ (with_argument t u (argument_at (natural_of t) (arguments u))) (plain_argument t u (argument_at (natural_of t) (arguments u))) }
