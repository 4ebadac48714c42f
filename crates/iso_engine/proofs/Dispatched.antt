-- What is answered of tests: predicates that make no terms and bind nothing.
use Rattle.std.proofs.Common.{◌≡◌, ℕ, ◌<◌, ◌^◌, Bool, true, false, Option, Some, None, Result, Ok, Err, IfOk, refl, ap}
use Rattle.std.specs.Prelude.{IfSome}
use Rattle.pl_term.specs.Tree.{Chars, Tree, Trees, more, none}
use Rattle.pl_model.specs.History.{proc}
use Rattle.pl_model.specs.Builtins.{row, or_else}
use Rattle.pl_model.specs.BuiltinRows as basic
use Rattle.pl_model.specs.BuiltinRows.{test_row, type_test}
use Rattle.pl_model.specs.TermBuiltins.{term_row}
use Rattle.pl_model.specs.AtomBuiltins.{atom_row}
use Rattle.atom_api.specs.Names.{Names}
use Rattle.term_store.specs.Contents.{Contents}
use Rattle.builtin_rows.specs.declared.predicates.Pred.{Pred}
use Rattle.builtin_rows.specs.declared.predicates.Pred.TheVariants.{One}
use Rattle.builtin_rows.specs.declared.predicates.OfOne.{OfOne}
use Rattle.builtin_rows.specs.Predicates.{arity_of, name_of, name_of_one}
use Rattle.builtin_rows.specs.declared.row.Row.{Row}
use Rattle.builtin_rows.specs.Rows.{IsSingle}
use Rattle.builtin_rows.specs.Steps.{IsPlainRow}
use Rattle.builtin_rows.specs.Dispatching.{Does}
use Rattle.builtin_rows.proofs.Answering.{IsDefined, single_lines}
use Rattle.builtin_term.specs.TestRows.{Answers}

pub answers_do : {E : Type 0} (s t : Contents) (p : Pred) (ts : Trees) (next : ℕ) (m : Names) (d : Option basic.Row) (result : Result Row E) → next < 2 ^ 64
    → IfSome d (IsDefined p ts next) → IfOk result (Answers s ts d m t) → IfOk result IsSingle → Does s next p ts m t result
answers_do s t p ts next m d (Err e) few told h single = record { row = tt; lines = tt }
answers_do s t p ts next m None (Ok q) few told h single = absurd h
answers_do s t p ts next m (Some r) (Ok q) few told h single =
    record {
      row = record { means = r; row_is = told.row_is; plain = told.plain; stands = h (proc (name_of p) (arity_of p)) next few };
      lines = single_lines p ts q single;
    }

-- Rows of tests.
by_basic : (f : Chars) (ts : Trees) (next : ℕ) (r : basic.Row) → basic.row f ts next ≡ Some r → row f ts next ≡ Some r
unfolding row
by_basic f ts next r e = ap (λ o. or_else o (or_else (term_row f ts next) (atom_row f ts))) e

pub plain_test : (b : Bool) (ts : Trees) → IsPlainRow (basic.test b ts)
plain_test true ts = tt
plain_test false ts = tt

tests_defined : (p : Pred) (ts : Trees) (next : ℕ) (o : Option Bool) → basic.row (name_of p) ts next ≡ test_row o ts
    → IfSome (test_row o ts) (IsDefined p ts next)
tests_defined p ts next None e = tt
tests_defined p ts next (Some b) e = record { row_is = by_basic (name_of p) ts next (basic.test b ts) e; plain = plain_test b ts }

type_row : (f : Chars) (t : Tree) (next : ℕ) → basic.row f (more t none) next ≡ test_row (type_test f t) (more t none)
unfolding basic.row
type_row f t next = refl

pub type_test_defined : (p : OfOne) (t : Tree) (next : ℕ) → IfSome (test_row (type_test (name_of_one p) t) (more t none)) (IsDefined (One p) (more t none) next)
type_test_defined p t next = tests_defined (One p) (more t none) next (type_test (name_of_one p) t) (type_row (name_of_one p) t next)
