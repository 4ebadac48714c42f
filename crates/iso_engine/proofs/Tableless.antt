-- Predicates whose rows are no tables.
use Rattle.std.proofs.Common.{◌≡◌, ℕ, zero, suc, ◌+◌, ◌*◌, ℤ, Bool, true, false, ◌||◌, if◌then◌else◌, List, [], ◌∷◌, map, length, Option, Some, None, Result, Ok, Err, codes, bytes_eq, refl, ap}
use Rattle.std.specs.Prelude.{is_some, not}
use Rattle.pl_term.specs.Order.{order}
use Rattle.pl_term.specs.Variables.{variables}
use Rattle.pl_term.specs.Tree.{Chars, Tree, Trees, var, int, atom, comp, none, more}
use Rattle.pl_model.specs.Builtins.{or_else, row}
use Rattle.pl_model.specs.BuiltinRows as basic
use Rattle.pl_model.specs.BuiltinRows.{Answer, Row, comparison, one_answer, test, test_row, type_test}
use Rattle.pl_model.specs.AtomBuiltins.{all_errors, as_character, atom_row, character_error, character_in, code_error, codes_character, coded_row, concatenates, if_short, measures, number, number_in, number_row, one_of_character, one_of_code, spells, spells_number}
use Rattle.pl_model.specs.Balls.{representation_error, syntax_error}
use Rattle.pl_model.specs.Checks.{atom_error, bound_error, elements, first_error, integer_error, natural_of, negative_error, text_of_atom}
use Rattle.pl_model.specs.Evaluables.{Evaluated, evaluated, is_in_range}
use Rattle.pl_model.specs.TermGrammar.{is_too_long}
use Rattle.pl_model.specs.Terms.{is_variable, list_term, variable_count}
use Rattle.pl_model.specs.TermBuiltins.{arithmetic, arithmetic_row, compares_values, composed, composes, copies, each_once, evaluates, functor_of, gives_list, itself, key, list_error, lists_variables, makes, makes_functor, merges, on_list, pairs_error, renames_only, sorted, sorts, sorts_by_key, subsumes, term_row, three, two, univ, unless, with_argument, with_value}
use Rattle.pl_model.specs.Unify.{unify}
use Rattle.iso_engine.specs.Dispatching.{lines_in}

-- There are no lines of a table.
abbrev pub NoLines : Option Row → Type 0
NoLines o = lines_in o ≡ []

-- Rows that are chosen one after another.
abbrev chosen : List (Bool × Row) → Option Row → Option Row
chosen [] o = o
chosen (x ∷ xs) o = if x.0 then Some x.1 else chosen xs o

abbrev AreLineless : List (Bool × Row) → Type 0
AreLineless [] = Unit {0}
AreLineless (x ∷ xs) = NoLines (Some x.1) × AreLineless xs

of_chosen : (xs : List (Bool × Row)) (o : Option Row) → AreLineless xs → NoLines o → NoLines (chosen xs o)
of_chosen [] o h k = k
of_chosen ((true, r) ∷ xs) o h k = h.0
of_chosen ((false, r) ∷ xs) o h k = of_chosen xs o h.1 k

one_of : (o q : Option Row) → NoLines o → NoLines q → NoLines (or_else o q)
one_of None q h k = k
one_of (Some r) q h k = h

of_unless : (e : Option Tree) (r : Row) → NoLines (Some r) → NoLines (Some (unless e r))
of_unless None r h = h
of_unless (Some e) r h = refl

of_list : (els : Result (List Tree) Tree) (by : List Tree → Row) → ((ts : List Tree) → NoLines (Some (by ts))) → NoLines (Some (on_list els by))
of_list (Ok ts) by h = h ts
of_list (Err e) by h = refl

of_value : (v : Evaluated) (by : ℤ → Row) → ((x : ℤ) → NoLines (Some (by x))) → NoLines (Some (with_value v by))
of_value (Ok x) by h = h x
of_value (Err f) by h = refl

of_test : (b : Bool) (ts : Trees) → NoLines (Some (test b ts))
of_test true ts = refl
of_test false ts = refl

of_tests : (o : Option Bool) (ts : Trees) → NoLines (test_row o ts)
of_tests None ts = refl
of_tests (Some b) ts = of_test b ts

of_choice : (b : Bool) (e : Tree) (r : Row) → NoLines (Some r) → NoLines (Some (if b then basic.error e else r))
of_choice true e r h = refl
of_choice false e r h = h

of_fallback : (b : Bool) (r : Row) (e : Tree) → NoLines (Some r) → NoLines (Some (if b then r else basic.error e))
of_fallback true r e h = h
of_fallback false r e h = refl

-- Predicates on terms
of_makes : (next : ℕ) (t f a : Tree) (k : ℕ) → NoLines (Some (makes_functor next t f a k))
of_makes next t f a zero = refl
of_makes next t (var x) a (suc k) = refl
of_makes next t (int i) a (suc k) = refl
of_makes next t (atom f) a (suc k) = refl
of_makes next t (comp f u us) a (suc k) = refl

of_functor : (next : ℕ) (t f a : Tree) → NoLines (Some (functor_of next t f a))
of_functor next (var x) f a = of_unless _ (makes_functor next (var x) f a (natural_of a)) (of_makes next (var x) f a (natural_of a))
of_functor next (int i) f a = refl
of_functor next (atom b) f a = refl
of_functor next (comp g u us) f a = refl

of_argument : (n t : Tree) (o : Option Tree) → NoLines (Some (with_argument n t o))
of_argument n t None = refl
of_argument n t (Some a) = refl

of_composes : (l : Tree) (ts : List Tree) → NoLines (Some (composes l ts))
of_composes l [] = refl
of_composes l (f ∷ []) = of_unless _ (one_answer (two f l)) refl
of_composes l (f ∷ (t ∷ ts)) = of_unless _ (makes (two (composed f (t ∷ ts)) l) (2 + length ts)) refl

of_univ : (t l : Tree) → NoLines (Some (univ t l))
of_univ (var x) l = of_list (elements l) (composes l) (of_composes l)
of_univ (int i) l = refl
of_univ (atom a) l = refl
of_univ (comp f u us) l = refl

of_comparing : (by : ℤ → ℤ → Bool) (t u : Tree) → NoLines (Some (compares_values by t u))
of_comparing by t u =
    of_value (evaluated t) (λ x. with_value (evaluated u) (λ y. test (by x y) (two t u)))
    (λ x. of_value (evaluated u) (λ y. test (by x y) (two t u)) (λ y. of_test (by x y) (two t u)))

of_arithmetic : (o : Option (ℤ → ℤ → Bool)) (t u : Tree) → NoLines (arithmetic_row o t u)
of_arithmetic None t u = refl
of_arithmetic (Some by) t u = of_comparing by t u

of_sorts : (t : Tree) → NoLines (Some (sorts t))
of_sorts t = of_list (elements t) (λ ts. gives_list t (each_once (sorted itself ts))) (λ ts. refl)

of_merges : (t : Tree) → NoLines (Some (merges t))
of_merges t = of_list (elements t) (λ ts. gives_list t (sorted itself ts)) (λ ts. refl)

of_keysorts : (t : Tree) → NoLines (Some (sorts_by_key t))
of_keysorts t =
    of_list (elements t) (λ ts. unless (pairs_error ts) (gives_list t (sorted key ts)))
    (λ ts. of_unless (pairs_error ts) (gives_list t (sorted key ts)) refl)

-- What is chosen by a name has no lines where neither choice has some.
of_if : (b : Bool) (r : Row) (o : Option Row) → NoLines (Some r) → NoLines o → NoLines (if b then Some r else o)
of_if true r o h k = h
of_if false r o h k = k

of_three : (f : Chars) (t u v : Tree) (next : ℕ) → NoLines (term_row f (three t u v) next)
of_three f t u v next = search (of_if, of_unless, of_list, of_value, of_test, of_functor, of_argument) depth 12 fits 5000

of_terms : (f : Chars) (ts : Trees) (next : ℕ) → NoLines (term_row f ts next)
of_terms f none next = refl
of_terms f (more t none) next = refl
of_terms f (more t (more u none)) next =
    of_chosen
    ((bytes_eq f (codes "subsumes_term"), subsumes t u)
    ∷ ((bytes_eq f (codes "copy_term"), copies next t u)
    ∷ ((bytes_eq f (codes "term_variables"), lists_variables t u)
    ∷ ((bytes_eq f (codes "=.."), univ t u)
    ∷ ((bytes_eq f (codes "sort"), sorts t)
    ∷ ((bytes_eq f (codes "msort"), merges t)
    ∷ ((bytes_eq f (codes "keysort"), sorts_by_key t)
    ∷ ((bytes_eq f (codes "is"), evaluates t u) ∷ []))))))))
    (arithmetic_row (arithmetic f) t u) (
      of_test (renames_only u (unify t u)) (two t u),
      (
        refl,
        (
          of_unless (list_error u) (makes (two t (list_term (map var (variables t)))) (3 * variable_count t)) refl,
          (
            of_univ t u,
            (of_sorts t, (of_merges t, (of_keysorts t, (of_value (evaluated u) (λ x. one_answer (two (int x) u)) (λ x. refl), tt)))),
          ),
        ),
      ),
    )
    (of_arithmetic (arithmetic f) t u)
of_terms f (more t (more u (more v none))) next = of_three f t u v next
of_terms f (more t (more u (more v (more w ts)))) next = refl

of_basic : (f : Chars) (ts : Trees) (next : ℕ) → NoLines (basic.row f ts next)
unfolding basic.row
of_basic f none next = refl
of_basic f (more t none) next = of_tests (type_test f t) (more t none)
of_basic f (more t (more u none)) next =
    of_chosen
    ((bytes_eq f (codes "=") || bytes_eq f (codes "unify_with_occurs_check"), one_answer (two u u))
    ∷ ((bytes_eq f (codes "\\="), test (not (is_some (unify t u))) (two t u)) ∷ []))
    (test_row (comparison f (order t u)) (two t u)) (refl, (of_test (not (is_some (unify t u))) (two t u), tt)) (of_tests (comparison f (order t u)) (two t u))
of_basic f (more t (more u (more v ts))) next = refl

-- Predicates on atoms
of_spells : (check : Tree → Option Tree) (from : Tree → ℕ) (to : ℕ → Tree) (t l : Tree) → NoLines (Some (spells check from to t l))
of_spells check from to (var x) l =
    of_list (elements l) (λ ts. unless (all_errors check ts) (if_short (map from ts) (one_answer (two (atom (map from ts)) l))))
    (λ ts. of_unless (all_errors check ts) (if_short (map from ts) (one_answer (two (atom (map from ts)) l)))
    (of_choice (is_too_long (map from ts)) (representation_error (codes "max_atom_length")) (one_answer (two (atom (map from ts)) l)) refl))
of_spells check from to (int i) l = refl
of_spells check from to (atom a) l = refl
of_spells check from to (comp f u us) l = refl

of_number : (l : Tree) (o : Option ℤ) → NoLines (Some (number_row l o))
of_number l None = refl
of_number l (Some i) = of_fallback (is_in_range i) (one_answer (two (int i) l)) (syntax_error (codes "integer_too_large")) refl

of_numbers : (check : Tree → Option Tree) (from : Tree → ℕ) (to : ℕ → Tree) (t l : Tree) → NoLines (Some (spells_number check from to t l))
of_numbers check from to (var x) l =
    of_list (elements l) (λ ts. unless (all_errors check ts) (number_row l (number_in (map from ts))))
    (λ ts. of_unless (all_errors check ts) (number_row l (number_in (map from ts))) (of_number l (number_in (map from ts))))
of_numbers check from to (int i) l = refl
of_numbers check from to (atom a) l = refl
of_numbers check from to (comp f u us) l = refl

of_coded : (c n : Tree) → NoLines (Some (coded_row c n))
of_coded (var x) n = refl
of_coded (int i) n = refl
of_coded (atom a) n = refl
of_coded (comp f u us) n = refl

of_atoms : (f : Chars) (t u : Tree) → NoLines (atom_row f (more t (more u none)))
of_atoms f t u =
    of_chosen
    ((bytes_eq f (codes "atom_length"), measures t u)
    ∷ ((bytes_eq f (codes "atom_chars"), spells character_error character_in as_character t u)
    ∷ ((bytes_eq f (codes "atom_codes"), spells code_error natural_of number t u)
    ∷ ((bytes_eq f (codes "number_chars"), spells_number character_error character_in as_character t u)
    ∷ ((bytes_eq f (codes "number_codes"), spells_number code_error natural_of number t u)
    ∷ ((bytes_eq f (codes "char_code"), codes_character t u) ∷ [])))))) None (
      of_unless (first_error (bound_error t ∷ atom_error t ∷ integer_error u ∷ negative_error u ∷ [])) (one_answer (two t (number (length (text_of_atom t))))) refl,
      (
        of_spells character_error character_in as_character t u,
        (
          of_spells code_error natural_of number t u,
          (
            of_numbers character_error character_in as_character t u,
            (
              of_numbers code_error natural_of number t u,
              (of_unless (first_error ((if is_variable t then bound_error u else None) ∷ one_of_character t ∷ one_of_code u ∷ [])) (coded_row t u) (of_coded t u), tt),
            ),
          ),
        ),
      ),
    ) refl

-- By the number of arguments.
abbrev HasNone : Chars → Trees → ℕ → Type 0
HasNone f ts next = NoLines (atom_row f ts) → NoLines (row f ts next)

has_none : (f : Chars) (ts : Trees) (next : ℕ) → HasNone f ts next
unfolding row
has_none f ts next atoms = one_of (basic.row f ts next) _ (of_basic f ts next) (one_of (term_row f ts next) _ (of_terms f ts next) atoms)

pub no_lines_of_one : (f : Chars) (t : Tree) (next : ℕ) → NoLines (row f (more t none) next)
no_lines_of_one f t next = has_none f (more t none) next refl

pub no_lines_of_two : (f : Chars) (t u : Tree) (next : ℕ) → NoLines (row f (two t u) next)
no_lines_of_two f t u next = has_none f (two t u) next (of_atoms f t u)

-- Of three arguments only atom_concat/3 has a table.
pub no_lines_of_three : (f : Chars) (t u v : Tree) (next : ℕ) → bytes_eq f (codes "atom_concat") ≡ false → NoLines (row f (three t u v) next)
no_lines_of_three f t u v next other = has_none f (three t u v) next (ap (λ b. lines_in (if b then Some (concatenates t u v) else None)) other)
