-- Built-in predicates on terms (ISO 8.4, 8.5, 8.7, 9.1; Cor.2 8.2.4, 8.4.2 to 8.4.4, 8.5.5).
use Rattle.std.specs.Prelude.{ℕ, zero, suc, ◌+◌, ◌*◌, pos, ℤ, List, [], ◌∷◌, map, length, Bool, true, false, not, ◌&&◌, ◌||◌, int_lt, int_le, Option, Some, None, Result, Ok, Err, bytes_eq, codes, if◌then◌else◌}
use Rattle.std.specs.Ordering.{int_eq}
use Rattle.std.specs.declared.cmp.Ordering.{Ordering}
use Rattle.std.specs.declared.cmp.Ordering.TheVariants.{Less, Equal, Greater}
use Rattle.pl_term.specs.declared.node.Node.{Node}
use Rattle.pl_term.specs.declared.node.Node.TheVariants as nodes
use Rattle.pl_term.specs.Tree.{Chars, Tree, Trees, var, int, atom, comp, none, more, count, trees}
use Rattle.pl_term.specs.Variables.{is_in, variables, rename}
use Rattle.pl_term.specs.Cells.{cells}
use Rattle.pl_term.specs.Order.{order}
use Rattle.pl_model.specs.declared.evaluables.OpFault.{OpFault}
use Rattle.pl_model.specs.declared.evaluables.OpFault.TheVariants.{ZeroDivisor, IntOverflow, Undefined, NeedsFloat}
use Rattle.pl_model.specs.declared.evaluables.EvalFault.{EvalFault}
use Rattle.pl_model.specs.declared.evaluables.EvalFault.TheVariants.{NotEvaluable, Operation}
use Rattle.pl_model.specs.Unify.{Bindings, bound, unify}
use Rattle.pl_model.specs.Evaluables.{Evaluated, evaluated}
use Rattle.pl_model.specs.ErrorTerms.{domain_error}
use Rattle.pl_model.specs.Balls.{instantiation_error, type_error, evaluation_error, indicator}
use Rattle.pl_model.specs.Terms.{is_variable, is_list_or_partial, arguments, named_term, list_term, variable_count}
use Rattle.pl_model.specs.Checks.{first_error, error_if, bound_error, atom_error, atomic_error, integer_error, compound_error, negative_error, elements, natural_of}
use Rattle.pl_model.specs.BuiltinRows.{Row, gives, error, one_answer, test}

-- An answer with terms of so many cells.
abbrev pub makes : Trees → ℕ → Row
makes ts n = gives (record { terms = ts; fresh = zero; made = n } ∷ [])

abbrev pub two : Tree → Tree → Trees
two t u = more t (more u none)

abbrev pub three : Tree → Tree → Tree → Trees
three t u v = more t (more u (more v none))

-- The row, unless there is an error of the arguments.
abbrev pub unless : Option Tree → Row → Row
unless (Some e) r = error e
unless None r = r

abbrev pub on_list : Result (List Tree) Tree → (List Tree → Row) → Row
on_list (Ok ts) r = r ts
on_list (Err e) r = error e

-- subsumes_term/2 (Cor.2 8.2.4): the first term becomes the second one by bindings of its own. The bindings that unify them
-- make of the variables of the second one different variables.
abbrev pub are_different_variables : List ℕ → List Tree → Bool
are_different_variables xs [] = true
are_different_variables xs (var x ∷ ts) = not (is_in x xs) && are_different_variables (x ∷ xs) ts
are_different_variables xs (t ∷ ts) = false

abbrev pub renames_only : Tree → Option Bindings → Bool
renames_only u None = false
renames_only u (Some bs) = are_different_variables [] (map (λ x. bound bs (var x)) (variables u))

abbrev pub subsumes : Tree → Tree → Row
subsumes t u = test (renames_only u (unify t u)) (two t u)

-- compare/3 (Cor.2 8.4.2)
abbrev pub sign : Ordering → Chars
sign Less = codes "<"
sign Equal = codes "="
sign Greater = codes ">"

abbrev pub is_sign : Tree → Bool
is_sign (atom a) = bytes_eq a (codes "<") || (bytes_eq a (codes "=") || bytes_eq a (codes ">"))
is_sign _ = false

abbrev pub sign_error : Tree → Option Tree
sign_error t = if is_variable t || is_sign t then None else Some (domain_error (codes "order") t)

abbrev pub compares : Tree → Tree → Tree → Row
compares o t u = unless (first_error (atom_error o ∷ sign_error o ∷ [])) (one_answer (three (atom (sign (order t u))) t u))

-- copy_term/2 (8.5.4), term_variables/2 (Cor.2 8.5.5)
abbrev pub copies : ℕ → Tree → Tree → Row
copies next t u = gives (record { terms = two t (rename next t); fresh = variable_count t; made = cells t } ∷ [])

abbrev pub list_error : Tree → Option Tree
list_error t = error_if (not (is_list_or_partial t)) (type_error (codes "list") t)

abbrev pub lists_variables : Tree → Tree → Row
lists_variables t l = unless (list_error l) (makes (two t (list_term (map var (variables t)))) (3 * variable_count t))

-- functor/3 (8.5.1)
abbrev pub new_variables : ℕ → ℕ → Trees
new_variables next zero = none
new_variables next (suc k) = more (var next) (new_variables (suc next) k)

abbrev pub makes_functor : ℕ → Tree → Tree → Tree → ℕ → Row
makes_functor next t f a zero = one_answer (three f f a)
makes_functor next t (atom f) a (suc k) =
    gives (record { terms = three (named_term f (new_variables next (suc k))) (atom f) a; fresh = suc k; made = 2 * suc k + 1 } ∷ [])
makes_functor next t f a (suc k) = error (type_error (codes "atom") f)

abbrev pub functor_of : ℕ → Tree → Tree → Tree → Row
functor_of next (comp f t ts) name arity = one_answer (three (comp f t ts) (atom f) (int (pos (suc (count ts)))))
functor_of next (int i) name arity = one_answer (three (int i) (int i) (int (pos 0)))
functor_of next (atom a) name arity = one_answer (three (atom a) (atom a) (int (pos 0)))
functor_of next (var x) name arity =
    unless
    (first_error
    (bound_error name ∷ bound_error arity ∷ atomic_error name ∷ integer_error arity ∷ negative_error arity ∷ []))
    (makes_functor next (var x) name arity (natural_of arity))

-- arg/3 (8.5.2)
abbrev pub member : ℕ → Trees → Option Tree
member n none = None
member zero (more t ts) = Some t
member (suc n) (more t ts) = member n ts

abbrev pub argument_at : ℕ → Trees → Option Tree
argument_at zero ts = None
argument_at (suc n) ts = member n ts

abbrev pub with_argument : Tree → Tree → Option Tree → Row
with_argument n t None = gives []
with_argument n t (Some a) = one_answer (three n t a)

abbrev pub argument_of : Tree → Tree → Tree → Row
argument_of n t a =
    unless
    (first_error (bound_error n ∷ bound_error t ∷ integer_error n ∷ compound_error t ∷ negative_error n ∷ []))
    (with_argument n t (argument_at (natural_of n) (arguments t)))

-- (=..)/2 (8.5.3)
abbrev pub list_of_trees : Trees → List Tree
list_of_trees none = []
list_of_trees (more t ts) = t ∷ list_of_trees ts

abbrev pub parts : Tree → List Tree
parts (comp f t ts) = atom f ∷ (t ∷ list_of_trees ts)
parts t = t ∷ []

abbrev pub composed : Tree → List Tree → Tree
composed (atom f) ts = named_term f (trees ts)
composed t ts = t

abbrev pub composes : Tree → List Tree → Row
composes l [] = error (domain_error (codes "non_empty_list") (atom (codes "[]")))
composes l (f ∷ []) = unless (first_error (bound_error f ∷ atomic_error f ∷ [])) (one_answer (two f l))
composes l (f ∷ (t ∷ ts)) =
    unless (first_error (bound_error f ∷ atom_error f ∷ [])) (makes (two (composed f (t ∷ ts)) l) (2 + length ts))

abbrev pub univ : Tree → Tree → Row
univ (var x) l = on_list (elements l) (composes l)
univ t l = makes (two t (list_term (parts t))) (3 * length (parts t))

-- sort/2, msort/2, keysort/2 (Cor.2 8.4.3, 8.4.4): stable, by the standard order of what is compared.
abbrev pub is_less : Ordering → Bool
is_less Less = true
is_less Equal = false
is_less Greater = false

abbrev pub is_same : Ordering → Bool
is_same Less = false
is_same Equal = true
is_same Greater = false

abbrev pub inserted : (Tree → Tree) → Tree → List Tree → List Tree
inserted by t [] = t ∷ []
inserted by t (u ∷ us) = if is_less (order (by u) (by t)) then u ∷ inserted by t us else t ∷ (u ∷ us)

abbrev pub sorted : (Tree → Tree) → List Tree → List Tree
sorted by [] = []
sorted by (t ∷ ts) = inserted by t (sorted by ts)

-- Of terms that are the same, the first.
abbrev pub without_same : Tree → List Tree → List Tree
without_same t [] = []
without_same t (u ∷ us) = if is_same (order t u) then us else u ∷ us

abbrev pub each_once : List Tree → List Tree
each_once [] = []
each_once (t ∷ ts) = t ∷ without_same t (each_once ts)

abbrev pub itself : Tree → Tree
itself t = t

abbrev pub gives_list : Tree → List Tree → Row
gives_list l ts = makes (two l (list_term ts)) (3 * length ts)

abbrev pub sorts : Tree → Row
sorts l = on_list (elements l) (λ ts. gives_list l (each_once (sorted itself ts)))

abbrev pub merges : Tree → Row
merges l = on_list (elements l) (λ ts. gives_list l (sorted itself ts))

abbrev pub is_pair : Tree → Bool
is_pair (comp f t (more u none)) = bytes_eq f (codes "-")
is_pair _ = false

abbrev pub key : Tree → Tree
key (comp f t ts) = t
key t = t

abbrev pub pairs_error : List Tree → Option Tree
pairs_error [] = None
pairs_error (t ∷ ts) =
    first_error (bound_error t ∷ error_if (not (is_pair t)) (type_error (codes "pair") t) ∷ pairs_error ts ∷ [])

abbrev pub sorts_by_key : Tree → Row
sorts_by_key l = on_list (elements l) (λ ts. unless (pairs_error ts) (gives_list l (sorted key ts)))

-- Arithmetic (ISO 8.6, 8.7)

abbrev pub evaluable : Node → Tree
evaluable (nodes.Comp f n) = indicator (record { name = f; arity = n })
evaluable (nodes.Atom a) = indicator (record { name = a; arity = 0 })
evaluable (nodes.Int i) = int i
evaluable (nodes.Var x) = var x

abbrev pub operation_error : OpFault → Tree
operation_error ZeroDivisor = evaluation_error (codes "zero_divisor")
operation_error IntOverflow = evaluation_error (codes "int_overflow")
operation_error Undefined = evaluation_error (codes "undefined")
operation_error (NeedsFloat base) = type_error (codes "float") (int base)

abbrev pub value_error : EvalFault → Tree
value_error (NotEvaluable n) = type_error (codes "evaluable") (evaluable n)
value_error (Operation f) = operation_error f
value_error _ = instantiation_error

abbrev pub with_value : Evaluated → (ℤ → Row) → Row
with_value (Ok x) r = r x
with_value (Err f) r = error (value_error f)

abbrev pub evaluates : Tree → Tree → Row
evaluates t u = with_value (evaluated u) (λ x. one_answer (two (int x) u))

abbrev pub compares_values : (ℤ → ℤ → Bool) → Tree → Tree → Row
compares_values by t u = with_value (evaluated t) (λ x. with_value (evaluated u) (λ y. test (by x y) (two t u)))

abbrev pub arithmetic : Chars → Option (ℤ → ℤ → Bool)
arithmetic f =
    if bytes_eq f (codes "=:=") then Some int_eq else
    if bytes_eq f (codes "=\\=") then Some (λ x y. not (int_eq x y)) else
    if bytes_eq f (codes "<") then Some int_lt else
    if bytes_eq f (codes "=<") then Some int_le else
    if bytes_eq f (codes ">") then Some (λ x y. int_lt y x) else
    if bytes_eq f (codes ">=") then Some (λ x y. int_le y x) else None

-- By name and number of arguments

abbrev pub arithmetic_row : Option (ℤ → ℤ → Bool) → Tree → Tree → Option Row
arithmetic_row None t u = None
arithmetic_row (Some by) t u = Some (compares_values by t u)

abbrev pub term_row_of_two : Chars → Tree → Tree → ℕ → Option Row
term_row_of_two f t u next =
    if bytes_eq f (codes "subsumes_term") then Some (subsumes t u) else
    if bytes_eq f (codes "copy_term") then Some (copies next t u) else
    if bytes_eq f (codes "term_variables") then Some (lists_variables t u) else
    if bytes_eq f (codes "=..") then Some (univ t u) else
    if bytes_eq f (codes "sort") then Some (sorts t) else
    if bytes_eq f (codes "msort") then Some (merges t) else
    if bytes_eq f (codes "keysort") then Some (sorts_by_key t) else
    if bytes_eq f (codes "is") then Some (evaluates t u) else arithmetic_row (arithmetic f) t u

abbrev pub term_row_of_three : Chars → Tree → Tree → Tree → ℕ → Option Row
term_row_of_three f t u v next =
    if bytes_eq f (codes "compare") then Some (compares t u v) else
    if bytes_eq f (codes "functor") then Some (functor_of next t u v) else
    if bytes_eq f (codes "arg") then Some (argument_of t u v) else None

abbrev pub term_row : Chars → Trees → ℕ → Option Row
term_row f (more t (more u none)) next = term_row_of_two f t u next
term_row f (more t (more u (more v none))) next = term_row_of_three f t u v next
term_row f _ next = None
