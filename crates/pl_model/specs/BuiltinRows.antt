-- Built-in predicates that need nothing of the shared state: each is a function from its arguments, and the next number of
-- a variable, to a list of answers or to one error term.
use Rattle.std.specs.Prelude.{ℕ, zero, ◌||◌, not, List, [], ◌∷◌, Bool, true, false, if◌then◌else◌, Option, Some, None, is_some, bytes_eq, codes}
use Rattle.std.specs.declared.cmp.Ordering.{Ordering}
use Rattle.std.specs.declared.cmp.Ordering.TheVariants.{Less, Equal, Greater}
use Rattle.pl_term.specs.Tree.{Chars, Tree, Trees, none, more}
use Rattle.pl_term.specs.Order.{order}
use Rattle.pl_model.specs.Unify.{unify, solve_all}
use Rattle.pl_model.specs.Terms.{is_variable, is_integer, is_atom, is_atomic, is_compound, is_callable, is_ground}

-- An answer: a term for each argument, with which it is unified. Of the variables in these terms, `fresh` are new ones, with
-- the next numbers, and the terms that were made for it have `made` cells.
pub record Answer : Type 0 where
  pub terms : Trees
  pub fresh : ℕ
  pub made : ℕ

pub data Row : Type 0 where
  -- the answers, in their order
  gives : List Answer → Row
  -- the lines of a table: those that unify with the arguments are the answers
  table : List Answer → Row
  error : Tree → Row

-- An answer that makes no terms.
abbrev pub plain_answer : Trees → Answer
plain_answer ts = record { terms = ts; fresh = zero; made = zero }

abbrev pub one_answer : Trees → Row
one_answer ts = gives (plain_answer ts ∷ [])

-- Of the lines of a table, those that unify with the arguments are the answers.
abbrev pub unifying : Trees → List Answer → List Answer
unifying ts [] = []
unifying ts (a ∷ xs) = if is_some (solve_all [] ts a.terms) then a ∷ unifying ts xs else unifying ts xs

-- A predicate that is true or false of its arguments and binds nothing.
abbrev pub test : Bool → Trees → Row
test b ts = if b then one_answer ts else gives []

-- Type testing (ISO 8.3, Cor.2 8.3.9, 8.3.10). There are no floats.
abbrev pub type_test : Chars → Tree → Option Bool
type_test f t =
    if bytes_eq f (codes "var") then Some (is_variable t) else
    if bytes_eq f (codes "nonvar") then Some (not (is_variable t)) else
    if bytes_eq f (codes "atom") then Some (is_atom t) else
    if bytes_eq f (codes "integer") then Some (is_integer t) else
    if bytes_eq f (codes "float") then Some false else
    if bytes_eq f (codes "number") then Some (is_integer t) else
    if bytes_eq f (codes "atomic") then Some (is_atomic t) else
    if bytes_eq f (codes "compound") then Some (is_compound t) else
    if bytes_eq f (codes "callable") then Some (is_callable t) else
    if bytes_eq f (codes "ground") then Some (is_ground t) else None

-- Term comparison by the standard order (ISO 8.4).
abbrev pub is_less : Ordering → Bool
is_less Less = true
is_less Equal = false
is_less Greater = false

abbrev pub is_equal : Ordering → Bool
is_equal Less = false
is_equal Equal = true
is_equal Greater = false

abbrev pub comparison : Chars → Ordering → Option Bool
comparison f o =
    if bytes_eq f (codes "==") then Some (is_equal o) else
    if bytes_eq f (codes "\\==") then Some (not (is_equal o)) else
    if bytes_eq f (codes "@<") then Some (is_less o) else
    if bytes_eq f (codes "@=<") then Some (is_less o || is_equal o) else
    if bytes_eq f (codes "@>") then Some (not (is_less o || is_equal o)) else
    if bytes_eq f (codes "@>=") then Some (not (is_less o)) else None

abbrev pub test_row : Option Bool → Trees → Option Row
test_row None ts = None
test_row (Some b) ts = Some (test b ts)

-- Term unification (ISO 8.2), whose answer to =/2 is that both arguments are the second one.
abbrev pub row_of_two : Chars → Tree → Tree → Option Row
row_of_two f t u =
    if bytes_eq f (codes "=") || bytes_eq f (codes "unify_with_occurs_check")
    then Some (one_answer (more u (more u none)))
    else if bytes_eq f (codes "\\=")
    then Some (test (not (is_some (unify t u))) (more t (more u none)))
    else test_row (comparison f (order t u)) (more t (more u none))

-- The row of the predicate with this name and these arguments, or none where there is no such predicate.
unfoldable pub row : Chars → Trees → ℕ → Option Row
row f none next = None
row f (more t none) next = test_row (type_test f t) (more t none)
row f (more t (more u none)) next = row_of_two f t u
row f _ next = None
