-- Checks of the arguments of built-in predicates: each gives the error term for which the predicate is refused, or none.
-- The first error of a list counts.
use Rattle.std.specs.Prelude.{ℕ, pos, negsuc, List, [], ◌∷◌, Bool, Option, Some, None, Result, Ok, Err, bytes_eq, codes, if◌then◌else◌, ◌==◌, ◌&&◌}
use Rattle.pl_term.specs.Tree.{Chars, Tree, Trees, var, int, atom, comp, none, more, count}
use Rattle.pl_model.specs.History.{Proc}
use Rattle.pl_model.specs.Terms.{is_variable, is_integer, is_atom, is_atomic, is_compound, is_callable}
use Rattle.pl_model.specs.ErrorTerms.{domain_error}
use Rattle.pl_model.specs.Balls.{instantiation_error, type_error}

abbrev pub first_error : List (Option Tree) → Option Tree
first_error [] = None
first_error (None ∷ es) = first_error es
first_error (Some e ∷ es) = Some e

abbrev pub error_if : Bool → Tree → Option Tree
error_if b e = if b then Some e else None

-- A variable is refused (ISO 7.12.2 a).
abbrev pub bound_error : Tree → Option Tree
bound_error t = error_if (is_variable t) instantiation_error

-- What is no variable has to be of this type (ISO 7.12.2 b).
abbrev pub kind_error : Bool → Chars → Tree → Option Tree
kind_error b kind t = if is_variable t then None else (if b then None else Some (type_error kind t))

abbrev pub atom_error : Tree → Option Tree
atom_error t = kind_error (is_atom t) (codes "atom") t

abbrev pub integer_error : Tree → Option Tree
integer_error t = kind_error (is_integer t) (codes "integer") t

abbrev pub atomic_error : Tree → Option Tree
atomic_error t = kind_error (is_atomic t) (codes "atomic") t

abbrev pub compound_error : Tree → Option Tree
compound_error t = kind_error (is_compound t) (codes "compound") t

abbrev pub callable_error : Tree → Option Tree
callable_error t = kind_error (is_callable t) (codes "callable") t

-- A negative integer is refused (ISO 7.12.2 c).
abbrev pub negative_error : Tree → Option Tree
negative_error (int (negsuc n)) = Some (domain_error (codes "not_less_than_zero") (int (negsuc n)))
negative_error _ = None

-- What an atom, and what an integer, is read as.
abbrev pub text_of_atom : Tree → Chars
text_of_atom (atom a) = a
text_of_atom _ = []

abbrev pub natural_of : Tree → ℕ
natural_of (int (pos n)) = n
natural_of _ = 0

-- The elements of a list, or the error of the whole term where it is a partial list or no list.
abbrev pub with_element : Tree → Result (List Tree) Tree → Result (List Tree) Tree
with_element t (Ok ts) = Ok (t ∷ ts)
with_element t (Err e) = Err e

abbrev mutual
  pub elements_within : Tree → Tree → Result (List Tree) Tree
  elements_within whole (var x) = Err instantiation_error
  elements_within whole (int i) = Err (type_error (codes "list") whole)
  elements_within whole (atom a) = if bytes_eq a (codes "[]") then Ok [] else Err (type_error (codes "list") whole)
  elements_within whole (comp f t ts) =
      if bytes_eq f (codes ".") && count ts == 1 then with_element t (tail_elements whole ts) else Err (type_error (codes "list") whole)

  pub tail_elements : Tree → Trees → Result (List Tree) Tree
  tail_elements whole none = Err (type_error (codes "list") whole)
  tail_elements whole (more t ts) = elements_within whole t

abbrev pub elements : Tree → Result (List Tree) Tree
elements t = elements_within t t

-- The error of the first of these that is no atom.
abbrev pub atoms_error : List Tree → Option Tree
atoms_error [] = None
atoms_error (t ∷ ts) = first_error (bound_error t ∷ atom_error t ∷ atoms_error ts ∷ [])

-- Predicate indicators (ISO 7.1.6.6)

abbrev pub indicator_error : Tree → Tree
indicator_error t = type_error (codes "predicate_indicator") t

abbrev pub proc_or_error : Option Tree → Tree → Tree → Result Proc Tree
proc_or_error (Some e) f n = Err e
proc_or_error None f n = Ok (record { name = text_of_atom f; arity = natural_of n })

-- The predicate that a term Name/Arity indicates.
abbrev pub proc_indicated : Tree → Result Proc Tree
proc_indicated (var x) = Err instantiation_error
proc_indicated (comp s f (more n none)) =
    if bytes_eq s (codes "/")
    then proc_or_error (first_error (bound_error f ∷ bound_error n ∷ atom_error f ∷ integer_error n ∷ negative_error n ∷ [])) f n
    else Err (indicator_error (comp s f (more n none)))
proc_indicated t = Err (indicator_error t)

abbrev pub with_proc : Result Proc Tree → Result (List Proc) Tree → Result (List Proc) Tree
with_proc (Ok p) (Ok ps) = Ok (p ∷ ps)
with_proc (Ok p) (Err e) = Err e
with_proc (Err e) ps = Err e

abbrev pub all_indicated : List Tree → Result (List Proc) Tree
all_indicated [] = Ok []
all_indicated (t ∷ ts) = with_proc (proc_indicated t) (all_indicated ts)
