-- What of the first arguments of a goal and of a clause's head shows that they cannot be equal (first-argument
-- indexing, SWI-Prolog manual, section 2.17): the kind of the argument, a constant's value, and a compound term's name
-- and arity.
use Rattle.std.specs.Prelude.{suc, Bool, true, false, not, ◌&&◌, bytes_eq, codes, if◌then◌else◌, length}
use Rattle.std.specs.Option.{is_some}
use Rattle.std.specs.Ordering.{is_eq}
use Rattle.std.specs.declared.cmp.Ordering.{Ordering}
use Rattle.pl_term.specs.Tree.{Tree, var, int, atom, comp, none, more, count}
use Rattle.pl_term.specs.Variables.{rename, variables}
use Rattle.pl_model.specs.Unify.{unify}
use Rattle.pl_model.specs.declared.first_argument.FirstArgument.{FirstArgument}
use Rattle.pl_model.specs.declared.first_argument.FirstArgument.TheVariants.{Any, Int, Atom, Compound}

-- Whether two keys keep a goal and a clause apart: neither is that of any argument, and they differ.
abbrev pub are_apart : {K : Type 0} → (K → K → Ordering) → (K → Bool) → K → K → Bool
are_apart order is_any k l = not (is_any k) && (not (is_any l) && not (is_eq (order k l)))

-- The head of a clause that is kept as one term: of a rule its first argument, of a fact all of it (ISO 6.2.1).
abbrev pub head_of : Tree → Tree
head_of (comp f t (more u none)) = if bytes_eq f (codes ":-") then t else comp f t (more u none)
head_of t = t

-- The key of an argument.
abbrev pub argument_key : Tree → FirstArgument
argument_key (var x) = Any
argument_key (int i) = Int i
argument_key (atom a) = Atom a
argument_key (comp f t ts) = Compound f (suc (count ts))

-- The key of a head's first argument.
abbrev pub head_key : Tree → FirstArgument
head_key (comp f t ts) = argument_key t
head_key _ = Any

abbrev pub is_any : FirstArgument → Bool
is_any Any = true
is_any _ = false

-- Whether the terms unify where the variables of the one are others than those of the other: both are renamed, so
-- that no variable is in both.
unfoldable pub unify_apart : Tree → Tree → Bool
unify_apart t u = is_some (unify (rename 0 t) (rename (length (variables t)) u))
