-- The check of a goal or a body, which is made whole before anything of it runs, with its conversion to the goal that is
-- run (ISO 7.6.2), and clause-terms as clauses (ISO 7.6.1).
use Rattle.std.specs.Prelude.{zero, ◌+◌, Bool, Option, Some, None, bytes_eq, codes, if◌then◌else◌, length, ◌||◌, Result, Ok, Err}
use Rattle.pl_term.specs.Tree.{Chars, Tree, var, int, atom, comp, none, more}
use Rattle.pl_term.specs.Variables.{variables, place, rename_by}
use Rattle.pl_model.specs.History.{Clause, head_part, body_part}
use Rattle.pl_model.specs.Balls.{instantiation_error, not_callable}

-- The control constructs of two arguments whose arguments are goals of the body itself (ISO 7.6.2, table 7): a cut in
-- them is a cut of the body.
abbrev pub is_transparent : Chars → Bool
is_transparent f = bytes_eq f (codes ",") || (bytes_eq f (codes ";") || bytes_eq f (codes "->"))

abbrev pub both_goals : Chars → Option Tree → Option Tree → Option Tree
both_goals f (Some t) (Some u) = Some (comp f t (more u none))
both_goals f _ _ = None

-- The goal that a body stands for: a variable X stands for call(X). None where an integer stands in the place of a goal.
abbrev pub converted : Tree → Option Tree
converted (var x) = Some (comp (codes "call") (var x) none)
converted (int i) = None
converted (atom a) = Some (atom a)
converted (comp f t (more u none)) =
    if is_transparent f then both_goals f (converted t) (converted u) else Some (comp f t (more u none))
converted (comp f t ts) = Some (comp f t ts)

-- The goal for a body, or the error of the whole body.
abbrev pub or_not_callable : Tree → Option Tree → Result Tree Tree
or_not_callable t (Some goal) = Ok goal
or_not_callable t None = Err (not_callable t)

abbrev pub body_of : Tree → Result Tree Tree
body_of t = or_not_callable t (converted t)

-- What follows the check that an argument is callable by its kind alone (ISO 7.8.3.3): not a variable, not an integer.
abbrev pub if_callable : Tree → Result Tree Tree → Result Tree Tree
if_callable (var x) next = Err instantiation_error
if_callable (int i) next = Err (not_callable (int i))
if_callable (atom a) next = next
if_callable (comp f t ts) next = next

-- The goal for an argument that is to be called, or the error for which the call is refused.
abbrev pub called_goal : Tree → Result Tree Tree
called_goal t = if_callable t (body_of t)

-- The clause H :- B as one term.
abbrev pub rule : Tree → Tree → Tree
rule h b = comp (codes ":-") h (more b none)

-- The clause with this head and this body, its variables numbered from 0 in the order in which they first occur.
abbrev pub numbered_clause : Tree → Tree → Clause
numbered_clause h b =
    let vs = variables (rule h b)
    in record {
      head = rename_by (λ x. zero + place x vs) h;
      body = rename_by (λ x. zero + place x vs) b;
      variables = length vs;
    }

abbrev pub with_body : Tree → Result Tree Tree → Result Clause Tree
with_body h (Ok goal) = Ok (numbered_clause h goal)
with_body h (Err e) = Err e

-- The clause that a clause-term gives, or the error for which it is refused (ISO 8.9.1.3, a to c).
abbrev pub clause_of : Tree → Tree → Result Clause Tree
clause_of (var x) b = Err instantiation_error
clause_of (int i) b = Err (not_callable (int i))
clause_of (atom a) b = with_body (atom a) (body_of b)
clause_of (comp f t ts) b = with_body (comp f t ts) (body_of b)

abbrev pub clause_of_term : Tree → Result Clause Tree
clause_of_term t = clause_of (head_part t) (body_part t)
