-- Clauses that are kept as one term.
use Rattle.std.specs.Prelude.{◌≡◌, zero, Result, Ok, Err}
use Rattle.pl_term.specs.Tree.{Tree}
use Rattle.pl_term.specs.Variables.{rename}
use Rattle.pl_model.specs.History.{Clause, head_part, body_part}
use Rattle.pl_model.specs.Terms.{variable_count}
use Rattle.pl_consult.specs.declared.bodies.Checked.{Checked as CheckedTerm}
use Rattle.pl_consult.specs.declared.bodies.Checked.TheVariants.{Clause as KeptClause, Refused}

-- The clause for which a rule, or a head alone, stands.
abbrev pub kept_clause : Tree → Clause
kept_clause t = record { head = head_part t; body = body_part t; variables = variable_count t }

abbrev pub checked_of : CheckedTerm → Result Clause Tree
checked_of (KeptClause t) = Ok (kept_clause t)
checked_of (Refused e) = Err e

-- The variables of a clause are numbered from 0 in the order in which they first occur.
abbrev pub IsNumbered : CheckedTerm → Type 0
IsNumbered (KeptClause t) = rename zero t ≡ t
IsNumbered (Refused e) = Unit {0}
