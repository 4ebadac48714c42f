-- What clauses are tried for.
use Rattle.std.specs.Prelude.{ℕ}
use Rattle.pl_term.specs.Tree.{Tree}
use Rattle.term_store.specs.ArgumentKeys.{head_in}
use Rattle.iso_search.specs.declared.choices.Purpose.{Purpose}
use Rattle.iso_search.specs.declared.choices.Purpose.TheVariants.{Resolving, Inspecting, Retracting}
use Rattle.iso_search.specs.declared.outcome.Outcome.{Outcome}
use Rattle.iso_search.specs.declared.outcome.Outcome.TheVariants.{Run, Erase}

-- The goal for which the clauses are listed, over numbers of atoms: the goal itself, or the head of a rule.
abbrev pub listed_in : Purpose → Tree → Tree
listed_in Resolving t = t
listed_in Inspecting t = head_in t
listed_in Retracting t = head_in t

-- Where retract/1 has unified with the clause that was added at the place, that one is to be erased.
abbrev pub erased_outcome : ℕ → Outcome → Outcome
erased_outcome place (Run list) = Erase place list
erased_outcome place o = o
