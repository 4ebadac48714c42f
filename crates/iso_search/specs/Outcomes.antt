-- What running a goal leads to, as states of the search.
use Rattle.std.specs.Prelude.{◌≡◌, ◌≤◌, ℕ, ℤ, pos, negsuc, List, ◌∷◌, length, Option, Some, None, true, false, nat_lt, nat_le, if◌then◌else◌, codes}
use Rattle.pl_term.specs.Tree.{Chars, Tree}
use Rattle.pl_model.specs.History.{Proc}
use Rattle.pl_model.specs.Balls.{error_ball, instantiation_error, type_error, not_callable, no_inferences, no_cells, no_choices}
use Rattle.pl_model.specs.ErrorTerms.{domain_error}
use Rattle.pl_model.specs.Resolution.{Limits, Pending, commit, refute, leave, collect, Node, Doing, running, failing, throwing, erasing, ended, halted, Output, State}
use Rattle.term_store.specs.declared.words.Place.{Place}
use Rattle.term_store.specs.Contents.{Contents, Holds}
use Rattle.iso_search.specs.declared.choices.Alternative.{Alternative}
use Rattle.iso_search.specs.declared.control.Exit.{Exit}
use Rattle.iso_search.specs.declared.control.Exit.TheVariants.{Commit, Refute, Leave, Collect}
use Rattle.iso_search.specs.declared.outcome.Fault.{Fault}
use Rattle.iso_search.specs.declared.outcome.Fault.TheVariants.{Inferences, Cells, Choices, Instantiation, NotCallable, NotInteger, NotList, NotStatus}
use Rattle.iso_search.specs.declared.outcome.Outcome.{Outcome}
use Rattle.iso_search.specs.declared.outcome.Outcome.TheVariants.{Run, Fail, Raise, Throw, Erase, Halt}
use Rattle.iso_search.specs.declared.search.Search.{Search}
use Rattle.iso_search.specs.Errors.{IsFaultIn}
use Rattle.iso_search.specs.Reading.{View, reads}
use Rattle.iso_search.specs.Choices.{choice_at}
use Rattle.iso_search.specs.Searching.{node_of, choices_of, state_of}

-- By what a search is read, and what it does not hold itself.
pub record Setting : Type 0 where
  pub view : View
  pub solutions : ℕ
  pub stays : Option Chars
  pub doing : Doing
  pub output : List Output

abbrev pub limits_in : Setting → Search → Limits
limits_in t e =
    record {
      inferences = e.budgets.inferences;
      cells = e.budgets.cells;
      choices = e.budgets.choices;
      solutions = t.solutions;
      stays = t.stays;
    }

abbrev pub state_in : Setting → Search → State
state_in t e = state_of t.view e t.doing t.output

-- The error term.
abbrev pub fault_term : (Place → Tree) → Fault → Tree
fault_term r Inferences = no_inferences
fault_term r Cells = no_cells
fault_term r Choices = no_choices
fault_term r Instantiation = instantiation_error
fault_term r (NotCallable w) = not_callable (r w)
fault_term r (NotInteger w) = type_error (codes "integer") (r w)
fault_term r (NotList w) = type_error (codes "list") (r w)
fault_term r (NotStatus w) = domain_error (codes "exit_status") (r w)

-- What is done next, where the predicate `p` was run at the node `n`.
abbrev pub doing_by : Setting → Search → Node → Proc → Outcome → Doing
doing_by t e n p (Run list) = running (node_of t.view e list)
doing_by t e n p Fail = failing
doing_by t e n p (Raise f) = throwing (error_ball (fault_term (reads t.view e.store) f) p) n.goals
doing_by t e n p (Throw w) = throwing (reads t.view e.store w) n.goals
doing_by t e n p (Erase place list) = erasing place (node_of t.view e list)
doing_by t e n p (Halt k) = ended (halted k)

abbrev pub result_in : Setting → Search → Node → Proc → Outcome → State
result_in t e n p o = state_of t.view e (doing_by t e n p o) t.output

-- A choice point was made, unless there are too many.
abbrev pub IsMade : View → Option ℕ → Search → Alternative → ℕ → Search → Type 0
IsMade v None e a behind d =
    (nat_lt (length (choices_of v e)) e.budgets.choices ≡ false) × (choices_of v d ≡ choices_of v e)
IsMade v (Some height) e a behind d =
    (nat_lt (length (choices_of v e)) e.budgets.choices ≡ true)
    × (choices_of v d ≡ choice_at v (reads v e.store) (node_of v e behind) a ∷ choices_of v e)
    × (height ≡ length (choices_of v e))

-- What comes of an exit with a status at a place.
abbrev pub status_outcome : Place → ℤ → Outcome
status_outcome w (pos k) = if nat_le k 254 then Halt k else Raise (NotStatus w)
status_outcome w (negsuc k) = Raise (NotStatus w)

abbrev pub exit_at : (Place → Tree) → Exit → ℕ → Pending
exit_at r Commit h = commit h
exit_at r Refute h = refute h
exit_at r Leave h = leave h
exit_at r (Collect w) h = collect (r w) h

abbrev pub IsExitIn : Contents → Exit → Type 0
IsExitIn s Commit = Unit {0}
IsExitIn s Refute = Unit {0}
IsExitIn s Leave = Unit {0}
IsExitIn s (Collect w) = Holds s w

-- What was to be done from the lists on is still to be done as it was.
abbrev pub KeepsTasks : Search → Search → Type 0
KeepsTasks e d = (v : View) (j : ℕ) → j ≤ length e.frames.items → (node_of v d j).goals ≡ (node_of v e j).goals

-- What is raised or thrown is of the store, and the exits of the active catches are still to be done.
abbrev pub IsOutcomeIn : Search → Search → Outcome → Type 0
IsOutcomeIn e d (Run list) = Unit {0}
IsOutcomeIn e d Fail = Unit {0}
IsOutcomeIn e d (Raise f) = IsFaultIn d.store f × KeepsTasks e d
IsOutcomeIn e d (Throw w) = Holds d.store w × KeepsTasks e d
IsOutcomeIn e d (Erase place list) = Unit {0}
IsOutcomeIn e d (Halt k) = Unit {0}

-- The budgets stay, and a ball can be made.
pub record IsAfter (e d : Search) (o : Outcome) : Type 0 where
  pub budgets : d.budgets ≡ e.budgets
  pub inside : IsOutcomeIn e d o
