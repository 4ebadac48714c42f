-- What follows where something is taken from the budgets.
use Rattle.std.specs.Prelude.{◌≡◌, ℕ, Bool, true, false, Option, Some, None}
use Rattle.pl_term.specs.Tree.{Tree}
use Rattle.pl_model.specs.History.{Proc}
use Rattle.pl_term.specs.Cells.{cells}
use Rattle.pl_model.specs.Predicates.{proc_of}
use Rattle.pl_model.specs.Balls.{error_ball}
use Rattle.pl_model.specs.Terms.{variable_count}
use Rattle.pl_model.specs.Control.{Caught, catch_proc}
use Rattle.pl_model.specs.Resolution.{Node, State, Next, goes}
use Rattle.iso_search.specs.declared.outcome.Fault.{Fault}
use Rattle.iso_search.specs.declared.outcome.Fault.TheVariants.{Inferences}
use Rattle.iso_search.specs.declared.outcome.Outcome.TheVariants.{Raise}
use Rattle.iso_search.specs.declared.search.Search.{Search}
use Rattle.iso_search.specs.Outcomes.{Setting, fault_term, state_in, result_in}
use Rattle.iso_search.specs.Reading.{reads}
use Rattle.iso_search.specs.Searching.{node_of}

-- What follows an inference of the goal `g`, or the error where there could be none.
abbrev pub after_inference : Setting → Search → Node → Tree → (State → Next) → Bool → Next
after_inference t e n g next true = next (state_in t e)
after_inference t e n g next false = goes (result_in t e n (proc_of g) (Raise Inferences))

-- What follows at the node of a list where numbers and cells were taken, or the error where they could not be.
abbrev pub after_taking : Setting → Search → ℕ → Node → Proc → (State → Node → State) → Option Fault → State
after_taking t e list n p next None = next (state_in t e) (node_of t.view e list)
after_taking t e list n p next (Some f) = result_in t e n p (Raise f)

-- The ball that comes to a catch where so much was taken for its copy, and the cells of the copy.
abbrev pub fitted : Setting → Search → Tree → Option Fault → Caught
fitted t e ball None = record { ball = ball; need = cells ball }
fitted t e ball (Some f) = record { ball = error_ball (fault_term (reads t.view e.store) f) catch_proc; need = 0 }

-- The numbers and cells are those of a copy of the term.
pub record IsCopyOf (t : Tree) (variables cells_needed : ℕ) : Type 0 where
  pub variables_are : variables ≡ variable_count t
  pub cells_are : cells_needed ≡ cells t
