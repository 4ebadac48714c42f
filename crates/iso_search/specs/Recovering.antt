-- What is done with a ball at a catch, as states of the search.
use Rattle.std.specs.Prelude.{◌≡◌, ℕ, zero, ◌+◌, length, Some, None}
use Rattle.pl_term.specs.Cells.{cells}
use Rattle.pl_term.specs.Tree.{Tree}
use Rattle.pl_term.specs.Variables.{rename, variables}
use Rattle.pl_model.specs.Balls.{error_ball}
use Rattle.pl_model.specs.Resolution.{Node, State, throwing, running}
use Rattle.pl_model.specs.Control.{ball_unified, catch_proc, fitting}
use Rattle.pl_model.specs.Unify.{unify}
use Rattle.term_store.specs.Contents.{Contents}
use Rattle.iso_search.specs.declared.outcome.Fault.{Fault}
use Rattle.iso_search.specs.declared.recovering.BallTaking.{BallTaking}
use Rattle.iso_search.specs.declared.recovering.BallTaking.TheVariants.{Taken, Refused as Unfit}
use Rattle.iso_search.specs.declared.recovering.Recovery.{Recovery}
use Rattle.iso_search.specs.declared.recovering.Recovery.TheVariants.{Run, Refused, Throw}
use Rattle.iso_search.specs.declared.search.Search.{Search}
use Rattle.iso_search.specs.Budgeting.{fitted}
use Rattle.iso_search.specs.Errors.{IsFaultIn, IsOfBudget}
use Rattle.iso_search.specs.Outcomes.{Setting, fault_term, limits_in, state_in}
use Rattle.iso_search.specs.Reading.{View, reads}
use Rattle.iso_search.specs.Searching.{choices_of, node_of}
use Rattle.iso_search.specs.Spelling.{spelled, text_of}

-- The state with the tasks of the catch, where these are to be done from the list `next` on.
abbrev pub recovery_result : Setting → Search → ℕ → Recovery → State
recovery_result t e next (Run list) = record (state_in t e) { doing = running (node_of t.view e list) }
recovery_result t e next (Refused f) =
    record (state_in t e) { doing = throwing (error_ball (fault_term (reads t.view e.store) f) catch_proc) (node_of t.view e next).goals }
recovery_result t e next (Throw b) =
    record (state_in t e) { doing = throwing (spelled (text_of t.view.names) b) (node_of t.view e next).goals }

-- What is refused is of the store.
abbrev pub IsRecoveryIn : Contents → Recovery → Type 0
IsRecoveryIn s (Run list) = Unit {0}
IsRecoveryIn s (Refused f) = IsFaultIn s f
IsRecoveryIn s (Throw b) = Unit {0}

-- What follows when the copy of the ball with the numbers from `from` on meets the catcher.
abbrev pub ball_result : State → Node → Tree → Tree → ℕ → Tree → State
ball_result s n catcher recovery from ball = ball_unified s n ball recovery (unify (rename from ball) catcher)

-- Numbers and cells were taken for a copy of the ball, which fits.
pub record IsBallTaken (e : Search) (ball kept : Tree) (d : Search) : Type 0 where
  pub copy : kept ≡ rename zero ball
  pub same : d ≡ record e { store = record e.store { used = d.store.used }; next_variable = d.next_variable }
  pub choices : (v : View) → choices_of v d ≡ choices_of v e
  pub next : d.next_variable ≡ e.next_variable + length (variables kept)
  pub used : d.store.used ≡ e.store.used + cells kept
  pub fits : (t : Setting) (list : ℕ) → fitted t e (spelled (text_of t.view.names) ball) None
      ≡ fitting (limits_in t e) (state_in t e) (node_of t.view e list) (spelled (text_of t.view.names) ball)

-- Nothing was taken for the ball, since it does not fit.
pub record IsBallRefused (e : Search) (ball : Tree) (f : Fault) (d : Search) : Type 0 where
  pub budget : IsOfBudget f
  pub same : d ≡ e
  pub fits : (t : Setting) (list : ℕ) → fitted t e (spelled (text_of t.view.names) ball) (Some f)
      ≡ fitting (limits_in t e) (state_in t e) (node_of t.view e list) (spelled (text_of t.view.names) ball)

abbrev pub IsBallTaking : Search → Tree → Search → BallTaking → Type 0
IsBallTaking e ball d (Taken kept) = IsBallTaken e ball kept d
IsBallTaking e ball d (Unfit f) = IsBallRefused e ball f d
