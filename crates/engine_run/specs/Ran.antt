-- Why a search does not go on, as a part of whatever execution.
use Rattle.std.specs.Prelude.{◌≡◌, ℕ, Some, IsSome}
use Rattle.std.specs.List.{All}
use Rattle.pl_model.specs.Resolution.{Limits}
use Rattle.pl_model.specs.declared.threads.On.{On}
use Rattle.run_model.specs.Execution.{Job, Execution, move}
use Rattle.run_model.specs.Ends.{awaited_by}
use Rattle.run_model.specs.Progress.{WaitsNow}
use Rattle.atom_api.specs.Names.{Names}
use Rattle.world_api.specs.Answers.{on_names}
use Rattle.world_api.specs.Told.{Told}
use Rattle.script_api.specs.Parts.{seen_in}
use Rattle.iso_search.specs.declared.search.Budgets.{Budgets}
use Rattle.iso_engine.specs.declared.engine.Stays.{Stays}
use Rattle.iso_engine.specs.Standing.{staying}
use Rattle.engine_run.specs.declared.unfinished.Unfinished.{Unfinished}
use Rattle.engine_run.specs.declared.unfinished.Unfinished.TheVariants.{Waits}

-- The limits have these budgets.
pub record HasBudgets (b : Budgets) (l : Limits) : Type 0 where
  pub inferences : l.inferences ≡ b.inferences
  pub cells : l.cells ≡ b.cells
  pub choices : l.choices ≡ b.choices

-- So many solutions are wanted under the limits, and what is run stays so.
pub record HasAims (wanted : ℕ) (stays : Stays) (l : Limits) : Type 0 where
  pub solutions : l.solutions ≡ wanted
  pub stays_so : l.stays ≡ staying stays

-- The next request of the execution waits, on this.
pub record WaitsOn (u : Told) (job : Job) (on : On) (y : Execution) : Type 0 where
  pub waits : WaitsNow u.engine u.goals job (seen_in u y)
  pub awaits : awaited_by u.engine (move job y) ≡ Some on

-- The alias of what is waited on is held.
abbrev pub IsNameHeld : Names → Unfinished → Type 0
IsNameHeld n (Waits on g) = All (λ a. IsSome (n a)) (on_names on)
IsNameHeld n w = Unit {0}
