-- How an execution comes to a later one.
use Rattle.std.specs.Prelude.{◌≡◌, ℕ, ◌+◌}
use Rattle.run_model.specs.Execution.{Job, Execution}
use Rattle.run_model.specs.Progress.{Reached}
use Rattle.world_api.specs.Told.{Told}
use Rattle.script_api.specs.Parts.{seen_in}

-- Whatever run has come to the one state has come to the other so many moves later.
pub record ComesIn (job : Job) (n : ℕ) (x : Execution) (t : Told) (y : Execution) (u : Told) : Type 0 where
  pub engine : u.engine ≡ t.engine
  pub goals : u.goals ≡ t.goals
  pub comes : (low m : ℕ) → Reached t.engine t.goals job low (seen_in t x) m → Reached t.engine t.goals job low (seen_in u y) (n + m)

-- The same, where the moves were counted.
pub record ComesBy (job : Job) (x : Execution) (t : Told) (before : ℕ) (y : Execution) (u : Told) (after : ℕ) : Type 0 where
  pub moves : ℕ
  pub comes : ComesIn job moves x t y u
  pub counted : moves + before ≡ after
