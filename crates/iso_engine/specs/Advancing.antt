-- How far an engine has come.
use Rattle.std.specs.Prelude.{◌≡◌, ℕ, ◌+◌, List, ◌++◌}
use Rattle.pl_model.specs.Resolution.{Output, solution_count}
use Rattle.atom_api.specs.Names.{Names}
use Rattle.world_api.specs.Told.{Told}
use Rattle.world_api.specs.SearchSteps.{SearchSteps}
use Rattle.iso_engine.specs.declared.engine.Engine.{Engine}
use Rattle.iso_engine.specs.Views.{IsLater, view_of}
use Rattle.iso_engine.specs.Standing.{limits_of, state_now}

-- The engine has come so many steps further, and the goal has written this.
pub record Advances (k : ℕ) (m : Names) (t : Told) (e : Engine) (n : Names) (u : Told) (f : Engine) (more : List Output) : Type 0 where
  pub by_steps :
      (written : List Output)
      → solution_count written ≡ e.solutions_found
      → SearchSteps (limits_of e) (state_now (view_of m t) e written) t k (state_now (view_of n u) f (written ++ more)) u
  pub limits : limits_of f ≡ limits_of e
  pub given : f.solutions_found ≡ e.solutions_found + solution_count more
  pub later : IsLater m t n u
