-- Requests.
use Rattle.std.specs.Prelude.{◌≡◌, List, [], ◌∷◌, ◌++◌, length, Option}
use Rattle.pl_model.specs.History.{Kind, History}
use Rattle.pl_model.specs.Requests.{Request, Reply}
use Rattle.pl_model.specs.Service.{answers, entry_by, served_now}
use Rattle.pl_model.specs.Resolution.{Output, State, asks, solution_count}
use Rattle.pl_model.specs.Control.{step}
use Rattle.atom_api.specs.Names.{Names}
use Rattle.world_api.specs.Told.{Told, Follows}
use Rattle.world_api.specs.Answers.{seen_as}
use Rattle.iso_engine.specs.declared.engine.Engine.{Engine}
use Rattle.iso_engine.specs.Views.{view_of}
use Rattle.iso_engine.specs.Standing.{limits_of, state_now}

-- The engine's next step asks this of the shared state.
pub record IsAsking (m : Names) (t : Told) (e : Engine) (q : Request) : Type 0 where
  pub follows : (written : List Output) → solution_count written ≡ e.solutions_found → Reply → State
  pub asks_is : (written : List Output) (count : solution_count written ≡ e.solutions_found)
      → step (limits_of e) (state_now (view_of m t) e written) ≡ asks q (follows written count)

-- Its request was answered after all entries, and it is now in the state that the reply leads to.
pub record IsAnswered (m : Names) (t : Told) (e : Engine) (n : Names) (u : Told) (f : Engine) (more : List Output) : Type 0 where
  pub before : History
  pub request : Request
  pub reply : Reply
  pub update : Option Kind
  pub entries : Follows t.engine t.history before
  pub served : served_now t.engine t.goals before request ≡ answers reply update
  pub told : u ≡ seen_as t (before ++ entry_by t.engine update) (t.gens ++ length before ∷ [])
  pub asking : IsAsking m t e request
  pub stands :
      (written : List Output) (count : solution_count written ≡ e.solutions_found)
      → asking.follows written count reply ≡ state_now (view_of n u) f (written ++ more)
