-- The steps of a search: from one state to another, whatever execution of an engine it is part of.
use Rattle.std.specs.Prelude.{◌≡◌, ℕ, suc, List, [], ◌∷◌, ◌++◌, length, Option}
use Rattle.pl_model.specs.History.{Kind, History}
use Rattle.pl_model.specs.Requests.{Request, Reply}
use Rattle.pl_model.specs.Service.{answers, entry_by, served_now}
use Rattle.pl_model.specs.Resolution.{Limits, State, goes, asks}
use Rattle.pl_model.specs.Control.{step}
use Rattle.world_api.specs.Told.{Told, Follows}
use Rattle.world_api.specs.Answers.{seen_as}

-- The search comes from the one state to the other in so many steps: it is where it is, or it has made a step of its own, or
-- others made entries, or its request was answered after all entries.
pub data SearchSteps (l : Limits) (s : State) (t : Told) : ℕ → State → Told → Type 0 where
  stays : SearchSteps l s t 0 s t
  goes_to : (n : ℕ) (r v : State) (u : Told) → SearchSteps l s t n r u → step l r ≡ goes v → SearchSteps l s t (suc n) v u
  sees : (n : ℕ) (r : State) (u : Told) (before : History)
      → SearchSteps l s t n r u
      → Follows u.engine u.history before
      → SearchSteps l s t n r (seen_as u before u.gens)
  asked : (n : ℕ) (r : State) (u : Told) (before : History) (q : Request) (next : Reply → State) (reply : Reply) (update : Option Kind)
      → SearchSteps l s t n r u
      → Follows u.engine u.history before
      → step l r ≡ asks q next
      → served_now u.engine u.goals before q ≡ answers reply update
      → SearchSteps l s t (suc n) (next reply) (seen_as u (before ++ entry_by u.engine update) (u.gens ++ length before ∷ []))
