-- Engines that run a script.
use Rattle.std.specs.Prelude.{◌≡◌, ℕ, List, Bool, Option, Err, IfErr}
use Rattle.pl_term.specs.Tree.{Chars}
use Rattle.atomic_table.specs.Seated.{TableId}
use Rattle.run_model.specs.Execution.{Script, Job, Consulted, Execution}
use Rattle.run_model.specs.Lawful.{Program}
use Rattle.atom_api.specs.Names.{Names}
use Rattle.world_api.specs.Told.{Told}
use Rattle.script_api.specs.Parts.{Part}
use Rattle.pl_history.specs.Fronts.{FrontState}
use Rattle.pl_hub.specs.Fronts.{IsOwn, told_of}
use Rattle.engine_run.specs.declared.runner.Runner.{Runner}
use Rattle.engine_run.specs.declared.unfinished.Unfinished.{Unfinished}
use Rattle.engine_run.specs.Ran.{IsNameHeld}
use Rattle.engine_run.specs.Runners.{AnswerStands, IsBetween, StandsFor, Turned, ends_by, is_over}
use Rattle.pl_sched.specs.Homes.{IsUnderWay}

-- a turn answers that the engine does not go on
abbrev pub stopping : Unfinished → Turned
stopping w = Err w

module _ {S : Type 0} (execution : (ℕ → Chars) → S → Job → List Consulted → Execution) (part : S → Option Part) (plays : (ℕ → Chars) → S → Script → Type 0) (kept : S → Bool)
    (name : S → Chars) (variables : S → List (Chars × ℕ)) (over : S → Bool) (names : S → List ℕ) where
  -- THE RUNNER IS UNDER WAY, as what stands for an engine
  abbrev pub RunsOn : Program → Names → Told → Runner S → Type 0
  RunsOn p m t r =
      IsUnderWay (λ (n : Names) (u : Told) (q : Runner S) (job : Job) (x : Execution). StandsFor execution part plays kept name variables n u q job x)
      (λ (n : Names) (u : Told) (q : Runner S). IsBetween part over names n u q) (λ (q : Runner S). q.moves) p m t r

  -- AFTER A TURN the front has the engine, which is under way, and what the turn answers is told of where it stands
  pub record HasGone (p : Program) (table : TableId) (goals e : ℕ) (m : Names) (f : FrontState) (r : Runner S) (answer : Turned) : Type 0 where
    pub own : IsOwn table e f
    pub way : RunsOn p m (told_of goals f) r
    pub answer_stands : AnswerStands m (told_of goals f) way.job answer way.execution
    pub over_is : is_over r.stage ≡ ends_by answer
    pub named : IfErr answer (IsNameHeld m)
