-- The engines of further goals and the threads, set apart as they began.
use Rattle.std.specs.Prelude.{◌≡◌, ℕ, List, [], ◌∷◌, ◌++◌, Option, map}
use Rattle.pl_term.specs.Tree.{Chars}
use Rattle.run_model.specs.Execution.{Word}
use Rattle.run_model.specs.Lawful.{Beginning, Program, Told}
use Rattle.run_model.specs.Report.{Finals}
use Rattle.run_model.specs.Ends.{goal_numbers}
use Rattle.run_report.specs.declared.parts.Part.{Part}
use Rattle.run_report.specs.Parts.{AreEngines, numbers_of}

-- The number and the alias of each beginning.
abbrev pub named_by : List Beginning → List (ℕ × Option Chars)
named_by bs = map (λ (b : Beginning). (b.engine, b.alias)) bs

-- This was the next one, and has this number.
pub record IsNext (number : ℕ) (old new : List Part) (k : Part) : Type 0 where
  pub was : old ≡ k ∷ new
  pub number_is : k.number ≡ number

-- The engines of the goals that began so were put.
pub record TakesGoals (p : Program) (told : Told) (finals : Finals) (ws : List Word) (bs : List Beginning) (old new : List Part) : Type 0 where
  pub more : List Part
  pub put : new ≡ old ++ more
  pub numbers : numbers_of more ≡ goal_numbers p bs
  pub each : AreEngines p told finals ws more
