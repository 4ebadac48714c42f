-- What is kept of the engines of further goals and of threads.
use Rattle.std.specs.Prelude.{◌≡◌, ◌≤◌, ◌<◌, ℕ, List, [], ◌∷◌, ◌++◌, encode_utf8_all}
use Rattle.pl_model.specs.History.{History}
use Rattle.run_model.specs.Execution.{Execution, Word}
use Rattle.run_model.specs.Lawful.{Program}
use Rattle.run_model.specs.Report.{output_of}
use Rattle.run_model.specs.WholeRuns.{Carried}
use Rattle.engine_run.specs.Runners.{put_by}
use Rattle.pl_sched.specs.Written.{lines_of}
use Rattle.run_report.specs.declared.parts.Part.{Part}
use Rattle.run_report.specs.Parts.{names_at}
use Rattle.toplevel.specs.declared.front.EngineFront.{EngineFront}
use Rattle.script_api.specs.declared.either.Either.TheVariants.{First, Second}
use Rattle.script_api.specs.WordNames.{names_told}
use Rattle.toplevel.specs.Opened.{IsFrontOf, IsLeft, stood_of}
use Rattle.toplevel.specs.Scripts.{Scripts}

-- What it has given is written as that of an engine with its number.
abbrev pub HasGiven : Program → List Word → Part → ℕ → Execution → Type 0
HasGiven p ws k e x = k.output.items ≡ encode_utf8_all (put_by (lines_of p e) (names_at e ws) [] (output_of x))

-- An engine that was carried to its end, its front, and what is kept of it.
pub record IsOther (p : Program) (h : History) (ws : List Word) (c : Carried p h) (f : EngineFront) (k : Part) : Type 0 where
  pub left : IsLeft p h c k
  pub front : IsFrontOf p h c f
  pub given : HasGiven p ws k c.number (stood_of c)

-- These are engines with rising numbers, all above the last one, each with its front and what is kept of it.
abbrev pub AreOthers : (p : Program) (h : History) → List Word → ℕ → List (Carried p h) → List EngineFront → List Part → Type 0
AreOthers p h ws last [] [] [] = Unit {0}
AreOthers p h ws last (c ∷ cs) (f ∷ fs) (k ∷ ks) = (last < c.number) × IsOther p h ws c f k × AreOthers p h ws c.number cs fs ks
AreOthers p h ws last cs fs ks = ⊥

-- The script is that of an engine with this number: a goal, which is the one of the word with its number where it is no thread.
abbrev pub IsNamedSo : Scripts → ℕ → List Word → ℕ → Type 0
IsNamedSo (First a) number ws goals = ⊥
IsNamedSo (Second b) number ws goals = number ≤ goals → names_told b.names ≡ names_at number ws

-- One more engine with a number above the last one was put.
pub record IsPut (p : Program) (h : History) (ws : List Word) (last : ℕ) (c : Carried p h) (number : ℕ) (fs new_fs : List EngineFront) (ks new_ks : List Part) : Type 0 where
  pub front : EngineFront
  pub part : Part
  pub fronts : new_fs ≡ fs ++ front ∷ []
  pub parts : new_ks ≡ ks ++ part ∷ []
  pub number_is : number ≡ c.number
  pub above : last < c.number
  pub is : IsOther p h ws c front part
