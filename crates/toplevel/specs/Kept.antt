-- What is kept of a run, in the order of the report.
use Rattle.std.specs.Prelude.{◌≡◌, ◌<◌, ◌⊎◌, ℕ, List, [], ◌∷◌}
use Rattle.std.specs.List.{Contains}
use Rattle.pl_term.specs.Tree.{Chars}
use Rattle.pl_model.specs.History.{History}
use Rattle.run_model.specs.Execution.{Execution, Word}
use Rattle.run_model.specs.Lawful.{IsComplete, Program, Told}
use Rattle.run_model.specs.Report.{AreFinal, Finals}
use Rattle.run_model.specs.WholeRuns.{AreWhole as AllCarried, Carried, numbers_of}
use Rattle.pl_consult.specs.GoalWords.{refusals_of, words_of}
use Rattle.pl_sched.specs.Ledger.{IsBegun}
use Rattle.run_report.specs.declared.parts.Part.{Part}
use Rattle.run_report.specs.Parts.{IsKeptOf, IsWhole}
use Rattle.toplevel.specs.declared.front.EngineFront.{EngineFront}
use Rattle.toplevel.specs.declared.kept.Kept.{Kept}
use Rattle.toplevel.specs.declared.opened.OpenedEngine.{OpenedEngine}
use Rattle.toplevel.specs.Fronts.{told_by}
use Rattle.toplevel.specs.Mains.{words_kept}
use Rattle.toplevel.specs.Opened.{opened_numbers}
use Rattle.toplevel.specs.Others.{AreOthers, HasGiven}

-- Each engine that has begun is one of these.
abbrev pub AllBegun : History → List OpenedEngine → Type 0
AllBegun h os = (e : ℕ) → IsBegun h e → Contains (opened_numbers os) e

-- The highest number among the engines, or the last one where there are none.
abbrev pub highest : {p : Program} {h : History} → ℕ → List (Carried p h) → ℕ
highest last [] = last
highest last (c ∷ cs) = highest c.number cs

-- Each engine that has begun is one of those that are left, or of these.
abbrev pub Covers : {p : Program} {h : History} → List OpenedEngine → List (Carried p h) → Type 0
Covers {p} {h} left cs = (e : ℕ) → IsBegun h e → Contains (opened_numbers left) e ⊎ Contains (numbers_of cs) e

-- So far these engines were opened, behind the first one, and these are left.
pub record AreOpened (p : Program) (h : History) (ws : List Word) (first : Carried p h) (left : List OpenedEngine) (last : ℕ) (fs : List EngineFront) (ks : List Part) : Type 0 where
  pub others : List (Carried p h)
  pub are : AreOthers p h ws 1 others fs ks
  pub highest_is : highest 1 others ≡ last
  pub cover : Covers left (first ∷ others)

-- All engines that have begun are the first one and these.
pub record AreEngines (p : Program) (h : History) (ws : List Word) (first : Carried p h) (fs : List EngineFront) (ks : List Part) : Type 0 where
  pub others : List (Carried p h)
  pub are : AreOthers p h ws 1 others fs ks
  pub whole : AllCarried h (first ∷ others)

-- What is kept of another engine than the first, in the state in which it stands at the end.
pub record IsKeptOther (p : Program) (told : Told) (finals : Finals) (ws : List Word) (k : Part) : Type 0 where
  pub execution : Execution
  pub kept : IsKeptOf p told finals k execution
  pub given : HasGiven p ws k k.number execution
  pub above : 1 < k.number

abbrev pub EachKept : Program → Told → Finals → List Word → List Part → Type 0
EachKept p told finals ws [] = Unit {0}
EachKept p told finals ws (k ∷ ks) = IsKeptOther p told finals ws k × EachKept p told finals ws ks

-- The run is complete, with these final states, and all that the report is made of is kept of it.
pub record IsKept (file : Chars) (p : Program) (kept : Kept) : Type 0 where
  pub finals : Finals
  pub complete : IsComplete p (told_by kept.front)
  pub final : AreFinal p (told_by kept.front) finals
  pub main : Execution
  pub whole :
      IsWhole file p (told_by kept.front) finals main kept.main.text.items kept.main.script.faulty (words_of (words_kept kept.main))
      (refusals_of kept.main.script.refused.items) kept.engines.items kept.threads.items
