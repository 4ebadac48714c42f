-- What is known of an engine that is done.
use Rattle.std.specs.Prelude.{◌≡◌, ℕ, List, length, map}
use Rattle.std.specs.Arc.{arc_value}
use Rattle.std.specs.List.{All, Contains}
use Rattle.pl_term.specs.Tree.{Chars}
use Rattle.pl_model.specs.History.{History}
use Rattle.pl_model.specs.SharedState.{SharedState, state_at}
use Rattle.run_model.specs.Execution.{Execution, move}
use Rattle.run_model.specs.Lawful.{Program, Told as ToldOf}
use Rattle.run_model.specs.Report.{end_in, end_place, stood}
use Rattle.run_model.specs.Ends.{awaited_by}
use Rattle.run_model.specs.WholeRuns.{Carried}
use Rattle.atom_api.specs.Names.{Names}
use Rattle.world_api.specs.Told.{Told}
use Rattle.pl_history.specs.Fronts.{FrontState, own_engine, own_generations}
use Rattle.engine_run.specs.declared.runner.Runner.{Runner}
use Rattle.pl_sched.specs.Ledger.{carried_by}
use Rattle.pl_sched.specs.Written.{WritesSo}
use Rattle.run_report.specs.declared.parts.Part.{Part}
use Rattle.run_report.specs.Parts.{HasWaited, IsAwaited}
use Rattle.toplevel.specs.declared.front.EngineFront.{EngineFront}
use Rattle.toplevel.specs.declared.opened.OpenedEngine.{OpenedEngine}
use Rattle.toplevel.specs.Scripts.{IsReady, Scripts, Stands, writing_of}

-- The state in which the engine with this number stands at the end.
abbrev pub state_of : Program → History → ℕ → SharedState
state_of p h e = state_at (length p.words) h (end_place e h 0)

-- The execution in which an engine stands that was carried to its end.
abbrev pub stood_of : {p : Program} {h : History} → Carried p h → Execution
stood_of c = stood c.done

-- What is kept of it for the report is so in the history.
pub record IsLeft (p : Program) (h : History) (c : Carried p h) (k : Part) : Type 0 where
  pub number : k.number ≡ c.number
  pub end : end_in h c.number ≡ k.end
  pub operators : arc_value k.operators ≡ (state_of p h c.number).operators
  pub waited : HasWaited k.end k.awaits
  pub awaits : IsAwaited k.end k.awaits (awaited_by c.number (move c.job (stood_of c)))

-- Its front has seen the history, and knows the generations of its requests.
pub record IsFrontOf (p : Program) (h : History) (c : Carried p h) (f : EngineFront) : Type 0 where
  pub number : f.number ≡ c.number
  pub own : own_engine f.front.lives ≡ c.number
  pub generations : own_generations f.front.lives ≡ c.gens
  pub seen : f.front.seen ≡ h

-- An engine of the program, whose file has this name, that is done as the history stands.
pub record IsOpened (p : Program) (file : Chars) (board : ℕ) (h : History) (o : OpenedEngine) : Type 0 where
  pub carried : Carried p h
  pub left : IsLeft p h carried o.part
  pub front : IsFrontOf p h carried o.front
  pub quotes : o.quotes ≡ (state_of p h carried.number).flags.double_quotes
  pub held : Names
  pub told : Told
  pub runner : Runner Scripts
  pub ready : IsReady held told runner
  pub stands : Stands held told runner carried.job (stood_of carried)
  pub writes : WritesSo p file board carried.number (writing_of runner)
  pub script : o.script ≡ runner.script
  pub text : o.text.items ≡ runner.text.items
  pub output : o.part.output.items ≡ runner.output.items

abbrev pub opened_numbers : List OpenedEngine → List ℕ
opened_numbers os = map (λ (o : OpenedEngine). o.part.number) os

-- All of these were opened, and none is left out.
pub record AreAllOpened (p : Program) (file : Chars) (board : ℕ) (h : History) (dones : List FrontState) (os : List OpenedEngine) : Type 0 where
  pub each : All (IsOpened p file board h) os
  pub whole : (e : ℕ) → Contains (carried_by dones) e → Contains (opened_numbers os) e
