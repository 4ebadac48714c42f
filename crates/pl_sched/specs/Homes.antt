-- What is known of an engine at home.
use Rattle.std.specs.Prelude.{◌≡◌, ◌⊎◌, ℕ, List, [], ◌∷◌, ◌++◌, Bool, true, false, Option, Some, None, IsSome, Contains, length}
use Rattle.std.specs.Arc.{arc_value}
use Rattle.std.specs.List.{All}
use Rattle.std.specs.declared.alloc.Global.{Global}
use Rattle.std.specs.declared.sync.Arc.{Arc}
use Rattle.pl_term.specs.Tree.{Tree}
use Rattle.atomic_table.specs.Seated.{TableId}
use Rattle.pl_model.specs.declared.ends.AtomRecord.{AtomRecord}
use Rattle.pl_model.specs.declared.ends.How.{How}
use Rattle.pl_model.specs.declared.ends.How.TheVariants.{AtomSpace}
use Rattle.pl_model.specs.declared.grammar.Quotes.{Quotes}
use Rattle.pl_model.specs.History.{History, finish}
use Rattle.pl_model.specs.OperatorTable.{OperatorTable}
use Rattle.pl_model.specs.SharedState.{state_at}
use Rattle.pl_model.specs.Resolution.{Ending}
use Rattle.pl_model.specs.declared.threads.On as ons
use Rattle.run_model.specs.AtomRecords.{IsTrue}
use Rattle.run_model.specs.Ends.{awaited_by}
use Rattle.run_model.specs.Execution.{Job, Execution, move, over}
use Rattle.run_model.specs.Lawful.{EndsSo, IsDone, IsRunning, Program}
use Rattle.run_model.specs.Progress.{Reached, WaitsNow}
use Rattle.run_model.specs.Report.{end_in, end_place, stood}
use Rattle.run_model.specs.WholeRuns.{IsJob}
use Rattle.atom_api.specs.Names.{Names}
use Rattle.world_api.specs.declared.answer.On.{On}
use Rattle.world_api.specs.Answers.{on_by, on_names}
use Rattle.world_api.specs.Texts.{text_of}
use Rattle.world_api.specs.Told.{Follows, Told, has_ended}
use Rattle.script_api.specs.Parts.{seen_in}
use Rattle.pl_history.specs.Fronts.{FrontState, own_engine, own_generations}
use Rattle.pl_hub.specs.Fronts.{IsOwn, told_of}
use Rattle.pl_hub.specs.Ending.{IsOver}
use Rattle.pl_sched.specs.declared.mark.End.{End}
use Rattle.pl_sched.specs.declared.mark.Mark.{Mark}
use Rattle.pl_sched.specs.declared.mark.Mark.TheVariants.{Ready, Waits, ForCycles, Ended}

-- the execution ends so, by itself or for want of atoms
abbrev pub EndsAs : Program → Execution → How Tree → Type 0
EndsAs p x how =
    ((ending : Ending) × (x.activity ≡ over ending) × EndsSo ending how)
    ⊎ ((found : AtomRecord) × (how ≡ AtomSpace found) × IsRunning x × IsTrue p.slots found)

-- what is said of the front of an engine with the mark
abbrev pub IsFront : TableId → ℕ → Mark → FrontState → Type 0
IsFront table e Ready f = IsOwn table e f
IsFront table e (Waits on g) f = IsOwn table e f
IsFront table e (ForCycles s) f = IsOwn table e f
IsFront table e (Ended end) f = IsOver table e f

-- whether the mark says that it has ended
abbrev pub is_ended : Mark → Bool
is_ended Ready = false
is_ended (Waits on g) = false
is_ended (ForCycles s) = false
is_ended (Ended end) = true

-- the alias of what the mark says is waited on
abbrev pub mark_names : Mark → List ℕ
mark_names Ready = []
mark_names (Waits on g) = on_names on
mark_names (ForCycles s) = []
mark_names (Ended end) = []

-- THESE ARE THE OPERATORS and the flag double_quotes of the state after so many entries
pub record IsStandingAt (goals : ℕ) (h : History) (g : ℕ) (ops : Arc OperatorTable Global) (quotes : Quotes) : Type 0 where
  pub operators : arc_value ops ≡ (state_at goals h g).operators
  pub quotes_are : quotes ≡ (state_at goals h g).flags.double_quotes

-- `stands`, `ready` and `moves` are those of the engine's type (`Resident`)
module _ {E : Type 0} (stands : Names → Told → E → Job → Execution → Type 0) (ready : Names → Told → E → Type 0) (moves : E → ℕ) (p : Program) where
  -- THE ENGINE IS UNDER WAY: it stands for an execution of its job, which its run has reached in as many moves as it made, by requests at its own generations
  pub record IsUnderWay (m : Names) (t : Told) (x : E) : Type 0 where
    pub is_ready : ready m t x
    pub job : Job
    pub low : ℕ
    pub is_job : IsJob p t.engine t.history job low
    pub execution : Execution
    pub stands_for : stands m t x job execution
    pub reached : Reached t.engine t.goals job low (seen_in t execution) (moves x)

  -- its next request waits in the state after all that it was told, on this
  pub record IsWaiting (on : On) (m : Names) (t : Told) (x : E) : Type 0 where
    pub way : IsUnderWay m t x
    pub waits : WaitsNow t.engine t.goals way.job (seen_in t way.execution)
    pub awaits : awaited_by t.engine (move way.job way.execution) ≡ Some (on_by (text_of m) on)
    pub held : All (λ a. IsSome (m a)) (on_names on)

  -- THE ENGINE HAS ENDED so: its end is the last entry that it was told of, after entries of others, whose state has these operators
  pub record HasEnded (end : End) (m : Names) (t : Told) (x : E) : Type 0 where
    pub before : Told
    pub runs : has_ended before.engine before.history ≡ false
    pub way : IsUnderWay m before x
    pub engine : t.engine ≡ before.engine
    pub goals : t.goals ≡ before.goals
    pub gens : t.gens ≡ before.gens
    pub entries : History
    pub follows : Follows before.engine before.history entries
    pub history : t.history ≡ entries ++ record { engine = before.engine; kind = finish end.how (moves x) } ∷ []
    pub ends : EndsAs p way.execution end.how
    pub standing : IsStandingAt before.goals entries (length entries) end.operators end.quotes

  -- `over` is whether the engine has answered how its execution has ended
  module _ (over : E → Bool) where
    -- what its mark says of it: one that goes on, waits, or has no place for an atom has not answered so
    abbrev pub IsMarked : Mark → Names → Told → E → Type 0
    IsMarked Ready m t x = IsUnderWay m t x × (over x ≡ false)
    IsMarked (Waits on g) m t x = IsWaiting on m t x × (g ≡ length t.history) × (over x ≡ false)
    IsMarked (ForCycles s) m t x = IsUnderWay m t x × (over x ≡ false)
    IsMarked (Ended end) m t x = HasEnded end m t x

    -- AN ENGINE AT HOME, with what its atoms hold and its front
    pub record IsAtHome (table : TableId) (goals e : ℕ) (mark : Mark) (m : Names) (f : FrontState) (x : E) : Type 0 where
      pub front : IsFront table e mark f
      pub marked : IsMarked mark m (told_of goals f) x

  -- AN ENGINE THAT HAS ENDED so, with its front
  pub record IsGone (table : TableId) (goals e : ℕ) (end : End) (f : FrontState) (x : E) : Type 0 where
    pub front : IsOver table e f
    pub held : Names
    pub ended : HasEnded end held (told_of goals f) x

  -- AN ENGINE IS DONE as the history stands that its front has seen: it has ended, or it waits and nothing wakes it, or it found no place for an atom. The engine stands for the execution in which that leaves it, the history has its end, and one that has none waits on this. The operators and the flag double_quotes are those of the state at its end
  pub record IsFinal (table : TableId) (goals e : ℕ) (end : Option (How Tree)) (on : Option ons.On) (ops : Arc OperatorTable Global) (quotes : Quotes) (f : FrontState) (x : E) : Type 0 where
    pub carried : own_engine f.lives ≡ e
    pub held : Names
    pub before : Told
    pub way : IsUnderWay held before x
    pub is_job : IsJob p e f.seen way.job way.low
    pub done : IsDone e goals p.slots way.job way.low f.seen (own_generations f.lives)
    pub stood_is : stood done ≡ way.execution
    pub end_is : end_in f.seen e ≡ end
    pub standing : IsStandingAt goals f.seen (end_place e f.seen 0) ops quotes
    pub waits : end ≡ None → IsSome on
    pub awaits : end ≡ None → awaited_by e (move way.job way.execution) ≡ on
