-- Engines between two turns: for which executions of a job they stand, and what a turn does.
use Rattle.std.specs.Prelude.{◌≡◌, ℕ, List, [], Bool, true, false, Option, Some, None, IsSome, Result, Ok, Err, length, encode_utf8_all, if◌then◌else◌}
use Rattle.std.specs.List.{All}
use Rattle.pl_term.specs.Tree.{Chars, Tree}
use Rattle.pl_model.specs.Resolution.{Ending, Output, State, ended, solution_count}
use Rattle.pl_model.specs.Control.{start}
use Rattle.run_model.specs.Execution.{Script, Job, Consulted, Execution, over}
use Rattle.run_model.specs.Lawful.{EndsSo}
use Rattle.run_model.specs.Report.{texts, with_output}
use Rattle.atom_api.specs.Names.{Names}
use Rattle.term_store.specs.NumberedNames.{atoms_in, by_number, term_by}
use Rattle.pl_model.specs.declared.ends.How.{How}
use Rattle.world_api.specs.Answers.{on_by}
use Rattle.world_api.specs.Texts.{text_of}
use Rattle.world_api.specs.Told.{Told}
use Rattle.script_api.specs.Parts.{Part, of_goal, of_directive, limits_of, with_search}
use Rattle.script_api.specs.Comes.{ComesBy}
use Rattle.script_api.specs.Scripts.{StandsBefore, is_directive}
use Rattle.iso_search.specs.Reading.{IsView, View}
use Rattle.iso_search.specs.Spelling as spelling
use Rattle.iso_engine.specs.declared.engine.Engine.{Engine}
use Rattle.iso_engine.specs.Ready.{IsReady}
use Rattle.iso_engine.specs.Standing.{state_now}
use Rattle.iso_engine.specs.Standing as engines
use Rattle.iso_engine.specs.Starting.{IsFresh}
use Rattle.iso_engine.specs.Views.{view_of}
use Rattle.engine_run.specs.declared.runner.Lines.{Lines}
use Rattle.engine_run.specs.declared.runner.Lines.TheVariants.{Texts, Solutions}
use Rattle.engine_run.specs.declared.runner.Runner.{Runner}
use Rattle.engine_run.specs.declared.runner.Stage.{Stage}
use Rattle.engine_run.specs.declared.runner.Stage.TheVariants.{Asks, Directs, Searches, Over}
use Rattle.engine_run.specs.declared.runner.Turn.{Turn}
use Rattle.engine_run.specs.declared.runner.Turn.TheVariants.{Goes, Ended}
use Rattle.engine_run.specs.declared.unfinished.Unfinished.{Unfinished}
use Rattle.engine_run.specs.declared.unfinished.Unfinished.TheVariants.{Waits, NeedsAtoms, Worn, Memory}
use Rattle.engine_run.specs.Items.{IsText}
use Rattle.engine_run.specs.Ran.{HasAims, HasBudgets, WaitsOn}
use Rattle.engine_run.specs.Searched.{IsSearched}

-- What a turn answers.
abbrev pub Turned : Type 0
Turned = Result Turn Unfinished

abbrev pub ends_by : Turned → Bool
ends_by (Ok (Ended how)) = true
ends_by r = false

-- After a slice the engine goes on, or does not.
abbrev pub goes_by : {E : Type 0} → Result E Unfinished → Turned
goes_by (Ok x) = Ok Goes
goes_by (Err w) = Err w

abbrev pub is_over : Stage → Bool
is_over Asks = false
is_over (Directs e) = false
is_over (Searches e) = false
is_over Over = true

abbrev pub is_search : Stage → Bool
is_search Asks = false
is_search (Directs e) = true
is_search (Searches e) = true
is_search Over = false

-- Where a request waits, the item at hand is searched for.
abbrev pub IsStillSearching : Stage → Unfinished → Type 0
IsStillSearching s (Waits on g) = is_search s ≡ true
IsStillSearching s (NeedsAtoms p) = Unit {0}
IsStillSearching s (Worn w) = Unit {0}
IsStillSearching s Memory = Unit {0}

abbrev pub stage_at : Engine → Bool → Stage
stage_at e true = Directs e
stage_at e false = Searches e

-- The text with what was given, as it is written.
abbrev pub put_by : Lines → List (Chars × ℕ) → Chars → List Output → Chars
put_by Texts names = texts
put_by Solutions names = with_output names

-- What stands in the engine's output: what its goal has given. What a directive gives is of the file.
abbrev pub OutIs : Lines → List (Chars × ℕ) → Part → List Output → List ℕ → Type 0
OutIs l names of_goal os bytes = bytes ≡ encode_utf8_all (put_by l names [] os)
OutIs l names (of_directive place rest) os bytes = bytes ≡ []

-- The runner at another stage.
abbrev pub at_stage : {S : Type 0} → Runner S → Stage → Runner S
at_stage r s = record r { stage = s }

abbrev pub wanted_in : {S : Type 0} → Runner S → Bool → ℕ
wanted_in r d = if d then 1 else r.wanted

-- The search of a goal has begun, of a directive or of the engine.
pub record HasBegun {S : Type 0} (goal : Tree) (d : Bool) (old new : Runner S) : Type 0 where
  pub engine : Engine
  pub fresh : IsFresh old.budgets (wanted_in old d) old.stays engine
  pub ready : (m : Names) (t : Told) → IsView (view_of m t) → All (λ a. IsSome (m a)) (atoms_in goal) → IsReady m t engine
  pub starts : (v : View) → IsView v
      → state_now v engine [] ≡ start (engines.limits_of engine) (spelling.spelled (spelling.text_of v.names) goal)
  pub numbered : by_number goal ≡ goal
  pub is : new ≡ at_stage old (stage_at engine d)

-- A slice of the search of a directive was run, and what it has given is of the file.
pub record HasDirected {S E : Type 0} (m : Names) (t : Told) (old : Runner S) (e : Engine) (n : Names) (u : Told) (new : Runner S) (r : Result E Unfinished) : Type 0 where
  pub engine : Engine
  pub searched : IsSearched texts m t e old.moves n u engine new.moves old.text.items new.text.items r
  pub ready : IsReady n u engine
  pub works : engine.out_of_memory ≡ false
  pub is : new ≡ record old { stage = Directs engine; text = new.text; moves = new.moves }

-- And of that of the engine's goal, where the goal's variables have these names.
pub record HasSearched {S E : Type 0} (variables : S → List (Chars × ℕ)) (m : Names) (t : Told) (old : Runner S) (e : Engine) (n : Names) (u : Told) (new : Runner S) (r : Result E Unfinished) : Type 0 where
  pub engine : Engine
  pub searched : IsSearched (put_by old.lines (variables old.script)) m t e old.moves n u engine new.moves old.output.items new.output.items r
  pub ready : IsReady n u engine
  pub works : engine.out_of_memory ≡ false
  pub is : new ≡ record old { stage = Searches engine; output = new.output; moves = new.moves }

-- What the answer of a turn says of the execution: how it has ended, or why it does not go on. Where an atom has no place
-- nothing more is said; the refusal is the last one of the atoms.
abbrev pub AnswerStands : Names → Told → Job → Turned → Execution → Type 0
AnswerStands n u job (Ok Goes) y = Unit {0}
AnswerStands n u job (Ok (Ended how)) y = (ending : Ending) × EndsSo ending how × (y.activity ≡ over ending)
AnswerStands n u job (Err (Waits on g)) y = (g ≡ length u.history) × WaitsOn u job (on_by (text_of n) on) y
AnswerStands n u job (Err (NeedsAtoms p)) y = Unit {0}
AnswerStands n u job (Err (Worn w)) y = Unit {0}
AnswerStands n u job (Err Memory) y = Unit {0}

-- What holds of a runner between two turns

module _ {S : Type 0} (part : S → Option Part) where
  -- The engine searches for the item at hand, which is that of a directive, or the goal.
  pub record IsAtItem (m : Names) (t : Told) (s : S) (d : Bool) (e : Engine) : Type 0 where
    pub ready : IsReady m t e
    pub works : e.out_of_memory ≡ false
    pub item : Part
    pub at_hand : part s ≡ Some item
    pub is : is_directive item ≡ d

  abbrev pub StageIs : Names → Told → S → Stage → Type 0
  StageIs m t s Asks = part s ≡ None
  StageIs m t s (Directs e) = IsAtItem m t s true e
  StageIs m t s (Searches e) = IsAtItem m t s false e
  StageIs m t s Over = Unit {0}

  module _ (done : S → Bool) (names : S → List ℕ) where
    pub record IsBetween (m : Names) (t : Told) (r : Runner S) : Type 0 where
      pub stage : StageIs m t r.script r.stage
      pub held : All (λ a. IsSome (m a)) (names r.script)
      pub done_is : done r.script ≡ is_over r.stage

-- For which execution it stands

module _ {S : Type 0} (execution : (ℕ → Chars) → S → Job → List Consulted → Execution) (part : S → Option Part) where
  -- The search of the item at hand has come so far, and has given this.
  pub record SearchStands (m : Names) (t : Told) (s : S) (job : Job) (cs : List Consulted) (l : Lines) (names : List (Chars × ℕ)) (out : List ℕ) (e : Engine) (x : Execution) : Type 0 where
    pub item : Part
    pub written : List Output
    pub at_hand : part s ≡ Some item
    pub given : solution_count written ≡ e.solutions_found
    pub limits : limits_of job item ≡ engines.limits_of e
    pub out_is : OutIs l names item written out
    pub is : x ≡ with_search (execution (text_of m) s job cs) item (state_now (view_of m t) e written)

  -- The engine has ended, and its goal has given this.
  pub record OverStands (m : Names) (s : S) (job : Job) (cs : List Consulted) (l : Lines) (names : List (Chars × ℕ)) (out : List ℕ) (x : Execution) : Type 0 where
    pub ending : Ending
    pub written : List Output
    pub out_is : out ≡ encode_utf8_all (put_by l names [] written)
    pub is : x ≡ record (execution (text_of m) s job cs) { activity = over ending; output = written }

  abbrev pub StageStands : Names → Told → S → Job → List Consulted → Lines → List (Chars × ℕ) → List ℕ → Stage → Execution → Type 0
  StageStands m t s job cs l names out Asks x = (x ≡ execution (text_of m) s job cs) × (out ≡ [])
  StageStands m t s job cs l names out (Directs e) x = SearchStands m t s job cs l names out e x
  StageStands m t s job cs l names out (Searches e) x = SearchStands m t s job cs l names out e x
  StageStands m t s job cs l names out Over x = OverStands m s job cs l names out x

  module _ (plays : (ℕ → Chars) → S → Script → Type 0) (kept : S → Bool) (name : S → Chars) (variables : S → List (Chars × ℕ)) where
    -- THE RUNNER STANDS FOR THIS EXECUTION of this job: its script plays the job's under these limits, and what was written of
    -- the file and what the goal has given are those of the execution.
    pub record StandsFor (m : Names) (t : Told) (r : Runner S) (job : Job) (x : Execution) : Type 0 where
      pub budgets : HasBudgets r.budgets job.limits
      pub wants : HasAims r.wanted r.stays job.limits
      pub playing : plays (text_of m) r.script job.script
      pub consulted : List Consulted
      pub stands : StageStands m t r.script job consulted r.lines (variables r.script) r.output.items r.stage x
      pub text : IsText (name r.script) (kept r.script) x r.text.items

    -- It has come from the execution to another one, for which it stands, and its moves were counted.
    pub record CameTo (job : Job) (x : Execution) (t : Told) (old : Runner S) (n : Names) (u : Told) (new : Runner S) (r : Turned) : Type 0 where
      pub there : Execution
      pub comes : ComesBy job x t old.moves there u new.moves
      pub stands : StandsFor n u new job there
      pub answer : AnswerStands n u job r there

    -- So it is by a turn, whatever execution of whatever job it stands for.
    abbrev pub HasTurned : Names → Told → Runner S → Names → Told → Runner S → Turned → Type 0
    HasTurned m t old n u new r = (job : Job) (x : Execution) → StandsFor m t old job x → CameTo job x t old n u new r

    -- And by the next item, where a directive has ended so, or there was none.
    abbrev pub HasAsked : Names → Told → Runner S → Option (How Tree) → Names → Told → Runner S → Turned → Type 0
    HasAsked m t old how n u new r =
        (job : Job) (cs : List Consulted) (searched : Option State) (x : Execution)
        → HasBudgets old.budgets job.limits
        → HasAims old.wanted old.stays job.limits
        → plays (text_of m) old.script job.script
        → StandsBefore execution part term_by (text_of m) old.script job (part old.script) how searched cs x
        → old.output.items ≡ []
        → IsText (name old.script) (kept old.script) x old.text.items
        → CameTo job x t old n u new r

    -- And by the end of the goal.
    abbrev pub HasClosed : Names → Told → Runner S → How Tree → Names → Told → Runner S → Turned → Type 0
    HasClosed m t old how n u new r =
        (job : Job) (cs : List Consulted) (s : State) (x : Execution) (ending : Ending)
        → HasBudgets old.budgets job.limits
        → HasAims old.wanted old.stays job.limits
        → plays (text_of m) old.script job.script
        → s.doing ≡ ended ending
        → EndsSo ending how
        → x ≡ with_search (execution (text_of m) old.script job cs) of_goal s
        → old.output.items ≡ encode_utf8_all (put_by old.lines (variables old.script) [] s.output)
        → IsText (name old.script) (kept old.script) x old.text.items
        → CameTo job x t old n u new r
