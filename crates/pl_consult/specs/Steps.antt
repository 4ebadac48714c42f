-- What a step of the script is of an execution.
use Rattle.std.specs.Prelude.{◌≡◌, ◌⊎◌, ◌+◌, ℕ, zero, List, [], ◌∷◌, ◌++◌, drop, length, Option, Some, None, Result, Ok, Err, Bool, true, false}
use Rattle.std.specs.Arc.{arc_value}
use Rattle.std.specs.declared.alloc.Global.{Global}
use Rattle.std.specs.declared.sync.Arc.{Arc}
use Rattle.pl_term.specs.Tree.{Tree}
use Rattle.pl_term.specs.Variables.{rename}
use Rattle.pl_model.specs.declared.grammar.Quotes.{Quotes}
use Rattle.pl_model.specs.OperatorTable.{OperatorTable}
use Rattle.pl_model.specs.Balls.{error_ball}
use Rattle.pl_model.specs.Requests.{Request, look, standing, consult_clause, start_goal}
use Rattle.pl_model.specs.Requests as requests
use Rattle.pl_model.specs.Service.{answers, entry_by, served_now}
use Rattle.pl_model.specs.History.{Kind, History}
use Rattle.pl_model.specs.Resolution.{Ending, solved, no_more, threw, exited, halted, State}
use Rattle.pl_model.specs.Control.{start, consult_proc}
use Rattle.run_model.specs.Execution.{Job, Consulted, Word, goal_word, faulty_word, directive_limits, Activity, adding, directing, reporting, initializing, reading, starting, searching, over, Execution}
use Rattle.pl_consult.specs.declared.consult.Place.{Place}
use Rattle.pl_consult.specs.declared.consult.Place.TheVariants.{Item as AtItem, Initialization}
use Rattle.pl_consult.specs.declared.consult.Consult.{Consult}
use Rattle.pl_consult.specs.declared.consult.Taken.{Taken}
use Rattle.pl_consult.specs.declared.consult.Taken.TheVariants.{Clause as ClauseTaken, Directive as DirectiveTaken, Passed}
use Rattle.pl_consult.specs.Checks.{kept_clause}
use Rattle.pl_consult.specs.Consults.{rest_of, activity_of, Stands}
use Rattle.atom_words.specs.declared.view.Refusal.{Refusal}
use Rattle.pl_model.specs.declared.ends.How.{How}
use Rattle.pl_model.specs.declared.ends.How.TheVariants.{Solved, False, Threw, Exited, Halted, AtomSpace}
use Rattle.script_api.specs.declared.script.Next.{Next}
use Rattle.script_api.specs.declared.script.Next.TheVariants.{Item, Done, Memory}
use Rattle.world_api.specs.declared.reply.Reply.{Reply}
use Rattle.world_api.specs.declared.reply.Reply.TheVariants.{Standing as ReplyStanding, Done as ReplyDone, Refused as ReplyRefused}
use Rattle.world_api.specs.Visits.{clause_in}
use Rattle.world_api.specs.declared.unserved.Unserved.{Unserved}
use Rattle.world_api.specs.Told.{Told, Follows}
use Rattle.world_api.specs.Answers.{seen_as}
use Rattle.script_api.specs.Parts.{Part, of_goal, of_directive, limits_of}
use Rattle.script_api.specs.Comes.{ComesIn}
use Rattle.script_api.specs.Scripts.{next_refusals, next_names, is_directive, is_fault}
use Rattle.pl_consult.specs.declared.stage.Stage.{Stage}
use Rattle.pl_consult.specs.declared.stage.Stage.TheVariants.{Items, Clause, Directive, AtDirective, Report, Words, Starts, Goal, AtGoal, Over, Lost}
use Rattle.pl_consult.specs.declared.stage.Step.{Step}
use Rattle.pl_consult.specs.declared.stage.Step.TheVariants.{Goes, Gives}
use Rattle.pl_consult.specs.declared.looks.Standing.{Standing}

-- The answers by which a script stays where it is.
abbrev pub IsStay : {T : Type 0} → Next T → Type 0
IsStay (Item t d) = ⊥
IsStay (Done h) = ⊥
IsStay next = Unit {0}

-- A look after all entries found these operators and this flag.
pub record Looked (t u : Told) (ops : OperatorTable) (quotes : Quotes) : Type 0 where
  pub before : History
  pub update : Option Kind
  pub follows : Follows t.engine t.history before
  pub served : served_now t.engine t.goals before look ≡ answers (standing ops quotes) update
  pub told : u ≡ seen_as t (before ++ entry_by t.engine update) (t.gens ++ length before ∷ [])

-- Where the look was not served, nothing has changed.
abbrev pub LooksSo : Result Standing Unserved → Told → Told → Type 0
LooksSo (Ok s) t u = Looked t u (arc_value s.operators) s.quotes
LooksSo (Err w) t u = u ≡ t

-- What a reply to a look tells.
abbrev pub IsStanding : Reply Tree → Type 0
IsStanding (ReplyStanding ops quotes) = Unit {0}
IsStanding reply = ⊥

abbrev pub IsLook : Reply Tree → Standing → Type 0
IsLook (ReplyStanding ops quotes) s = s ≡ record { operators = ops; quotes = quotes }
IsLook reply s = ⊥

-- A request after all entries that was answered so.
pub record Asked (t u : Told) (q : Request) (reply : requests.Reply) : Type 0 where
  pub before : History
  pub update : Option Kind
  pub follows : Follows t.engine t.history before
  pub served : served_now t.engine t.goals before q ≡ answers reply update
  pub told : u ≡ seen_as t (before ++ entry_by t.engine update) (t.gens ++ length before ∷ [])

-- This clause was added, or refused with an error; where the call was not served, nothing has changed.
abbrev pub AddedSo : Tree → (Tree → Tree) → Result (Option Tree) Unserved → Told → Told → Type 0
AddedSo clause term (Ok None) t u = Asked t u (consult_clause (clause_in clause)) requests.done
AddedSo clause term (Ok (Some e)) t u = Asked t u (consult_clause (clause_in clause)) (requests.refused (term e))
AddedSo clause term (Err w) t u = u ≡ t

-- What a reply tells of it.
abbrev pub IsAddition : Reply Tree → Type 0
IsAddition ReplyDone = Unit {0}
IsAddition (ReplyRefused e) = Unit {0}
IsAddition reply = ⊥

abbrev pub IsAdded : Reply Tree → Option Tree → Type 0
IsAdded ReplyDone a = a ≡ None
IsAdded (ReplyRefused e) a = a ≡ Some e
IsAdded reply a = ⊥

abbrev pub added_names : (Tree → List ℕ) → Result (Option Tree) Unserved → List ℕ
added_names names (Ok None) = []
added_names names (Ok (Some e)) = names e
added_names names (Err w) = []

-- The goal that is kept so was started as an engine of its own, or is refused with an error; where the call was not served,
-- nothing has changed.
abbrev pub StartsSo : ℕ → Tree → (Tree → Tree) → Result (Option Tree) Unserved → Told → Told → Type 0
StartsSo n g term (Ok None) t u = Asked t u (start_goal n g) requests.done
StartsSo n g term (Ok (Some e)) t u = Asked t u (start_goal n g) (requests.refused (term e))
StartsSo n g term (Err w) t u = u ≡ t

-- The goal with this number was started as an engine of its own, or is refused with a ball; where the call was not served,
-- nothing has changed. After running out of memory it may have been served.
abbrev pub StartedSo : ℕ → Tree → Result (Option Tree) (Next Tree) → Told → Told → Type 0
StartedSo n g (Ok None) t u = Asked t u (start_goal n g) requests.done
StartedSo n g (Ok (Some b)) t u = (e : Tree) × Asked t u (start_goal n g) (requests.refused e) × (b ≡ error_ball e consult_proc)
StartedSo n g (Err Memory) t u = (u ≡ t) ⊎ ((reply : requests.Reply) × Asked t u (start_goal n g) reply)
StartedSo n g (Err next) t u = IsStay next × (u ≡ t)

-- What is refused of a call, if one was.
abbrev pub start_refusals : Result (Option Tree) (Next Tree) → List Refusal
start_refusals (Ok b) = []
start_refusals (Err next) = next_refusals next

abbrev pub step_refusals : Step → List Refusal
step_refusals Goes = []
step_refusals (Gives next) = next_refusals next

abbrev pub step_names : (Tree → List ℕ) → Step → List ℕ
step_names names Goes = []
step_names names (Gives next) = next_names names next

-- The byte after an item.
abbrev pub next_of : Place → ℕ
next_of (AtItem next) = next
next_of Initialization = zero

-- How a search ended, by what is told of it. Want of atoms is no end of a search.
abbrev pub ending_of : How Tree → Ending
ending_of Solved = solved
ending_of False = no_more
ending_of (Threw t) = threw t
ending_of (Exited t) = exited t
ending_of (Halted n) = halted n
ending_of (AtomSpace r) = solved

-- The status of an end by halt/1.
abbrev pub status_of : How Tree → Option ℕ
status_of (Halted n) = Some n
status_of how = None

-- What the execution does. Where an item is at hand, its search is put into it.
abbrev pub activity_in : Job → Place → Stage → Activity
activity_in job p Items = activity_of p
activity_in job p (Clause t place ops) = adding (arc_value ops) place (next_of p) (kept_clause t)
activity_in job p (Directive goal place) = directing place (rest_of p) (start (directive_limits job) goal)
activity_in job p (AtDirective place) = initializing
activity_in job p (Report place how) = reporting place (rest_of p) (ending_of how)
activity_in job p Words = reading
activity_in job p (Starts ops first goals at) = starting (arc_value ops) (drop at goals.items)
activity_in job p (Goal goal) = searching (start job.limits goal)
activity_in job p AtGoal = initializing
activity_in job p Over = initializing
activity_in job p Lost = initializing

abbrev pub IsItem : Place → Type 0
IsItem (AtItem next) = Unit {0}
IsItem Initialization = ⊥

abbrev pub IsTold : How Tree → Type 0
IsTold (AtomSpace r) = ⊥
IsTold how = Unit {0}

-- This is the goal that the word is, if it is one; and that of the first word.
abbrev pub IsGoalOf : Option Tree → Word → Type 0
IsGoalOf o (goal_word t names) = o ≡ Some t
IsGoalOf o (faulty_word kind at) = o ≡ None

abbrev pub IsFirst : Option Tree → List Word → Type 0
IsFirst o [] = o ≡ None
IsFirst o (w ∷ ws) = IsGoalOf o w

-- A clause is one of the file and is numbered from 0, what ended did not end for want of atoms, and the goal that comes after
-- all starts is that of the first word.
abbrev pub Fits : Stage → Place → List Word → Type 0
Fits (Clause t place ops) p ws = IsItem p × (rename zero t ≡ t)
Fits (Report place how) p ws = IsTold how
Fits (Starts ops first goals at) p ws = IsFirst first ws
Fits stage p ws = Unit {0}

-- It is this execution, with the lines that are written of the file.
pub record At (job : Job) (c : Consult) (stage : Stage) (x : Execution) (out : List ℕ) : Type 0 where
  pub stands : Stands c job x out
  pub does : x.activity ≡ activity_in job c.place stage
  pub fits : Fits stage c.place x.words

-- These lines are all of faults.
abbrev pub AreFaults : List Consulted → Type 0
AreFaults [] = Unit {0}
AreFaults (c ∷ cs) = (is_fault c ≡ true) × AreFaults cs

-- After the lines that are written of the file there are further ones, all of faults.
pub record Grows (old new : List Consulted) : Type 0 where
  pub faults : List Consulted
  pub grown : new ≡ old ++ faults
  pub are : AreFaults faults

-- Of the goals of the command nothing has changed, and of the file only faults are written.
pub record SameGoals (x y : Execution) : Type 0 where
  pub words : y.words ≡ x.words
  pub refusals : y.refusals ≡ x.refusals
  pub output : y.output ≡ x.output
  pub lines : Grows x.consulted y.consulted

-- How far the script has come with an item that was read under these operators.
abbrev pub stage_by : Taken → Arc OperatorTable Global → Stage
stage_by (ClauseTaken t place) ops = Clause t place ops
stage_by (DirectiveTaken goal place) ops = Directive goal place
stage_by Passed ops = Items

-- And with the next goal of initialization/1.
abbrev pub stage_for : Option (ℕ × Tree) → Stage
stage_for None = Words
stage_for (Some g) = Directive g.1 g.0

-- The step gives no item, and hands on no refusal of an atom.
abbrev pub IsQuiet : Step → Type 0
IsQuiet Goes = Unit {0}
IsQuiet (Gives (Done h)) = Unit {0}
IsQuiet (Gives Memory) = Unit {0}
IsQuiet (Gives next) = ⊥

abbrev pub part_of : Place → Stage → Option Part
part_of p (AtDirective place) = Some (of_directive place (rest_of p))
part_of p AtGoal = Some of_goal
part_of p stage = None

-- The place of the directive that an item is, if it is one.
abbrev pub directive_place : Option Part → Option ℕ
directive_place (Some (of_directive place rest)) = Some place
directive_place part = None

-- Whether a step is to be made: no goal is searched for, and the script is neither over nor lost.
abbrev pub can_step : Stage → Bool
can_step Items = true
can_step (Clause t place ops) = true
can_step (Directive goal place) = true
can_step (AtDirective place) = false
can_step (Report place how) = true
can_step Words = true
can_step (Starts ops first goals at) = true
can_step (Goal goal) = true
can_step AtGoal = false
can_step Over = false
can_step Lost = false

-- Whether the goal that is searched for is that of a directive, if one is.
abbrev pub at_hand : Stage → Option Bool
at_hand (AtDirective place) = Some true
at_hand AtGoal = Some false
at_hand stage = None

-- The stage fits what the step leads to. After running out of memory nothing is said of it.
abbrev pub IsAfter : Step → Stage → Type 0
IsAfter Goes stage = can_step stage ≡ true
IsAfter (Gives (Item t directive)) stage = at_hand stage ≡ Some directive
IsAfter (Gives (Done h)) stage = stage ≡ Over
IsAfter (Gives Memory) stage = Unit {0}
IsAfter (Gives next) stage = can_step stage ≡ true

-- The execution searches for the part so.
abbrev pub searching_in : Part → State → Activity
searching_in of_goal s = searching s
searching_in (of_directive place rest) s = directing place rest s

-- How many moves a step makes that gives this: one, or none where the script stays where it is or hands on its goal.
abbrev pub moves_in : Step → ℕ
moves_in Goes = 1
moves_in (Gives (Done h)) = 1
moves_in (Gives next) = 0

-- The execution comes so far by a step. After running out of memory it is not told how many moves it made.
abbrev pub CameAt : Step → Job → Execution → Told → Execution → Told → Type 0
CameAt (Gives Memory) job x t y u = (k : ℕ) × ComesIn job k x t y u
CameAt step job x t y u = ComesIn job (moves_in step) x t y u

-- The step makes a move, or there was no memory for it.
abbrev pub MakesMoves : Step → Type 0
MakesMoves Goes = Unit {0}
MakesMoves (Gives (Done h)) = Unit {0}
MakesMoves (Gives Memory) = Unit {0}
MakesMoves (Gives next) = ⊥

-- The move of the step is counted, or there are too many to count, which is out of memory.
abbrev pub IsCounted : Step → Step → ℕ → ℕ → Type 0
IsCounted step (Gives Memory) before after = MakesMoves step
IsCounted step counted before after = (counted ≡ step) × (moves_in step + before ≡ after)

-- After all starts the first goal is to be given, or the script is over.
abbrev pub IsBegun : Option Tree → Stage → Step → Type 0
IsBegun None stage step = (stage ≡ Over) × (step ≡ Gives (Done None))
IsBegun (Some t) stage step = (stage ≡ Goal t) × (step ≡ Goes)

-- The file is the same.
pub record SameFile (c d : Consult) : Type 0 where
  pub name : d.name ≡ c.name
  pub text : d.text.items ≡ c.text.items

module _ (term : Tree → Tree) where
  -- The execution after a step. After running out of memory nothing is said of it.
  abbrev pub After : Step → Job → Consult → Stage → Execution → List ℕ → Type 0
  After Goes job c stage y out = At job c stage y out
  After (Gives (Item t directive)) job c stage y out =
      (p : Part) × (part_of c.place stage ≡ Some p) × (is_directive p ≡ directive)
      × (y.activity ≡ searching_in p (start (limits_of job p) (term t)))
      × Stands c job y out
  After (Gives (Done (Some n))) job c stage y out = (y.activity ≡ over (halted n)) × (stage ≡ Over) × Stands c job y out
  After (Gives (Done None)) job c stage y out = (y.activity ≡ over solved) × (stage ≡ Over) × Stands c job y out
  After (Gives Memory) job c stage y out = Unit {0}
  After (Gives next) job c stage y out = At job c stage y out × (part_of c.place stage ≡ None)

  abbrev pub Keeps : Step → Consult → Consult → Type 0
  Keeps (Gives Memory) c d = Unit {0}
  Keeps step c d = SameFile c d

  -- Whatever execution of whatever job the script stands for, it comes to one for which the script stands then.
  abbrev pub Moved : Consult → Stage → Told → List ℕ → Step → Consult → Stage → Told → List ℕ → Type 0
  Moved c stage t out step d then u more =
      (job : Job) (x : Execution)
      → At job c stage x out
      → (y : Execution) × CameAt step job x t y u × SameGoals x y × Keeps step c d × After step job d then y more
