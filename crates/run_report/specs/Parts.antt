-- What is kept of the engines of a run, and how far that is what the definitions say of them.
use Rattle.std.specs.Prelude.{◌≡◌, ℕ, suc, List, [], ◌∷◌, Bool, false, ◌||◌, ◌==◌, ◌<◌, zero, length, Option, Some, None, IsSome, decimal, slice_get, if◌then◌else◌, encode_utf8_all}
use Rattle.std.specs.List.{AllZip}
use Rattle.std.specs.Arc.{arc_value}
use Rattle.pl_term.specs.Tree.{Chars, Tree}
use Rattle.pl_model.specs.declared.ends.How.{How}
use Rattle.pl_model.specs.declared.ends.How.TheVariants.{Threw}
use Rattle.pl_model.specs.declared.threads.On.{On}
use Rattle.run_model.specs.Execution.{Execution, Refusal, Word, goal_word, faulty_word, move}
use Rattle.run_model.specs.Lawful.{Beginning, Program, Told, beginnings, is_goal_number}
use Rattle.run_model.specs.Report.{Finals, consult_text, end_in, end_operators, final_of, output_of, place_of_main, texts, with_output, words_of}
use Rattle.run_model.specs.Report as report
use Rattle.run_model.specs.Ends.{awaited_by, goal_how, goal_numbers, halt_by, has_no_end, job_of, lacks_atoms, or_else, some_fault, with_end}
use Rattle.run_model.specs.declared.ends.GoalEnd.{GoalEnd}
use Rattle.run_model.specs.declared.ends.GoalHow.{GoalHow}
use Rattle.run_model.specs.declared.ends.GoalHow.TheVariants.{Ended, Syntax}
use Rattle.pl_consult.specs.declared.goal_words.RefusedGoal.{RefusedGoal}
use Rattle.pl_consult.specs.GoalWords.{refusal_of}
use Rattle.run_report.specs.declared.parts.Part.{Part}

-- Look-ups

abbrev pub numbers_of : List Part → List ℕ
numbers_of [] = []
numbers_of (k ∷ ks) = k.number ∷ numbers_of ks

-- The engine with this number.
abbrev pub part_in : List Part → ℕ → Option Part
part_in [] n = None
part_in (k ∷ ks) n = if k.number == n then Some k else part_in ks n

-- This is what is refused, if it is.
abbrev pub IsRefusal : Option Refusal → Option RefusedGoal → Type 0
IsRefusal wanted None = wanted ≡ None
IsRefusal wanted (Some r) = wanted ≡ Some (refusal_of r)

-- A thread is named by its alias, or by its number where it has none.
abbrev pub name_by : ℕ → Option Chars → Chars
name_by n None = decimal n
name_by n (Some a) = a

-- Ends

abbrev pub part_how : Option Refusal → Option Part → Option GoalHow
part_how (Some r) k = Some (Ended (Threw r.ball))
part_how None None = None
part_how None (Some k) = goal_how k.awaits k.end

abbrev pub how_of : List Part → List Refusal → ℕ → Word → Option GoalHow
how_of ks rs n (faulty_word kind at) = Some (Syntax kind at)
how_of ks rs n (goal_word t names) = part_how (report.refusal_of rs n) (part_in ks n)

abbrev pub ends_over : List Part → List Refusal → ℕ → List Word → List GoalEnd
ends_over ks rs n [] = []
ends_over ks rs n (w ∷ ws) = with_end n (how_of ks rs n w) (ends_over ks rs (suc n) ws)

abbrev pub halted_in : List Part → Option ℕ
halted_in [] = None
halted_in (k ∷ ks) = or_else (halt_by k.end) (halted_in ks)

abbrev pub waits_in : List Part → Bool
waits_in [] = false
waits_in (k ∷ ks) = has_no_end k.end || waits_in ks

abbrev pub lacks_in : List Part → Bool
lacks_in [] = false
lacks_in (k ∷ ks) = lacks_atoms k.end || lacks_in ks

-- What is known

-- An engine that has not ended waits on something.
abbrev pub HasWaited : Option (How Tree) → Option On → Type 0
HasWaited (Some how) on = Unit {0}
HasWaited None on = IsSome on

-- What it waits on is what its next move asks for.
abbrev pub IsAwaited : Option (How Tree) → Option On → Option On → Type 0
IsAwaited (Some how) on wanted = Unit {0}
IsAwaited None on wanted = wanted ≡ on

-- The engine in this state at the end of the run.
pub record IsKeptOf (p : Program) (told : Told) (finals : Finals) (k : Part) (x : Execution) : Type 0 where
  pub final : final_of finals k.number ≡ Some x
  pub end : end_in told.history k.number ≡ k.end
  pub operators : end_operators p told k.number ≡ arc_value k.operators
  pub waited : HasWaited k.end k.awaits
  pub awaits : IsAwaited k.end k.awaits (awaited_by k.number (move (job_of p (beginnings told.history) k.number) x))

-- The names of the variables of the goal that the word with this number is, from 1.
abbrev pub names_in : Option Word → List (Chars × ℕ)
names_in None = []
names_in (Some (goal_word t names)) = names
names_in (Some (faulty_word kind at)) = []

abbrev pub names_at : ℕ → List Word → List (Chars × ℕ)
names_at zero ws = []
names_at (suc i) ws = names_in (slice_get ws i)

-- One of the engines that run the file and the goals of the command.
abbrev pub IsEngine : Program → Told → Finals → List Word → Part → Type 0
IsEngine p told finals ws k =
    (x : Execution) × IsKeptOf p told finals k x × (k.output.items ≡ encode_utf8_all (with_output (names_at k.number ws) [] (output_of x)))

abbrev pub AreEngines : Program → Told → Finals → List Word → List Part → Type 0
AreEngines p told finals ws [] = Unit {0}
AreEngines p told finals ws (k ∷ ks) = IsEngine p told finals ws k × AreEngines p told finals ws ks

-- These are the engines of the words that have begun.
pub record IsKept (p : Program) (told : Told) (finals : Finals) (ws : List Word) (ks : List Part) : Type 0 where
  pub each : AreEngines p told finals ws ks
  pub absent : (i : ℕ) → i < length ws → part_in ks (suc i) ≡ None → final_of finals (suc i) ≡ None

-- The thread that began so.
pub record IsThread (p : Program) (told : Told) (finals : Finals) (b : Beginning) (k : Part) : Type 0 where
  pub execution : Execution
  pub number : b.engine ≡ k.number
  pub alias : b.alias ≡ k.alias
  pub kept : IsKeptOf p told finals k execution
  pub output : k.output.items ≡ encode_utf8_all (texts [] (output_of execution))

-- The threads among those that began.
abbrev pub threads_in : Program → List Beginning → List Beginning
threads_in p [] = []
threads_in p (b ∷ bs) = if is_goal_number p b.engine then threads_in p bs else b ∷ threads_in p bs

-- These are the threads, in the order in which they began.
abbrev pub AreThreads : Program → Told → Finals → List Beginning → List Part → Type 0
AreThreads p told finals bs ks = AllZip (IsThread p told finals) (threads_in p bs) ks

-- All that is kept of a run: the state of the first engine, what was written of the file of this name, whether a fault of it
-- was kept, the words of the goals as they stand at the end, the goals whose engines could not be started, the engines
-- of the file and of the goals, and the threads.
pub record IsWhole (name : Chars) (p : Program) (told : Told) (finals : Finals) (x : Execution) (text : List ℕ) (faulty : Bool) (ws : List Word) (rs : List Refusal) (engines threads : List Part) : Type 0 where
  pub main : final_of finals 1 ≡ Some x
  pub text_is : text ≡ encode_utf8_all (consult_text name x (place_of_main p told x) (end_in told.history 1))
  pub faults : faulty ≡ some_fault x.consulted
  pub words : words_of p told x ≡ ws
  pub refusals : x.refusals ≡ rs
  pub numbers : numbers_of engines ≡ 1 ∷ goal_numbers p (beginnings told.history)
  pub kept : IsKept p told finals ws engines
  pub others : AreThreads p told finals (beginnings told.history) threads
