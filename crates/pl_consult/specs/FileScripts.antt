-- The script of the first engine as a whole: a file that is consulted, and the goals of the command.
use Rattle.std.specs.Prelude.{◌≡◌, ℕ, List, [], Bool, true, false, Option, Some, None, encode_utf8_all}
use Rattle.pl_term.specs.Tree.{Chars, Tree}
use Rattle.run_model.specs.Execution.{Script, consults, Job, Consulted, Execution, at_start}
use Rattle.run_model.specs.Report.{all_consulted}
use Rattle.pl_consult.specs.declared.consult.Consult.{Consult}
use Rattle.pl_model.specs.declared.ends.How.{How}
use Rattle.script_api.specs.declared.script.Next.{Next}
use Rattle.script_api.specs.declared.script.Next.TheVariants.{Memory}
use Rattle.world_api.specs.Told.{Told}
use Rattle.script_api.specs.Parts.{Part}
use Rattle.script_api.specs.Comes.{ComesBy}
use Rattle.script_api.specs.Scripts.{CameBy, some_fault}
use Rattle.pl_consult.specs.declared.stage.Stage.{Stage}
use Rattle.pl_consult.specs.declared.stage.Stage.TheVariants.{Report, Over, Lost}
use Rattle.pl_consult.specs.declared.stage.Step.{Step}
use Rattle.pl_consult.specs.declared.stage.Step.TheVariants.{Goes, Gives}
use Rattle.pl_consult.specs.declared.file_script.FileScript.{FileScript}
use Rattle.pl_consult.specs.Steps.{activity_in, part_of, CameAt, Fits, At, After, IsAfter, Grows}
use Rattle.word_board.specs.declared.word.GoalWord.{GoalWord}
use Rattle.pl_consult.specs.declared.goal_words.RefusedGoal.{RefusedGoal}
use Rattle.pl_consult.specs.GoalWords.{words_of, read_of, refusals_of}

abbrev pub is_over : Stage → Bool
is_over Over = true
is_over stage = false

abbrev pub is_lost : Stage → Bool
is_lost Lost = true
is_lost stage = false

abbrev pub is_memory : {T : Type 0} → Next T → Bool
is_memory Memory = true
is_memory next = false

-- The end is kept so until it is reported.
abbrev pub IsReport : ℕ → Option (How Tree) → Stage → Type 0
IsReport place ended stage = (how : How Tree) × (ended ≡ Some how) × (stage ≡ Report place how)

-- The execution of a job for which the script stands, where so much is written of the file.
abbrev pub execution_of : FileScript → Job → List Consulted → Execution
execution_of s job cs =
    record {
      activity = activity_in job s.consult.place s.stage;
      consulted = cs;
      later = s.consult.later.items;
      words = words_of (read_of s.read);
      refusals = refusals_of s.refused.items;
      output = [];
    }

abbrev pub part_in : FileScript → Option Part
part_in s = part_of s.consult.place s.stage

-- It consults this file and runs the goals of these words, and stands at a stage at which it can be. A script that is lost
-- plays anything.
pub record IsOf (s : FileScript) (x : Script) : Type 0 where
  pub script : x ≡ consults s.consult.text.items s.words.items
  pub fits : Fits s.stage s.consult.place (words_of (read_of s.read))

abbrev pub Plays : FileScript → Script → Type 0
Plays s x = is_lost s.stage ≡ false → IsOf s x

-- A script before its first step, of a file with this name.
pub record Begins (s : FileScript) (job : Job) (name : Chars) (out : List ℕ) : Type 0 where
  pub execution : execution_of s job (at_start job).consulted ≡ at_start job
  pub plays : Plays s job.script
  pub lines : out ≡ encode_utf8_all (all_consulted name [] (at_start job).consulted)
  pub kept : some_fault (at_start job).consulted ≡ s.faulty

pub record IsFresh (s : FileScript) (name : Chars) : Type 0 where
  pub part : part_in s ≡ None
  pub over : is_over s.stage ≡ false
  pub name_is : s.consult.name ≡ name

-- The execution is one of the script, whatever it does.
pub record WholeBy (job : Job) (name : Chars) (c : Consult) (words : List Chars) (read : List GoalWord) (refused : List RefusedGoal) (x : Execution) : Type 0 where
  pub script : job.script ≡ consults c.text.items words
  pub name_is : c.name ≡ name
  pub words_are : x.words ≡ words_of read
  pub refusals : x.refusals ≡ refusals_of refused
  pub output : x.output ≡ []

abbrev pub Whole : Job → Chars → FileScript → Execution → Type 0
Whole job name s x = WholeBy job name s.consult s.words.items (read_of s.read) s.refused.items x

-- It stands at this stage.
pub record RunsBy (job : Job) (name : Chars) (c : Consult) (words : List Chars) (read : List GoalWord) (refused : List RefusedGoal) (stage : Stage) (x : Execution) (out : List ℕ) : Type 0 where
  pub whole : WholeBy job name c words read refused x
  pub at : At job c stage x out

abbrev pub Runs : Job → Chars → FileScript → Stage → Execution → List ℕ → Type 0
Runs job name s stage x out = RunsBy job name s.consult s.words.items (read_of s.read) s.refused.items stage x out

-- The stage after what was given. The script is lost where memory runs out.
abbrev pub IsGiven : Next Tree → Stage → Type 0
IsGiven Memory stage = stage ≡ Lost
IsGiven next stage = IsAfter (Gives next) stage

-- The execution comes so far, and as many moves were counted. After running out of memory it is not told how many they are.
abbrev pub CameByStep : Step → Job → Execution → Told → ℕ → Execution → Told → ℕ → Type 0
CameByStep Goes job x t before y u after = ComesBy job x t before y u after
CameByStep (Gives next) job x t before y u after = CameBy next job x t before y u after

module _ (term : Tree → Tree) where
  -- The execution after steps.
  abbrev pub AfterFile : Step → Job → Chars → FileScript → Stage → Execution → List ℕ → Type 0
  AfterFile (Gives Memory) job name s stage y out = Unit {0}
  AfterFile step job name s stage y out = Whole job name s y × After term step job s.consult stage y out

  -- Whatever execution of whatever job the script stands for, it comes by this step to one for which the script stands then.
  abbrev pub FileMoved : Chars → FileScript → Stage → Told → List ℕ → Step → FileScript → Stage → Told → List ℕ → Type 0
  FileMoved name s stage t out step r then u more =
      (job : Job) (x : Execution)
      → Runs job name s stage x out
      → (y : Execution) × CameAt step job x t y u × Grows x.consulted y.consulted × AfterFile step job name r then y more

  -- And by steps, the last of which gives this, while the count of moves rises from `before` to `after`.
  abbrev pub FileRan : Chars → FileScript → Stage → Told → ℕ → List ℕ → Step → FileScript → Stage → Told → ℕ → List ℕ → Type 0
  FileRan name s stage t before out step r then u after more =
      (job : Job) (x : Execution)
      → Runs job name s stage x out
      → (y : Execution) × CameByStep step job x t before y u after × Grows x.consulted y.consulted × AfterFile step job name r then y more
