-- What is kept of the first engine.
use Rattle.std.specs.Prelude.{◌≡◌, ℕ, List, [], map, Option, Some, None, Vec, encode_utf8_all}
use Rattle.std.specs.Arc.{arc_value}
use Rattle.pl_term.specs.Tree.{Chars}
use Rattle.pl_model.specs.History.{History}
use Rattle.run_model.specs.Execution.{Consulted, Execution, word_read}
use Rattle.run_model.specs.Lawful.{Program, Told, main_job}
use Rattle.run_model.specs.Report.{consult_text, end_in, output_of, place_of_main, with_output, words_of}
use Rattle.run_model.specs.Ends.{some_fault}
use Rattle.run_model.specs.WholeRuns.{Carried}
use Rattle.word_board.specs.declared.word.GoalWord.{GoalWord}
use Rattle.pl_model.specs.declared.grammar.Quotes.{Quotes}
use Rattle.pl_consult.specs.declared.file_script.FileScript.{FileScript}
use Rattle.pl_consult.specs.FileScripts.{IsOf}
use Rattle.pl_consult.specs.GoalWords.{names_by, read_of, refusals_of, words_of as words_told}
use Rattle.pl_consult.specs.Hands.{StandsThere}
use Rattle.engine_run.specs.Items.{IsText}
use Rattle.run_report.specs.declared.parts.Part.{Part}
use Rattle.run_report.specs.Parts.{names_at}
use Rattle.toplevel.specs.declared.front.EngineFront.{EngineFront}
use Rattle.toplevel.specs.declared.main_engine.Main.{Main}
use Rattle.toplevel.specs.Opened.{IsFrontOf, IsLeft, state_of, stood_of}

-- The words of the goals as they stand at the end: as they were read, or as they are read then.
abbrev pub words_in : {Z : Type 0} → List GoalWord → Option (Vec GoalWord Z) → List GoalWord
words_in read None = read
words_in read (Some words) = words.items

abbrev pub words_kept : Main → List GoalWord
words_kept m = words_in (read_of m.script.read) m.under

-- What is told of a run with this history, as far as no requests are asked for.
abbrev pub told_at : History → Told
told_at h = record { history = h; generations = [] }

-- The first engine stands in this execution, with so much written of its file, which has this name, and this is kept of it for the
-- report; `quotes` is the flag double_quotes at its end.
pub record FileStands (p : Program) (file : Chars) (h : History) (s : FileScript) (text : List ℕ) (k : Part) (quotes : Quotes) (x : Execution) : Type 0 where
  pub lines : List Consulted
  pub there : StandsThere s (main_job p) lines x
  pub of : IsOf s (main_job p).script
  pub written : IsText file s.faulty x text
  pub operators : arc_value k.operators ≡ (state_of p h 1).operators
  pub quotes_are : quotes ≡ (state_of p h 1).flags.double_quotes
  pub end : end_in h 1 ≡ k.end
  pub given : k.output.items ≡ encode_utf8_all (with_output (names_by (read_of s.read)) [] (output_of x))

-- What it has given, what is written of its file, and how the words of the goals were read are those of the definitions.
pub record HasWritten (p : Program) (file : Chars) (h : History) (x : Execution) (s : FileScript) (k : Part) (m : Main) : Type 0 where
  pub script : m.script ≡ s
  pub output : k.output.items ≡ encode_utf8_all (with_output (names_at 1 (words_told (words_kept m))) [] (output_of x))
  pub text : m.text.items ≡ encode_utf8_all (consult_text file x (place_of_main p (told_at h) x) (end_in h 1))
  pub words : words_of p (told_at h) x ≡ words_told (words_kept m)

-- The words were read, or nothing was given and they are read so.
abbrev pub IsUnread : {Z : Type 0} → FileScript → Part → Quotes → Option (Vec GoalWord Z) → Type 0
IsUnread s k quotes None = read_of s.read ≡ [] → ⊥
IsUnread s k quotes (Some words) =
    (read_of s.read ≡ []) × (k.output.items ≡ []) × (words_told words.items ≡ map (word_read (arc_value k.operators) quotes) s.words.items)

-- The first engine, as the history stands: its front and what is kept of it for the report, what is written of its file, which
-- has this name, and how the words of the goals were read.
pub record IsMain (p : Program) (file : Chars) (h : History) (c : Carried p h) (m : Main) (f : EngineFront) (k : Part) : Type 0 where
  pub one : c.number ≡ 1
  pub left : IsLeft p h c k
  pub front : IsFrontOf p h c f
  pub output : k.output.items ≡ encode_utf8_all (with_output (names_at 1 (words_told (words_kept m))) [] (output_of (stood_of c)))
  pub text : m.text.items ≡ encode_utf8_all (consult_text file (stood_of c) (place_of_main p (told_at h) (stood_of c)) (end_in h 1))
  pub faults : m.script.faulty ≡ some_fault (stood_of c).consulted
  pub words : words_of p (told_at h) (stood_of c) ≡ words_told (words_kept m)
  pub refusals : (stood_of c).refusals ≡ refusals_of m.script.refused.items
