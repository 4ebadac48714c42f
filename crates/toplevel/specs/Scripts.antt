-- The scripts of engines: the file with the command's first goal, or a goal that the engine was started with.
use Rattle.std.specs.Prelude.{ℕ, List, [], Bool, false, Option, Some}
use Rattle.pl_term.specs.Tree.{Chars, Tree}
use Rattle.run_model.specs.Execution.{Script, Job, Consulted, Execution}
use Rattle.term_store.specs.NumberedNames.{names_of, term_by}
use Rattle.atom_api.specs.Names.{Names}
use Rattle.world_api.specs.Told.{Told}
use Rattle.script_api.specs.declared.either.Either.{Either}
use Rattle.script_api.specs.declared.named_once.NamedOnce.{NamedOnce}
use Rattle.script_api.specs.Eithers.{EitherIs, either}
use Rattle.script_api.specs.Onces as onces
use Rattle.script_api.specs.Parts.{Part}
use Rattle.script_api.specs.WordNames.{names_told, word_told}
use Rattle.pl_consult.specs.declared.file_script.FileScript.{FileScript}
use Rattle.pl_consult.specs.FileScripts.{Plays, execution_of, is_over, part_in}
use Rattle.pl_consult.specs.GoalWords.{names_by, read_of}
use Rattle.engine_run.specs.declared.runner.Runner.{Runner}
use Rattle.engine_run.specs.Runners.{IsBetween, StandsFor}
use Rattle.pl_sched.specs.Written.{Writing}

abbrev pub Scripts : Type 0
Scripts = Either FileScript (NamedOnce Tree)

-- What is said of such a script.
abbrev pub executed : (ℕ → Chars) → Scripts → Job → List Consulted → Execution
executed text s job cs =
    either (λ (a : FileScript). execution_of a job cs) (λ (b : NamedOnce Tree). onces.execution_of term_by text b.once.stage job cs) s

abbrev pub part_at : Scripts → Option Part
part_at s = either part_in (λ (b : NamedOnce Tree). onces.part_of b.once.stage) s

abbrev pub plays_at : (ℕ → Chars) → Scripts → Script → Type 0
plays_at text s x = EitherIs (λ (a : FileScript). Plays a x) (λ (b : NamedOnce Tree). onces.plays_of term_by text b.once.stage x) s

abbrev pub kept_at : Scripts → Bool
kept_at s = either (λ (a : FileScript). a.faulty) (λ (b : NamedOnce Tree). false) s

abbrev pub name_at : Scripts → Chars
name_at s = either (λ (a : FileScript). a.consult.name) (λ (b : NamedOnce Tree). []) s

abbrev pub variables_at : Scripts → List (Chars × ℕ)
variables_at s = either (λ (a : FileScript). names_by (read_of a.read)) (λ (b : NamedOnce Tree). names_told b.names) s

abbrev pub word_at : Scripts → Option (ℕ × ℕ)
word_at s = either (λ (a : FileScript). Some (a.board.now, 1)) (λ (b : NamedOnce Tree). word_told b.names) s

abbrev pub over_at : Scripts → Bool
over_at s = either (λ (a : FileScript). is_over a.stage) (λ (b : NamedOnce Tree). onces.over_of b.once.stage) s

abbrev pub names_at : Scripts → List ℕ
names_at s = either (λ (a : FileScript). []) (λ (b : NamedOnce Tree). onces.names_of names_of b.once.stage) s

-- The engine stands for this execution, and is between two turns; its moves, and what is written of it.
abbrev pub Stands : Names → Told → Runner Scripts → Job → Execution → Type 0
Stands m t r job x = StandsFor executed part_at plays_at kept_at name_at variables_at m t r job x

abbrev pub IsReady : Names → Told → Runner Scripts → Type 0
IsReady m t r = IsBetween part_at over_at names_at m t r

abbrev pub moves_of : Runner Scripts → ℕ
moves_of r = r.moves

abbrev pub writing_of : Runner Scripts → Writing
writing_of r = record { lines = r.lines; file = name_at r.script; word = word_at r.script }
