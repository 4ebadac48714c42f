-- The seats of a new table of atoms, and the first engine before its first move.
use Rattle.std.specs.Prelude.{◌≡◌, ℕ, List, []}
use Rattle.command_line.specs.declared.command.Limits.{Limits}
use Rattle.atom_words.specs.Seats.{seen}
use Rattle.atom_words.specs.declared.words.Words.{Words}
use Rattle.atom_words.specs.declared.words.AtomSeat.{AtomSeat}
use Rattle.atom_table.specs.Holding.{IsEngine, Sits}
use Rattle.atom_table.specs.Opening.{fixed_slots}
use Rattle.iso_engine.specs.declared.engine.Stays.TheVariants.{AsMain}
use Rattle.iso_search.specs.declared.search.Budgets.{Budgets}
use Rattle.iso_engine.specs.declared.engine.Stays.TheVariants.{AsMain}
use Rattle.script_api.specs.declared.either.Either.TheVariants.{First}
use Rattle.pl_consult.specs.declared.file_script.FileScript.{FileScript}
use Rattle.engine_run.specs.declared.runner.Lines.TheVariants.{Solutions}
use Rattle.engine_run.specs.declared.runner.Runner.{Runner}
use Rattle.engine_run.specs.declared.runner.Stage.TheVariants.{Asks}
use Rattle.toplevel.specs.Scripts.{Scripts}

-- The seat of an engine of a new table.
pub record IsNewSeat (w : Words) (s : AtomSeat) : Type 0 where
  pub sits : Sits w s
  pub fixed : (seen s).fixed ≡ fixed_slots
  pub engine : IsEngine (seen s)
  pub refusals : (seen s).refusals ≡ []

abbrev pub budgets_in : Limits → Budgets
budgets_in l = record { inferences = l.inferences; cells = l.cells; choices = l.choices }

-- The engine of this script has made no move, and so much was written of its file.
pub record IsAtBeginning (l : Limits) (s : FileScript) (text : List ℕ) (r : Runner Scripts) : Type 0 where
  pub script : r.script ≡ First s
  pub stage : r.stage ≡ Asks
  pub budgets : r.budgets ≡ budgets_in l
  pub wanted : r.wanted ≡ l.solutions
  pub lines : r.lines ≡ Solutions
  pub stays : r.stays ≡ AsMain
  pub text_is : r.text.items ≡ text
  pub output : r.output.items ≡ []
  pub moves : r.moves ≡ 0
