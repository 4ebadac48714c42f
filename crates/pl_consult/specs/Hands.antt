-- Where the first engine stands in its file.
use Rattle.std.specs.Prelude.{◌≡◌, ℕ, List, true, false, Option, Some, None}
use Rattle.pl_model.specs.declared.grammar.Quotes.{Quotes}
use Rattle.pl_model.specs.OperatorTable.{OperatorTable}
use Rattle.pl_model.specs.TermGrammar.{item_of}
use Rattle.pl_model.specs.Resolution.{Ending, Output, State}
use Rattle.run_model.specs.Execution.{Job, Consulted, Execution, over}
use Rattle.run_model.specs.Report.{place_of_goal, place_of_item}
use Rattle.script_api.specs.Parts.{Part, with_search}
use Rattle.pl_consult.specs.declared.consult.Place.{Place}
use Rattle.pl_consult.specs.declared.consult.Place.TheVariants.{Item, Initialization}
use Rattle.pl_consult.specs.declared.consult.Consult.{Consult}
use Rattle.pl_consult.specs.declared.stage.Stage.{Stage}
use Rattle.pl_consult.specs.declared.stage.Stage.TheVariants.{Items, Clause, Directive, AtDirective, Report, Words, Starts, Goal, AtGoal, Over, Lost}
use Rattle.pl_consult.specs.declared.file_script.FileScript.{FileScript}
use Rattle.pl_consult.specs.FileScripts.{execution_of, is_over, part_in}

-- The byte of the next item, or after the end of the file of the next goal of initialization/1.
abbrev pub place_by : Consult → Place → OperatorTable → Quotes → Option ℕ
place_by c (Item at) ops quotes = place_of_item c.later.items (item_of c.text.items at ops quotes)
place_by c Initialization ops quotes = place_of_goal c.later.items

-- The byte of the item at hand.
abbrev pub place_in : Consult → Stage → OperatorTable → Quotes → Option ℕ
place_in c Items ops quotes = place_by c c.place ops quotes
place_in c (Clause t place o) ops quotes = Some place
place_in c (Directive goal place) ops quotes = Some place
place_in c (AtDirective place) ops quotes = Some place
place_in c (Report place how) ops quotes = Some place
place_in c Words ops quotes = None
place_in c (Starts o first goals at) ops quotes = None
place_in c (Goal goal) ops quotes = None
place_in c AtGoal ops quotes = None
place_in c Over ops quotes = None
place_in c Lost ops quotes = place_of_goal c.later.items

-- The execution stands where the script does: no item is at hand, or one is searched for, or the script is over.
pub data StandsThere (s : FileScript) (job : Job) (lines : List Consulted) (x : Execution) : Type 0 where
  between : part_in s ≡ None → is_over s.stage ≡ false → x ≡ execution_of s job lines → StandsThere s job lines x
  at_item : (p : Part) (state : State) → part_in s ≡ Some p → x ≡ with_search (execution_of s job lines) p state → StandsThere s job lines x
  at_end : (ending : Ending) (os : List Output)
      → is_over s.stage ≡ true
      → x ≡ record (execution_of s job lines) { activity = over ending; output = os }
      → StandsThere s job lines x
