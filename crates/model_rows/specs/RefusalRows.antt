-- A worked history in which a goal's engine cannot be started: a queue has the alias that it would have.
use Rattle.std.specs.Prelude.{ℕ, List, [], ◌∷◌, Some, codes}
use Rattle.pl_term.specs.Tree.{Chars, Tree, atom, comp, none}
use Rattle.pl_model.specs.declared.ends.How.TheVariants.{Solved}
use Rattle.pl_model.specs.OperatorTable.{opening_table}
use Rattle.pl_model.specs.History.{History, make_queue, finish}
use Rattle.pl_model.specs.ErrorTerms.{permission_error}
use Rattle.pl_model.specs.Balls.{error_ball}
use Rattle.pl_model.specs.Control.{consult_proc}
use Rattle.run_model.specs.Execution.{Word, goal_word, Execution}
use Rattle.run_model.specs.Lawful.{Program, Told}
use Rattle.run_model.specs.Report.{Finals}
use Rattle.model_rows.specs.HistoryRows.{limits, solved_with}

abbrev pub queue_file : Chars
queue_file = codes ":- message_queue_create(goal2)."

abbrev pub queue_goal : Tree
queue_goal = comp (codes "message_queue_create") (atom (codes "goal2")) none

-- The file takes the alias of the second goal's engine.
abbrev pub refusing_program : Program
refusing_program =
    record { bytes = queue_file; words = codes "true" ∷ codes "true" ∷ []; limits = limits; slots = 65536 }

abbrev pub true_word : Word
true_word = goal_word (atom (codes "true")) []

abbrev pub refusing_history : History
refusing_history =
    record { engine = 1; kind = make_queue 3 (Some (codes "goal2")) }
    ∷ record { engine = 1; kind = finish Solved 15 } ∷ []

abbrev pub refusing_gens : List ℕ
refusing_gens = 0 ∷ 0 ∷ 1 ∷ 1 ∷ 1 ∷ 1 ∷ 1 ∷ 1 ∷ []

abbrev pub refusing : Told
refusing = record { history = refusing_history; generations = (1, refusing_gens) ∷ [] }

abbrev pub alias_ball : Tree
alias_ball = error_ball (permission_error (codes "create") (codes "thread") (atom (codes "goal2"))) consult_proc

abbrev pub refusing_execution : Execution
refusing_execution =
    record (solved_with (true_word ∷ true_word ∷ []) []) {
      refusals = record { number = 2; ball = alias_ball; operators = opening_table } ∷ [];
    }

abbrev pub refusing_finals : Finals
refusing_finals = (1, refusing_execution) ∷ []

abbrev pub refusing_text : Chars
refusing_text =
    codes "?- true.\ntrue.\n?- true.\nerror: error(permission_error(create,thread,goal2),consult/1).\n"
