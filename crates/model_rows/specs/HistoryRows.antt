-- Worked histories, with what is told of them, where the engines stand at the end, and the texts: two goals that pass a
-- message, a goal that waits for one, and a thread that a goal creates.
use Rattle.std.specs.Prelude.{ℕ, pos, List, [], ◌∷◌, Some, None, codes}
use Rattle.pl_term.specs.Tree.{Chars, Tree, var, int, atom, comp, none, more}
use Rattle.pl_model.specs.declared.ends.How.TheVariants.{Solved}
use Rattle.pl_model.specs.OperatorTable.{opening_table}
use Rattle.pl_model.specs.History.{History, start, send, take, finish}
use Rattle.pl_model.specs.Resolution.{Limits, text, solution, solved}
use Rattle.pl_model.specs.Control.{start as begin}
use Rattle.run_model.specs.Execution.{Job, Word, goal_word, over, searching, Execution}
use Rattle.run_model.specs.Lawful.{Program, Told, Beginning, main_job}
use Rattle.run_model.specs.Report.{Finals}

abbrev pub limits : Limits
limits = record { inferences = 100; cells = 1000; choices = 100; solutions = 1; stays = None }

-- An empty file and these goals.
abbrev pub with_goals : List Chars → Program
with_goals ws = record { bytes = []; words = ws; limits = limits; slots = 65536 }

abbrev pub main_of : List Chars → Job
main_of ws = main_job (with_goals ws)

-- An engine that has ended with a solution.
abbrev pub solved_with : List Word → List Tree → Execution
solved_with ws ts =
    record {
      activity = over solved;
      consulted = [];
      later = [];
      words = ws;
      refusals = [];
      output = solution opening_table ts ∷ [];
    }

-- A message is passed

abbrev pub sends : Chars
sends = codes "thread_send_message(goal2,a)"

abbrev pub gets : Chars
gets = codes "thread_get_message(X)"

abbrev pub sending : Tree
sending = comp (codes "thread_send_message") (atom (codes "goal2")) (more (atom (codes "a")) none)

abbrev pub getting : Tree
getting = comp (codes "thread_get_message") (var 0) none

abbrev pub sent_word : Word
sent_word = goal_word sending []

abbrev pub got_word : Word
got_word = goal_word getting ((codes "X", 0) ∷ [])

-- The first goal sends a message to the second one's engine, and ends before that engine takes it.
abbrev pub passing_history : History
passing_history =
    record { engine = 1; kind = start 2 getting (Some (codes "goal2")) }
    ∷ record { engine = 1; kind = send 2 (atom (codes "a")) }
    ∷ record { engine = 1; kind = finish Solved 9 }
    ∷ record { engine = 2; kind = take 1 }
    ∷ record { engine = 2; kind = finish Solved 5 } ∷ []

abbrev pub sender_gens : List ℕ
sender_gens = 0 ∷ 0 ∷ 0 ∷ 1 ∷ 2 ∷ []

abbrev pub getter_gens : List ℕ
getter_gens = 3 ∷ 3 ∷ 4 ∷ []

abbrev pub passing : Told
passing = record { history = passing_history; generations = (1, sender_gens) ∷ (2, getter_gens) ∷ [] }

abbrev pub second_goal : Beginning
second_goal = record { engine = 2; goal = getting; alias = Some (codes "goal2"); low = 1 }

abbrev pub passing_finals : Finals
passing_finals =
    (1, solved_with (sent_word ∷ got_word ∷ []) []) ∷ (2, solved_with [] (atom (codes "a") ∷ [])) ∷ []

abbrev pub passing_text : Chars
passing_text = codes "?- thread_send_message(goal2,a).\ntrue.\n?- thread_get_message(X).\nX = a.\n"

-- A goal waits

abbrev pub waits_for_x : Chars
waits_for_x = codes "thread_get_message(x)"

abbrev pub waiting_goal : Tree
waiting_goal = comp (codes "thread_get_message") (atom (codes "x")) none

abbrev pub waiting_word : Word
waiting_word = goal_word waiting_goal []

abbrev pub waiting : Told
waiting = record { history = []; generations = (1, 0 ∷ 0 ∷ []) ∷ [] }

-- The engine stands at the beginning of the search.
abbrev pub waiting_execution : Execution
waiting_execution =
    record {
      activity = searching (begin (main_of (waits_for_x ∷ [])).limits waiting_goal);
      consulted = [];
      later = [];
      words = waiting_word ∷ [];
      refusals = [];
      output = [];
    }

abbrev pub waiting_finals : Finals
waiting_finals = (1, waiting_execution) ∷ []

abbrev pub waiting_text : Chars
waiting_text = codes "?- thread_get_message(x).\nwaiting.\n"

-- A thread is created

abbrev pub creates : Chars
creates = codes "thread_create(write(a),_)"

abbrev pub written_goal : Tree
written_goal = comp (codes "write") (atom (codes "a")) none

abbrev pub creating_word : Word
creating_word = goal_word (comp (codes "thread_create") written_goal (more (var 0) none)) []

abbrev pub creating_history : History
creating_history =
    record { engine = 1; kind = start 2 written_goal None }
    ∷ record { engine = 1; kind = finish Solved 8 }
    ∷ record { engine = 2; kind = finish Solved 5 } ∷ []

abbrev pub creator_gens : List ℕ
creator_gens = 0 ∷ 0 ∷ 0 ∷ 1 ∷ []

abbrev pub thread_gens : List ℕ
thread_gens = 2 ∷ 2 ∷ 2 ∷ []

abbrev pub creating : Told
creating = record { history = creating_history; generations = (1, creator_gens) ∷ (2, thread_gens) ∷ [] }

abbrev pub created_thread : Beginning
created_thread = record { engine = 2; goal = written_goal; alias = None; low = 1 }

-- The thread has written this.
abbrev pub thread_with : Chars → Execution
thread_with t = record (solved_with [] []) { output = text t ∷ solution opening_table [] ∷ [] }

abbrev pub creating_finals : Finals
creating_finals = (1, solved_with (creating_word ∷ []) (int (pos 2) ∷ [])) ∷ (2, thread_with (codes "a")) ∷ []

abbrev pub creating_text : Chars
creating_text = codes "?- thread_create(write(a),_).\ntrue.\n% thread 2\na\n"
