-- Executing Prolog text (ISO 7.4): what an engine does from its beginning to its end. The first engine takes up the items of
-- the file, then starts the further goals of the command, then runs the first goal; any other engine runs the goal that
-- it was started with.
use Rattle.std.specs.Prelude.{ℕ, zero, suc, ◌-◌, List, [], ◌∷◌, ◌++◌, map, length, Option, Some, None, Result, Ok, Err, bytes_eq, codes, if◌then◌else◌, ◌==◌, nat_lt, encode_utf8_all}
use Rattle.pl_term.specs.Tree.{Chars, Tree, comp, none}
use Rattle.pl_term.specs.Variables.{rename}
use Rattle.pl_model.specs.declared.grammar.Quotes.{Quotes}
use Rattle.pl_model.specs.declared.syntax.SyntaxKind.{SyntaxKind}
use Rattle.pl_model.specs.declared.syntax.SyntaxKind.TheVariants.{OpenQuote, OpenComment, AfterEnd, UnexpectedEnd}
use Rattle.pl_model.specs.OperatorTable.{OperatorTable}
use Rattle.pl_model.specs.Grammar.{Item, clause, fault, end_of_text}
use Rattle.pl_model.specs.TermGrammar.{item_of}
use Rattle.pl_model.specs.Skipping.{skip}
use Rattle.pl_model.specs.History.{Clause}
use Rattle.pl_model.specs.Balls.{error_ball}
use Rattle.pl_model.specs.BodyChecks.{clause_of_term}
use Rattle.pl_model.specs.Requests.{Request, look, consult_clause, start_goal, Reply, standing, done, refused}
use Rattle.pl_model.specs.Resolution.{Limits, Ending, solved, no_more, threw, exited, halted, Output, text, solution, State, Next, goes, asks, stops}
use Rattle.pl_model.specs.Control.{step, start, consult_proc}

-- What an engine has to do: to consult a file with these bytes and run the goals of these words, or to run a goal. The
-- limits are those of its goal; a directive has the same budgets, and one solution is wanted of it.
pub data Script : Type 0 where
  consults : List ℕ → List Chars → Script
  runs : Tree → Script

pub record Job : Type 0 where
  pub script : Script
  pub limits : Limits

-- A goal word as it was read: a goal with its named variables, or the first fault.
pub data Word : Type 0 where
  goal_word : Tree → List (Chars × ℕ) → Word
  faulty_word : SyntaxKind → ℕ → Word

-- What is written of the file: output of its directives, and a fault of an item with its place. A ball is one for which a
-- clause was refused or with which a directive ended, and is written under these operators.
pub data Consulted : Type 0 where
  wrote : Chars → Consulted
  too_large : Consulted
  syntax_fault : SyntaxKind → ℕ → Consulted
  ball_of_item : OperatorTable → ℕ → Tree → Consulted
  directive_failed : ℕ → Consulted
  directive_halted : ℕ → ℕ → Consulted

-- Where consulting goes on: at a place of the file, or with the goals of initialization/1 after its end.
pub data Rest : Type 0 where
  items_from : ℕ → Rest
  initialization : Rest

pub data Activity : Type 0 where
  -- the item of the file at this place is to be taken up
  taking : ℕ → Activity
  -- the clause of the item between these places, read under these operators, is to be added
  adding : OperatorTable → ℕ → ℕ → Clause → Activity
  -- the directive of the item at this place is run
  directing : ℕ → Rest → State → Activity
  -- it has ended so
  reporting : ℕ → Rest → Ending → Activity
  -- the next goal of initialization/1 is to be run
  initializing : Activity
  -- the goal words are to be read
  reading : Activity
  -- these goals are to be started as engines of their own, each with its number
  starting : OperatorTable → List (ℕ × Tree) → Activity
  -- the goal that the engine was started with is to be taken up
  beginning : Tree → Activity
  searching : State → Activity
  -- the engine has ended
  over : Ending → Activity

-- A goal of the command whose engine could not be started, and the error for it.
pub record Refusal : Type 0 where
  pub number : ℕ
  pub ball : Tree
  -- under which the ball is written: those of the words
  pub operators : OperatorTable

pub record Execution : Type 0 where
  pub activity : Activity
  pub consulted : List Consulted
  -- the goals of initialization/1 that were not run yet, with the places of their items
  pub later : List (ℕ × Tree)
  -- the goal words, once they are read
  pub words : List Word
  pub refusals : List Refusal
  -- what the engine's goal has written, once it has ended
  pub output : List Output

-- A move leads to a next state, or is a request to the shared state whose reply leads to one. Nothing follows an end.
pub data Move : Type 0 where
  moves : Execution → Move
  requests : Request → (Reply → Execution) → Move
  ends : Ending → Move

-- A file has at most 16 MiB.
abbrev pub most_bytes : ℕ
most_bytes = 16777216

abbrev pub at_activity : Activity → Execution
at_activity a = record { activity = a; consulted = []; later = []; words = []; refusals = []; output = [] }

abbrev pub first_execution : Script → Execution
first_execution (consults bytes words) =
    if nat_lt most_bytes (length bytes)
    then record (at_activity initializing) { consulted = too_large ∷ [] }
    else at_activity (taking zero)
first_execution (runs t) = at_activity (beginning t)

abbrev pub at_start : Job → Execution
at_start job = first_execution job.script

abbrev pub bytes_in : Script → List ℕ
bytes_in (consults bytes words) = bytes
bytes_in (runs t) = []

abbrev pub words_in : Script → List Chars
words_in (consults bytes words) = words
words_in (runs t) = []

abbrev pub directive_limits : Job → Limits
directive_limits job = record job.limits { solutions = 1 }

-- Items (ISO 7.4.2, 7.4.3)

abbrev pub gone_on : Execution → Rest → Execution
gone_on x (items_from at) = record x { activity = taking at }
gone_on x initialization = record x { activity = initializing }

abbrev pub with_line : Execution → Consulted → Execution
with_line x c = record x { consulted = x.consulted ++ c ∷ [] }

-- The goal of a directive.
abbrev pub directive_of : Tree → Option Tree
directive_of (comp f t none) = if bytes_eq f (codes ":-") then Some t else (if bytes_eq f (codes "?-") then Some t else None)
directive_of t = None

-- The goal G of a directive initialization(G) (ISO 7.4.2.6).
abbrev pub initialization_of : Tree → Option Tree
initialization_of (comp f t none) = if bytes_eq f (codes "initialization") then Some t else None
initialization_of t = None

abbrev pub with_clause : Execution → OperatorTable → ℕ → ℕ → Result Clause Tree → Execution
with_clause x ops start next (Ok c) = record x { activity = adding ops start next c }
with_clause x ops start next (Err e) =
    gone_on (with_line x (ball_of_item ops start (error_ball e consult_proc))) (items_from next)

abbrev pub with_goal : Job → Execution → ℕ → ℕ → Tree → Option Tree → Execution
with_goal job x place next t (Some g) = record x { activity = taking next; later = x.later ++ (place, g) ∷ [] }
with_goal job x place next t None =
    record x { activity = directing place (items_from next) (start (directive_limits job) t) }

abbrev pub with_term : Job → Execution → OperatorTable → ℕ → ℕ → Tree → Option Tree → Execution
with_term job x ops place next t None = with_clause x ops place next (clause_of_term t)
with_term job x ops place next t (Some g) = with_goal job x place next g (initialization_of g)

-- Reading goes on after the next end token, unless a quoted text or a comment stays open.
abbrev pub behind_fault : List ℕ → ℕ → SyntaxKind → Rest
behind_fault bytes at OpenQuote = initialization
behind_fault bytes at OpenComment = initialization
behind_fault bytes at kind = items_from (skip bytes at)

abbrev pub with_item : Job → Execution → OperatorTable → ℕ → Item → Execution
with_item job x ops at (clause t names place next) = with_term job x ops place next t (directive_of t)
with_item job x ops at (fault kind place) =
    gone_on (with_line x (syntax_fault kind place)) (behind_fault (bytes_in job.script) at kind)
with_item job x ops at end_of_text = gone_on x initialization

abbrev pub item_taken : Job → Execution → ℕ → Reply → Execution
item_taken job x at (standing ops quotes) = with_item job x ops at (item_of (bytes_in job.script) at ops quotes)
item_taken job x at _ = x

abbrev pub clause_added : Execution → OperatorTable → ℕ → ℕ → Reply → Execution
clause_added x ops place next done = gone_on x (items_from next)
clause_added x ops place next (refused e) =
    gone_on (with_line x (ball_of_item ops place (error_ball e consult_proc))) (items_from next)
clause_added x ops place next _ = x

-- Directives

abbrev pub texts_of : List Output → List Consulted
texts_of [] = []
texts_of (o ∷ os) = elim o [ text t ↦ wrote t ∷ texts_of os | solution ops ts ↦ texts_of os ]

abbrev pub directed : Execution → ℕ → Rest → State → Next → Move
directed x place rest s (goes s') = moves (record x { activity = directing place rest s' })
directed x place rest s (asks q next) = requests q (λ r. record x { activity = directing place rest (next r) })
directed x place rest s (stops how) =
    moves (record x { activity = reporting place rest how; consulted = x.consulted ++ texts_of s.output })

abbrev pub reported : Execution → ℕ → Rest → Ending → OperatorTable → Execution
reported x place rest solved ops = gone_on x rest
reported x place rest no_more ops = gone_on (with_line x (directive_failed place)) rest
reported x place rest (threw b) ops = gone_on (with_line x (ball_of_item ops place b)) rest
reported x place rest (exited t) ops = gone_on x rest
reported x place rest (halted n) ops = record (with_line x (directive_halted place n)) { activity = over (halted n) }

abbrev pub directive_ended : Execution → ℕ → Rest → Ending → Reply → Execution
directive_ended x place rest how (standing ops quotes) = reported x place rest how ops
directive_ended x place rest how _ = x

abbrev pub next_initialization : Job → Execution → List (ℕ × Tree) → Execution
next_initialization job x [] = record x { activity = reading }
next_initialization job x (g ∷ gs) =
    record x { activity = directing g.0 initialization (start (directive_limits job) (rename zero g.1)); later = gs }

-- Goals

-- The word of a goal is read with an end token added, and has to be one term up to it.
abbrev pub goal_text : Chars → List ℕ
goal_text word = encode_utf8_all word ++ codes " ."

abbrev pub word_of_item : ℕ → Item → Word
word_of_item size (clause t names place next) =
    if next == size then goal_word t names else faulty_word AfterEnd (next - 1)
word_of_item size (fault kind at) = faulty_word kind at
word_of_item size end_of_text = faulty_word UnexpectedEnd size

abbrev pub word_read : OperatorTable → Quotes → Chars → Word
word_read ops quotes w = word_of_item (length (goal_text w)) (item_of (goal_text w) zero ops quotes)

-- The goals among these words, the first of which has this number.
abbrev pub numbered_goals : ℕ → List Word → List (ℕ × Tree)
numbered_goals n [] = []
numbered_goals n (w ∷ ws) =
    elim w [ goal_word t names ↦ (n, t) ∷ numbered_goals (suc n) ws | faulty_word kind at ↦ numbered_goals (suc n) ws ]

abbrev pub further_goals : List Word → List (ℕ × Tree)
further_goals [] = []
further_goals (w ∷ ws) = numbered_goals 2 ws

abbrev pub words_taken : Job → Execution → Reply → Execution
words_taken job x (standing ops quotes) =
    let ws = map (word_read ops quotes) (words_in job.script)
    in record x { activity = starting ops (further_goals ws); words = ws }
words_taken job x _ = x

-- The first goal is run by the first engine itself, which ends where there is none.
abbrev pub first_activity : Job → List Word → Activity
first_activity job [] = over solved
first_activity job (w ∷ ws) =
    elim w [ goal_word t names ↦ searching (start job.limits t) | faulty_word kind at ↦ over solved ]

abbrev pub refusal : ℕ → Tree → OperatorTable → Refusal
refusal n e ops = record { number = n; ball = error_ball e consult_proc; operators = ops }

abbrev pub goal_started : Execution → OperatorTable → ℕ → List (ℕ × Tree) → Reply → Execution
goal_started x ops n gs (refused e) =
    record x { activity = starting ops gs; refusals = x.refusals ++ refusal n e ops ∷ [] }
goal_started x ops n gs _ = record x { activity = starting ops gs }

abbrev pub next_start : Job → Execution → OperatorTable → List (ℕ × Tree) → Move
next_start job x ops [] = moves (record x { activity = first_activity job x.words })
next_start job x ops (g ∷ gs) = requests (start_goal g.0 g.1) (goal_started x ops g.0 gs)

abbrev pub searched : Execution → State → Next → Move
searched x s (goes s') = moves (record x { activity = searching s' })
searched x s (asks q next) = requests q (λ r. record x { activity = searching (next r) })
searched x s (stops how) = moves (record x { activity = over how; output = s.output })

-- Moves

abbrev pub move_by : Job → Execution → Activity → Move
move_by job x (taking at) = requests look (item_taken job x at)
move_by job x (adding ops place next c) = requests (consult_clause c) (clause_added x ops place next)
move_by job x (directing place rest s) = directed x place rest s (step (directive_limits job) s)
move_by job x (reporting place rest how) = requests look (directive_ended x place rest how)
move_by job x initializing = moves (next_initialization job x x.later)
move_by job x reading = requests look (words_taken job x)
move_by job x (starting ops gs) = next_start job x ops gs
move_by job x (beginning t) = requests look (λ r. record x { activity = searching (start job.limits t) })
move_by job x (searching s) = searched x s (step job.limits s)
move_by job x (over how) = ends how

unfoldable pub move : Job → Execution → Move
move job x = move_by job x x.activity
