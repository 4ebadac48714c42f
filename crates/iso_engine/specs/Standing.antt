-- What an engine stands for.
use Rattle.std.specs.Prelude.{ℕ, List, [], ◌∷◌, Option, Some, None, codes, if◌then◌else◌, pos}
use Rattle.pl_term.specs.Tree.{Chars, Tree, int, comp}
use Rattle.pl_model.specs.Threads.{goal_alias}
use Rattle.pl_model.specs.Resolution.{Limits, Ending, solved, no_more, threw, exited, halted, running, failing, throwing, erasing, clearing, answering, ended, Output, State}
use Rattle.pl_model.specs.Resolution as resolution
use Rattle.pl_model.specs.Database.{Stored}
use Rattle.term_store.specs.NumberedNames.{term_by}
use Rattle.world_api.specs.Texts as worlds
use Rattle.world_api.specs.Visits.{clause_in}
use Rattle.world_api.specs.declared.reply.Found.{Found}
use Rattle.pl_model.specs.History.{Clause}
use Rattle.iso_search.specs.declared.frames.Task.{Task}
use Rattle.iso_search.specs.declared.frames.Task.TheVariants.{Goal}
use Rattle.iso_search.specs.declared.search.Search.{Search}
use Rattle.iso_search.specs.Frames.{tasks}
use Rattle.iso_search.specs.Reading.{View, node_at, reads}
use Rattle.iso_search.specs.Searching.{node_of, state_of}
use Rattle.iso_search.specs.Spelling.{spelled, text_of}
use Rattle.iso_engine.specs.declared.doing.End.{End}
use Rattle.iso_engine.specs.declared.doing.End.TheVariants.{Solved, NoMore, Threw, Halted, Exited}
use Rattle.iso_engine.specs.declared.doing.Doing.{Doing}
use Rattle.iso_engine.specs.declared.doing.Doing.TheVariants.{Running, Failing, Throwing, Erasing, Clearing, Answering, Ended}
use Rattle.iso_engine.specs.declared.doing.Left.{Left}
use Rattle.iso_engine.specs.declared.doing.Left.TheVariants as left
use Rattle.iso_engine.specs.declared.engine.Engine.{Engine}
use Rattle.iso_engine.specs.declared.engine.Stays.{Stays}
use Rattle.iso_engine.specs.declared.engine.Stays.TheVariants.{No, AsMain, AsGoal}

abbrev pub ending_of : View → End → Ending
ending_of v Solved = solved
ending_of v NoMore = no_more
ending_of v (Threw b) = threw (spelled (text_of v.names) b)
ending_of v (Halted k) = halted k
ending_of v (Exited b) = exited (spelled (text_of v.names) b)

-- What retractall/1 has found of the list of the clauses, after the clause with the place, or of all.
abbrev pub left_of : Option ℕ → Option (Found Tree) → Left
left_of a None = left.None
left_of a (Some f) = left.Found a f

abbrev pub left_after : Found Tree → Left
left_after f = if f.more then left.After f.place else left.None

abbrev pub base_of : View → Tree → ℕ → Option ℕ → List (Stored Clause)
base_of v h g None = v.all h g
base_of v h g (Some place) = v.left h g place

-- The first of these clauses, of which the clause itself and its place were told.
abbrev pub first_of : List (Stored Clause) → Stored Clause
first_of [] =
    record {
      place = 0;
      procedure = record { name = []; arity = 0 };
      clause = record { head = int (pos 0); body = int (pos 0); variables = 0 };
      erased = None;
    }
first_of (c ∷ cs) = c

abbrev pub found_in : View → List (Stored Clause) → Found Tree → Stored Clause
found_in v cs f = record (first_of cs) { place = f.place; clause = clause_in (term_by (worlds.text_of v.names) f.clause) }

-- The clauses for the head at the generation that it has not looked at.
abbrev pub left_clauses : View → Tree → ℕ → Left → List (Stored Clause)
left_clauses v h g left.None = []
left_clauses v h g (left.Found a f) = found_in v (base_of v h g a) f ∷ (if f.more then v.left h g f.place else [])
left_clauses v h g (left.After place) = v.left h g place

-- The argument of a goal of retractall/1.
abbrev pub head_of : Tree → Tree
head_of (comp f t ts) = t
head_of t = t

abbrev pub clearing_task : View → Search → Task → List Task → ℕ → Left → resolution.Doing
clearing_task v e (Goal w h) xs g x =
    let head = head_of (reads v e.store w) in clearing head (left_clauses v head g x) (node_at (reads v e.store) xs e.answer.items e.store.used)
clearing_task v e y xs g x = failing

-- What is cleared by the first of these tasks.
abbrev pub clearing_by : View → Search → List Task → ℕ → Left → resolution.Doing
clearing_by v e [] g x = failing
clearing_by v e (y ∷ ys) g x = clearing_task v e y ys g x

abbrev pub doing_of : View → Search → Doing → resolution.Doing
doing_of v e (Running list) = running (node_of v e list)
doing_of v e Failing = failing
doing_of v e (Throwing b outer) = throwing (spelled (text_of v.names) b) (node_of v e outer).goals
doing_of v e (Erasing place list) = erasing place (node_of v e list)
doing_of v e (Clearing list g x) = clearing_by v e (tasks e.frames.items list) g x
doing_of v e Answering = answering
doing_of v e (Ended x) = ended (ending_of v x)

-- The state of a search that does this, where so much was written.
abbrev pub state_at : View → Search → Doing → List Output → State
state_at v e d out = state_of v e (doing_of v e d) out

abbrev pub state_now : View → Engine → List Output → State
state_now v e out = state_at v e.search e.doing out

-- The name of what an engine runs, where thread_exit/1 does not leave it.
abbrev pub staying : Stays → Option Chars
staying No = None
staying AsMain = Some (codes "main")
staying (AsGoal n) = Some (goal_alias n)

-- What an engine is run for: how many solutions are wanted, and whether thread_exit/1 leaves what it runs.
pub record Aims : Type 0 where
  pub wanted : ℕ
  pub stays : Stays

abbrev pub aims_of : Engine → Aims
aims_of e = record { wanted = e.solution_limit; stays = e.stays }

abbrev pub limits_of : Engine → Limits
limits_of e =
    record {
      inferences = e.search.budgets.inferences;
      cells = e.search.budgets.cells;
      choices = e.search.budgets.choices;
      solutions = e.solution_limit;
      stays = staying e.stays;
    }
