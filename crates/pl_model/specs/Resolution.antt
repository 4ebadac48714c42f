-- Resolution (ISO 7.7): the states of the search for the solutions of one goal.
use Rattle.std.specs.Prelude.{ℕ, suc, ◌+◌, ◌-◌, List, [], ◌∷◌, Option, map, length, drop}
use Rattle.pl_term.specs.Tree.{Chars, Tree, Trees}
use Rattle.pl_term.specs.Cells.{cells}
use Rattle.pl_model.specs.OperatorTable.{OperatorTable}
use Rattle.pl_model.specs.Unify.{Bindings, bound}
use Rattle.pl_model.specs.History.{Proc, Clause}
use Rattle.pl_model.specs.Database.{Stored}
use Rattle.pl_model.specs.BuiltinRows.{Answer}
use Rattle.pl_model.specs.Requests.{Request, Reply}

-- The three budgets, of inferences, of cells and of choice points, and the number of solutions that are wanted.
pub record Limits : Type 0 where
  pub inferences : ℕ
  pub cells : ℕ
  pub choices : ℕ
  pub solutions : ℕ
  -- the name of the thread, where it runs the file or a goal of the command: thread_exit/1 cannot leave it
  pub stays : Option Chars

-- What is still to be done at a node. A height is a number of choice points from the oldest one on.
pub data Pending : Type 0 where
  -- a goal is to be run; a cut in it goes back to this height (ISO 7.8.4)
  goal : Tree → ℕ → Pending
  -- the condition of -> or the goal of once/1 has succeeded: its choice points go, down to this height (ISO 7.8.7)
  commit : ℕ → Pending
  -- the goal of \+ has succeeded: its choice points go, down to this height, and \+ fails (ISO 8.15.1)
  refute : ℕ → Pending
  -- the goal of the catch/3 whose choice point stands at this height has succeeded (ISO 7.8.9)
  leave : ℕ → Pending
  -- the goal of the findall/3 whose choice point stands at this height has succeeded: this term is copied (ISO 8.10.1)
  collect : Tree → ℕ → Pending

-- A node of the search tree (ISO 7.7.2): what is still to be done, the next first; the answer so far, as the terms of the
-- goal's variables; and the cells used on the way to the node. All terms are kept as the instances that the bindings made
-- on this way give.
pub record Node : Type 0 where
  pub goals : List Pending
  pub answer : List Tree
  pub used : ℕ

-- What clauses are tried for: to resolve a goal (ISO 7.7.10), for clause/2 (ISO 8.8.1) or for retract/1 (ISO 8.9.3).
pub data Purpose : Type 0 where
  resolving : Purpose
  inspecting : Purpose
  retracting : Purpose

-- A choice point (ISO 7.7.2): what was not tried, with the node after the goal that left it.
pub data Choice : Type 0 where
  -- the clauses that were not tried for this goal, or for this clause-term of clause/2 and retract/1
  clauses : Purpose → Tree → List (Stored Clause) → Node → Choice
  -- the answers of a built-in predicate with these arguments that were not tried
  answers : Proc → Trees → List Answer → Node → Choice
  -- a branch of ;, of -> or of \+ that was not tried (ISO 7.8.6, 7.8.8, 8.15.1)
  branch : Node → Choice
  -- a condition of -> without an else branch, or the goal of once/1, is running (ISO 7.8.7, 8.15.2)
  barrier : Choice
  -- a catch/3 with its catcher and its recovery goal (ISO 7.8.9)
  catch : Tree → Tree → Node → Choice
  -- a running findall/3 with its third argument and the copies collected so far (ISO 8.10.1)
  findall : Tree → List Tree → Node → Choice

-- How the search ends: the wanted solutions were given, there is no further one, nothing caught a ball, the goal left its
-- thread by thread_exit/1, or by halt/1.
pub data Ending : Type 0 where
  solved : Ending
  no_more : Ending
  threw : Tree → Ending
  exited : Tree → Ending
  halted : ℕ → Ending

pub data Doing : Type 0 where
  running : Node → Doing
  -- the goal failed: the newest choice point is to be gone back to (ISO 7.7.8)
  failing : Doing
  -- a ball looks for an active catch: one whose exit stands among these (ISO 7.8.10)
  throwing : Tree → List Pending → Doing
  -- retract/1 has unified with the clause that was added at this place, which is to be erased (ISO 8.9.3)
  erasing : ℕ → Node → Doing
  -- retractall/1 of this head has these clauses still to look at (ISO Cor.2 8.9.5)
  clearing : Tree → List (Stored Clause) → Node → Doing
  -- a solution was found
  answering : Doing
  ended : Ending → Doing

-- What the goal writes, and its solutions as the terms of its variables, with the operators under which they are written.
pub data Output : Type 0 where
  text : Chars → Output
  solution : OperatorTable → List Tree → Output

pub record State : Type 0 where
  pub doing : Doing
  -- the choice points, the newest first
  pub choices : List Choice
  -- the next number of a variable
  pub next : ℕ
  -- the inferences made
  pub inferences : ℕ
  -- in the order in which it was written
  pub output : List Output

-- A step leads to a next state, or is a request to the shared state whose reply leads to one. Nothing follows an end.
pub data Next : Type 0 where
  goes : State → Next
  asks : Request → (Reply → State) → Next
  stops : Ending → Next

-- The choice points up to a height.
abbrev pub up_to : ℕ → List Choice → List Choice
up_to h cs = drop (length cs - h) cs

-- Instances

abbrev pub pending_instance : Bindings → Pending → Pending
pending_instance bs (goal t h) = goal (bound bs t) h
pending_instance bs (commit h) = commit h
pending_instance bs (refute h) = refute h
pending_instance bs (leave h) = leave h
pending_instance bs (collect t h) = collect (bound bs t) h

-- The instance of a node that bindings give.
abbrev pub node_instance : Bindings → Node → Node
node_instance bs n =
    record {
      goals = map (pending_instance bs) n.goals;
      answer = map (bound bs) n.answer;
      used = n.used;
    }

-- Cells

abbrev pub sum_of_cells : List Tree → ℕ
sum_of_cells [] = 0
sum_of_cells (t ∷ ts) = cells t + sum_of_cells ts

-- The cells of the copies that running calls of findall/3 have collected.
abbrev pub collected_cells : List Choice → ℕ
collected_cells [] = 0
collected_cells (c ∷ cs) = elim c [ findall l ts n ↦ sum_of_cells ts + collected_cells cs | _ ↦ collected_cells cs ]

-- Solutions

abbrev pub solution_count : List Output → ℕ
solution_count [] = 0
solution_count (x ∷ xs) = elim x [ text t ↦ solution_count xs | solution ops ts ↦ suc (solution_count xs) ]
