-- The steps of resolution (ISO 7.7, 7.8). What a step costs and checks comes in this order: the inference, the arguments,
-- the body that is to be called, the request to the shared state, the choice point, the numbers of new variables, and the
-- cells. The first that fails raises its error.
use Rattle.std.specs.Prelude.{ℕ, ℤ, suc, ◌+◌, ◌^◌, pos, negsuc, List, [], ◌∷◌, ◌++◌, map, length, Bool, true, false, Option, Some, None, Result, Ok, Err, bytes_eq, codes, if◌then◌else◌, ◌==◌, ◌&&◌, ◌||◌, is_some, nat_le, nat_lt}
use Rattle.pl_term.specs.Tree.{Chars, Tree, Trees, var, int, atom, comp, none, more, count}
use Rattle.pl_term.specs.Variables.{variables, rename}
use Rattle.pl_term.specs.Cells.{cells}
use Rattle.pl_model.specs.OperatorTable.{OperatorTable}
use Rattle.pl_model.specs.Unify.{Bindings, bound, unify, solve_all}
use Rattle.pl_model.specs.TermWriting.{write, writeq, write_canonical}
use Rattle.pl_model.specs.History.{Proc, proc, Clause, head_part, body_part}
use Rattle.pl_model.specs.Predicates.{proc_of}
use Rattle.pl_model.specs.Database.{Stored}
use Rattle.pl_model.specs.Terms.{is_variable, arguments, extended, list_term, is_list_or_partial, variable_count, raised_by, clause_cells}
use Rattle.pl_model.specs.Balls.{error_ball, instantiation_error, type_error, no_inferences, no_cells, no_choices}
use Rattle.pl_model.specs.ErrorTerms.{domain_error, permission_error}
use Rattle.pl_model.specs.Checks.{first_error, bound_error, callable_error, text_of_atom}
use Rattle.pl_model.specs.AtomBuiltins.{character_error}
use Rattle.pl_model.specs.BodyChecks.{if_callable, body_of, called_goal, rule, clause_of_term}
use Rattle.pl_model.specs.BuiltinRows.{Answer, Row, gives, table, error, unifying}
use Rattle.pl_model.specs.Builtins.{row}
use Rattle.pl_model.specs.SharedBuiltins.{Shared, gives_row, asks_for, shared}
use Rattle.pl_model.specs.Requests.{look, call_clauses, inspected_clauses, retracted_clauses, cleared_clauses, erase_clause, read_operators, Reply, standing, listed, done, gone, refused}
use Rattle.pl_model.specs.Resolution.{Limits, Pending, goal, commit, refute, leave, collect, Node, Purpose, resolving, inspecting, retracting, Choice, clauses, answers, branch, barrier, catch, findall, solved, no_more, threw, exited, halted, Doing, running, failing, throwing, erasing, clearing, answering, ended, text, solution, State, Next, goes, asks, stops, up_to, node_instance, collected_cells, solution_count}

-- Errors and costs

-- The predicate raises an error (ISO 7.12); what is still to be done at the node holds the exits of the active catches.
abbrev pub raised : State → Node → Tree → Proc → State
raised s n e p = record s { doing = throwing (error_ball e p) n.goals }

-- One inference is made.
abbrev pub costing : Limits → State → Node → Tree → (State → Next) → Next
costing l s n t next =
    if nat_lt s.inferences l.inferences
    then next (record s { inferences = suc s.inferences })
    else goes (raised s n no_inferences (proc_of t))

-- Whether so many cells more fit beside those that are used.
abbrev pub fits : Limits → State → Node → ℕ → Bool
fits l s n need = nat_le (n.used + collected_cells s.choices + need) l.cells

-- Numbers for so many new variables, and so many cells, are taken. The last number is 2^64 - 1.
abbrev pub taking : Limits → State → Node → Proc → ℕ → ℕ → (State → Node → State) → State
taking l s n p new need next =
    if nat_lt (s.next + new) (2 ^ 64)
    then
    (if fits l s n need
    then next (record s { next = s.next + new }) (record n { used = n.used + need })
    else raised s n no_cells p)
    else raised s n no_inferences p

-- These are to be done at the node first.
abbrev pub before : List Pending → Node → Node
before ps n = record n { goals = ps ++ n.goals }

abbrev pub run_on : State → Node → State
run_on s n = record s { doing = running n }

abbrev pub failed : State → State
failed s = record s { doing = failing }

-- A choice point is made, and what is then done first depends on its height.
abbrev pub over : Limits → State → Node → Proc → Choice → (ℕ → List Pending) → State
over l s n p c first =
    if nat_lt (length s.choices) l.choices
    then record s { choices = c ∷ s.choices; doing = running (before (first (length s.choices)) n) }
    else raised s n no_choices p

-- The goal that passed its checks, or the error.
abbrev pub checked : State → Node → Proc → Result Tree Tree → (Tree → State) → State
checked s n p (Ok t) next = next t
checked s n p (Err e) next = raised s n e p

-- The node with the bindings of a unification, or failure.
abbrev pub unified : State → Node → Option Bindings → State
unified s n None = failed s
unified s n (Some bs) = run_on s (node_instance bs n)

-- Clauses (ISO 7.7.10, 8.8.1, 8.9.3)

-- What is unified with a clause, and the predicate that it is tried for.
abbrev pub pattern : Purpose → Clause → Tree
pattern resolving c = c.head
pattern inspecting c = rule c.head c.body
pattern retracting c = rule c.head c.body

abbrev pub tried_by : Purpose → Tree → Proc
tried_by resolving t = proc_of t
tried_by inspecting t = proc (codes "clause") 2
tried_by retracting t = proc (codes "retract") 1

-- The head was unified: the body is run, where a cut goes back to the height `h`; the clause was looked at; or it is erased.
abbrev pub clause_unified : Purpose → State → Node → ℕ → ℕ → Tree → Option Bindings → State
clause_unified p s n h place body None = failed s
clause_unified resolving s n h place body (Some bs) = run_on s (node_instance bs (before (goal body h ∷ []) n))
clause_unified inspecting s n h place body (Some bs) = run_on s (node_instance bs n)
clause_unified retracting s n h place body (Some bs) = record s { doing = erasing place (node_instance bs n) }

-- A clause is tried: a copy of it with new variables is unified with the goal.
abbrev pub tried : Limits → Purpose → State → Tree → Node → ℕ → Stored Clause → State
tried l p s t n h c =
    taking l s n (tried_by p t) c.clause.variables (clause_cells c.clause)
    (λ s' n'. clause_unified p s' n' h c.place (raised_by s.next c.clause.body) (unify t (raised_by s.next (pattern p c.clause))))

-- The clauses are tried in their order. Those after the first one are a choice point; the last one leaves none.
unfoldable pub next_clause : Limits → Purpose → State → Tree → Node → List (Stored Clause) → State
next_clause l p s t n [] = failed s
next_clause l p s t n (c ∷ []) = tried l p s t n (length s.choices) c
next_clause l p s t n (c ∷ (d ∷ ds)) =
    tried l p (record s { choices = clauses p t (d ∷ ds) n ∷ s.choices }) t n (length s.choices) c

abbrev pub several : {A : Type 0} → List A → Bool
several [] = false
several (x ∷ []) = false
several (x ∷ (y ∷ ys)) = true

abbrev pub first_clause : Limits → Purpose → State → Tree → Node → List (Stored Clause) → State
first_clause l p s t n cs =
    if several cs && nat_le l.choices (length s.choices)
    then raised s n no_choices (tried_by p t)
    else next_clause l p s t n cs

-- What the shared state lists or refuses.
abbrev pub with_clauses : Limits → Purpose → State → Tree → Node → Reply → State
with_clauses l p s t n (listed cs) = first_clause l p s t n cs
with_clauses l p s t n (refused e) = raised s n e (tried_by p t)
with_clauses l p s t n _ = s

-- Built-in predicates

-- An answer is tried: its terms are unified with the arguments.
abbrev pub answer_tried : Limits → State → Node → Proc → Trees → Answer → State
answer_tried l s n p ts a =
    taking l s n p a.fresh a.made (λ s' n'. unified s' n' (solve_all [] ts a.terms))

abbrev pub next_answer : Limits → State → Node → Proc → Trees → List Answer → State
next_answer l s n p ts [] = failed s
next_answer l s n p ts (a ∷ []) = answer_tried l s n p ts a
next_answer l s n p ts (a ∷ (b ∷ bs)) =
    answer_tried l (record s { choices = answers p ts (b ∷ bs) n ∷ s.choices }) n p ts a

abbrev pub first_answer : Limits → State → Node → Proc → Trees → List Answer → State
first_answer l s n p ts xs =
    if several xs && nat_le l.choices (length s.choices) then raised s n no_choices p else next_answer l s n p ts xs

unfoldable pub with_row : Limits → State → Node → Proc → Trees → Row → State
with_row l s n p ts (gives xs) = first_answer l s n p ts xs
with_row l s n p ts (table xs) = first_answer l s n p ts (unifying ts xs)
with_row l s n p ts (error e) = raised s n e p

-- Goals by their names and the number of their arguments (ISO 7.8, 8.10, 8.14, 8.15, 8.17).
pub data Construct : Type 0 where
  succeeds : Construct
  cuts : Construct
  conjunction : Tree → Tree → Construct
  disjunction : Tree → Tree → Construct
  if_then : Tree → Tree → Construct
  if_then_else : Tree → Tree → Tree → Construct
  fails : Construct
  repeats : Construct
  calls : Tree → Trees → Construct
  not_provable : Tree → Construct
  once : Tree → Construct
  catches : Tree → Tree → Tree → Construct
  throws : Tree → Construct
  finds_all : Tree → Tree → Tree → Construct
  halts : Tree → Construct
  exits : Tree → Construct
  -- clause/2, retract/1 and retractall/1
  inspects : Tree → Tree → Construct
  retracts : Tree → Construct
  clears : Tree → Construct
  -- writes the text that the operators give
  writes : (OperatorTable → Chars) → Construct
  -- writes a text
  prints : Chars → Construct
  -- put_char/1
  puts : Tree → Construct
  -- a built-in predicate, or a call of the program's clauses
  other : Construct

abbrev pub construct_of_none : Chars → Construct
construct_of_none f =
    if bytes_eq f (codes "true") then succeeds else
    if bytes_eq f (codes "!") then cuts else
    if bytes_eq f (codes "fail") || bytes_eq f (codes "false") then fails else
    if bytes_eq f (codes "repeat") then repeats else
    if bytes_eq f (codes "halt") then halts (int (pos 0)) else
    if bytes_eq f (codes "nl") then prints (10 ∷ []) else other

abbrev pub construct_of_one : Chars → Tree → Construct
construct_of_one f t =
    if bytes_eq f (codes "\\+") then not_provable t else
    if bytes_eq f (codes "once") then once t else
    if bytes_eq f (codes "throw") then throws t else
    if bytes_eq f (codes "halt") then halts t else
    if bytes_eq f (codes "thread_exit") then exits t else
    if bytes_eq f (codes "retract") then retracts t else
    if bytes_eq f (codes "retractall") then clears t else
    if bytes_eq f (codes "write") then writes (λ ops. write ops 1200 t) else
    if bytes_eq f (codes "writeq") || bytes_eq f (codes "print") then writes (λ ops. writeq ops 1200 t) else
    if bytes_eq f (codes "put_char") then puts t else
    if bytes_eq f (codes "write_canonical") then prints (write_canonical t) else other

-- A condition with a branch for its failure (ISO 7.8.8), or two alternatives (ISO 7.8.6).
abbrev pub or_else : Tree → Tree → Construct
or_else (comp f c (more t none)) u = if bytes_eq f (codes "->") then if_then_else c t u else disjunction (comp f c (more t none)) u
or_else t u = disjunction t u

abbrev pub construct_of_two : Chars → Tree → Tree → Construct
construct_of_two f t u =
    if bytes_eq f (codes ",") then conjunction t u else
    if bytes_eq f (codes ";") then or_else t u else
    if bytes_eq f (codes "->") then if_then t u else
    if bytes_eq f (codes "clause") then inspects t u else other

abbrev pub construct_of_three : Chars → Tree → Tree → Tree → Construct
construct_of_three f t u v =
    if bytes_eq f (codes "catch") then catches t u v else
    if bytes_eq f (codes "findall") then finds_all t u v else other

abbrev pub construct_by_count : Chars → Tree → Trees → Construct
construct_by_count f t none = construct_of_one f t
construct_by_count f t (more u none) = construct_of_two f t u
construct_by_count f t (more u (more v none)) = construct_of_three f t u v
construct_by_count f t ts = other

-- call/1 to call/8 (ISO 7.8.3, Cor.2 8.15.4)
unfoldable pub construct : Tree → Construct
construct (var x) = other
construct (int i) = other
construct (atom a) = construct_of_none a
construct (comp f t ts) =
    if bytes_eq f (codes "call") && nat_le (count ts) 7 then calls t ts else construct_by_count f t ts

-- The name of a goal.
abbrev pub name_of : Tree → Chars
name_of t = (proc_of t).name

-- Control constructs that make an inference

-- The cells of the compound term that call/2 to call/8 make.
abbrev pub extension_cells : Tree → Trees → ℕ
extension_cells t none = 0
extension_cells t (more u us) = suc (count (arguments (extended t (more u us))))

-- A cut in the goal is local to it.
abbrev pub with_call : Limits → State → Node → Tree → Tree → Trees → State
with_call l s n g t ts =
    checked s n (proc_of g) (if_callable t (body_of (extended t ts)))
    (λ body. taking l s n (proc_of g) 0 (extension_cells t ts) (λ s' n'. run_on s' (before (goal body (length s.choices) ∷ []) n')))

abbrev pub with_negation : Limits → State → Node → Tree → Tree → State
with_negation l s n g t =
    checked s n (proc_of g) (called_goal t)
    (λ body. over l s n (proc_of g) (branch n) (λ h. goal body (suc h) ∷ refute h ∷ []))

abbrev pub with_once : Limits → State → Node → Tree → Tree → State
with_once l s n g t =
    checked s n (proc_of g) (called_goal t)
    (λ body. over l s n (proc_of g) barrier (λ h. goal body (suc h) ∷ commit h ∷ []))

abbrev pub with_catch : Limits → State → Node → Tree → Tree → Tree → Tree → State
with_catch l s n g t catcher recovery =
    checked s n (proc_of g) (called_goal t)
    (λ body. over l s n (proc_of g) (catch catcher recovery n) (λ h. goal body (suc h) ∷ leave h ∷ []))

abbrev pub with_findall : Limits → State → Node → Tree → Tree → Tree → Tree → State
with_findall l s n g template t list =
    checked s n (proc_of g) (if_callable t (if is_list_or_partial list then body_of t else Err (type_error (codes "list") list)))
    (λ body. over l s n (proc_of g) (findall list [] n) (λ h. goal body (suc h) ∷ collect template h ∷ []))

-- ISO 7.8.10
abbrev pub with_throw : State → Node → Tree → Tree → State
with_throw s n g t =
    if is_variable t then raised s n instantiation_error (proc_of g) else record s { doing = throwing t n.goals }

-- ISO 8.17.4. The exit status 255 is that of out of memory alone.
abbrev pub status_error : ℤ → Tree
status_error i = domain_error (codes "exit_status") (int i)

abbrev pub with_status : State → Node → Tree → Tree → State
with_status s n g (var x) = raised s n instantiation_error (proc_of g)
with_status s n g (int (pos k)) =
    if nat_le k 254 then record s { doing = ended (halted k) } else raised s n (status_error (pos k)) (proc_of g)
with_status s n g (int (negsuc k)) = raised s n (status_error (negsuc k)) (proc_of g)
with_status s n g t = raised s n (type_error (codes "integer") t) (proc_of g)

abbrev pub with_text : State → Node → Chars → State
with_text s n t = record s { output = s.output ++ text t ∷ []; doing = running n }

abbrev pub with_operators : State → Node → (OperatorTable → Chars) → Reply → State
with_operators s n t (standing ops quotes) = with_text s n (t ops)
with_operators s n t _ = s

-- thread_exit/1 (SWI-Prolog manual): a thread that runs the file or a goal of the command is not left.
abbrev pub with_exit : Limits → State → Node → Tree → Tree → State
with_exit l s n g t =
    elim l.stays [
      | None ↦ record s { doing = ended (exited t) }
      | Some name ↦ raised s n (permission_error (codes "exit") (codes "thread") (atom name)) (proc_of g)
    ]

-- put_char/1 (ISO 8.12.3)
abbrev pub with_character : State → Node → Tree → Tree → Option Tree → State
with_character s n g t (Some e) = raised s n e (proc_of g)
with_character s n g t None = with_text s n (text_of_atom t)

-- The request, unless the arguments are refused.
abbrev pub unless : State → Node → Tree → Option Tree → Next → Next
unless s n g None next = next
unless s n g (Some e) next = goes (raised s n e (proc_of g))

-- clause/2 (ISO 8.8.1)
abbrev pub with_inspection : Limits → State → Node → Tree → Tree → Tree → Next
with_inspection l s n g h b =
    unless s n g (first_error (bound_error h ∷ callable_error h ∷ callable_error b ∷ []))
    (asks (inspected_clauses h) (with_clauses l inspecting s (rule h b) n))

-- retract/1 (ISO 8.9.3) checks its clause-term as assertz/1 does.
abbrev pub error_of : {A : Type 0} → Result A Tree → Option Tree
error_of (Ok a) = None
error_of (Err e) = Some e

abbrev pub with_retraction : Limits → State → Node → Tree → Tree → Next
with_retraction l s n g t =
    unless s n g (error_of (clause_of_term t))
    (asks (retracted_clauses (head_part t)) (with_clauses l retracting s (rule (head_part t) (body_part t)) n))

-- retractall/1 (ISO Cor.2 8.9.5)
abbrev pub to_clear : State → Node → Tree → Reply → State
to_clear s n h (listed cs) = record s { doing = clearing h cs n }
to_clear s n h (refused e) = raised s n e (proc (codes "retractall") 1)
to_clear s n h _ = s

abbrev pub with_clearing : State → Node → Tree → Tree → Next
with_clearing s n g h =
    unless s n g (first_error (bound_error h ∷ callable_error h ∷ [])) (asks (cleared_clauses h) (to_clear s n h))

-- A predicate of the shared state, or else a call of the program's clauses (ISO 7.7.10).
abbrev pub with_shared : Limits → State → Node → Tree → Option Shared → Next
with_shared l s n g (Some (gives_row r)) = goes (with_row l s n (proc_of g) (arguments g) r)
with_shared l s n g (Some (asks_for q r)) =
    asks q (λ reply. with_row l s n (proc_of g) (arguments g) (r reply s.next))
with_shared l s n g None = asks (call_clauses g) (with_clauses l resolving s g n)

-- A built-in predicate of its own arguments alone comes first.
abbrev pub with_other : Limits → State → Node → Tree → Option Row → Next
with_other l s n g (Some r) = goes (with_row l s n (proc_of g) (arguments g) r)
with_other l s n g None = with_shared l s n g (shared (name_of g) (arguments g))

-- A goal is taken up at the node after it; a cut in it goes back to the height `h`.
unfoldable pub take_up : Limits → State → Node → Tree → ℕ → Construct → Next
take_up l s n g h succeeds = goes (run_on s n)
take_up l s n g h cuts = goes (record s { choices = up_to h s.choices; doing = running n })
take_up l s n g h (conjunction t u) = goes (run_on s (before (goal t h ∷ goal u h ∷ []) n))
take_up l s n g h (disjunction t u) = goes (over l s n (proc_of g) (branch (before (goal u h ∷ []) n)) (λ k. goal t h ∷ []))
take_up l s n g h (if_then_else c t u) =
    goes (over l s n (proc_of g) (branch (before (goal u h ∷ []) n)) (λ k. goal c (suc k) ∷ commit k ∷ goal t h ∷ []))
take_up l s n g h (if_then c t) = goes (over l s n (proc_of g) barrier (λ k. goal c (suc k) ∷ commit k ∷ goal t h ∷ []))
take_up l s n g h fails = costing l s n g (λ s. goes (failed s))
take_up l s n g h repeats =
    costing l s n g (λ s. goes (over l s n (proc_of g) (branch (before (goal g (length s.choices) ∷ []) n)) (λ k. [])))
take_up l s n g h (calls t ts) = costing l s n g (λ s. goes (with_call l s n g t ts))
take_up l s n g h (not_provable t) = costing l s n g (λ s. goes (with_negation l s n g t))
take_up l s n g h (once t) = costing l s n g (λ s. goes (with_once l s n g t))
take_up l s n g h (catches t c r) = costing l s n g (λ s. goes (with_catch l s n g t c r))
take_up l s n g h (throws t) = costing l s n g (λ s. goes (with_throw s n g t))
take_up l s n g h (finds_all x t list) = costing l s n g (λ s. goes (with_findall l s n g x t list))
take_up l s n g h (halts t) = costing l s n g (λ s. goes (with_status s n g t))
take_up l s n g h (exits t) = costing l s n g (λ s. goes (with_exit l s n g t))
take_up l s n g h (inspects t b) = costing l s n g (λ s. with_inspection l s n g t b)
take_up l s n g h (retracts t) = costing l s n g (λ s. with_retraction l s n g t)
take_up l s n g h (clears t) = costing l s n g (λ s. with_clearing s n g t)
take_up l s n g h (writes t) = costing l s n g (λ s. asks read_operators (with_operators s n t))
take_up l s n g h (puts t) = costing l s n g (λ s. goes (with_character s n g t (character_error t)))
take_up l s n g h (prints t) = costing l s n g (λ s. goes (with_text s n t))
take_up l s n g h other = costing l s n g (λ s. with_other l s n g (row (name_of g) (arguments g) s.next))

-- findall/3 (ISO 8.10.1)

abbrev pub findall_proc : Proc
findall_proc = proc (codes "findall") 3

-- The copy joins those of the choice point at this height.
abbrev pub copied_into : Tree → Choice → Choice
copied_into t (findall list ts n) = findall list (ts ++ t ∷ []) n
copied_into t c = c

abbrev pub with_copy : Tree → ℕ → List Choice → List Choice
with_copy t h [] = []
with_copy t h (c ∷ cs) = if length cs == h then copied_into t c ∷ cs else c ∷ with_copy t h cs

-- A copy of the template is collected; its variables are new ones. The search goes on for the next solution.
abbrev pub collected : Limits → State → Node → Tree → ℕ → State
collected l s n t h =
    taking l s n findall_proc (variable_count t) (cells t)
    (λ s' n'. record s' { choices = with_copy (rename s.next t) h s.choices; doing = failing })

-- There is no further solution: the list of the copies is unified with the third argument.
abbrev pub list_made : Limits → State → Node → Tree → List Tree → State
list_made l s n list ts =
    taking l s n findall_proc 0 (cells (list_term ts)) (λ s' n'. unified s' n' (unify list (list_term ts)))

-- Failure: the newest choice point is gone back to (ISO 7.7.8). Where none is left, there is no further solution.
unfoldable pub gone_back : Limits → State → List Choice → State
gone_back l s [] = record s { doing = ended no_more }
gone_back l s (clauses p t cs n ∷ older) = next_clause l p (record s { choices = older }) t n cs
gone_back l s (answers p ts xs n ∷ older) = next_answer l (record s { choices = older }) n p ts xs
gone_back l s (branch n ∷ older) = run_on (record s { choices = older }) n
gone_back l s (barrier ∷ older) = record s { choices = older }
gone_back l s (catch c r n ∷ older) = record s { choices = older }
gone_back l s (findall list ts n ∷ older) = list_made l (record s { choices = older }) n list ts

-- Balls (ISO 7.8.9, 7.8.10)

abbrev pub catch_proc : Proc
catch_proc = proc (codes "catch") 3

-- The ball that comes to a catch, and the cells that it takes there.
pub record Caught : Type 0 where
  pub ball : Tree
  pub need : ℕ

-- A ball that does not fit at the catch becomes the error of the budget, which takes no cells.
abbrev pub fitting : Limits → State → Node → Tree → Caught
fitting l s n ball =
    if nat_lt (s.next + variable_count ball) (2 ^ 64)
    then
    (if fits l s n (cells ball)
    then record { ball = ball; need = cells ball }
    else record { ball = error_ball no_cells catch_proc; need = 0 })
    else record { ball = error_ball no_inferences catch_proc; need = 0 }

-- The recovery goal is called where the ball unified with the catcher; else the next catch outwards is looked for.
abbrev pub recovered : State → Node → Tree → Result Tree Tree → State
recovered s n ball (Ok body) = run_on s (before (goal body (length s.choices) ∷ []) n)
recovered s n ball (Err e) = raised s n e catch_proc

abbrev pub ball_unified : State → Node → Tree → Tree → Option Bindings → State
ball_unified s n ball recovery None = record s { doing = throwing ball n.goals }
ball_unified s n ball recovery (Some bs) = recovered s (node_instance bs n) ball (body_of (bound bs recovery))

-- A copy of the ball is unified with the catcher, at the node of the catch.
abbrev pub at_catch : State → Node → Tree → Tree → Caught → State
at_catch s n catcher recovery c =
    ball_unified
    (record s { next = s.next + variable_count c.ball })
    (record n { used = n.used + c.need })
    c.ball
    recovery
    (unify (rename s.next c.ball) catcher)

-- The choice point of the catch is the newest of these; what is after the exit is looked at where it is none.
abbrev pub caught : Limits → State → Tree → List Pending → List Choice → State
caught l s ball outer (catch catcher recovery n ∷ older) =
    let s' = record s { choices = older } in at_catch s' n catcher recovery (fitting l s' n ball)
caught l s ball outer _ = record s { doing = throwing ball outer }

-- The innermost active catch: the first exit that is still to be done. Where there is none, nothing catches the ball.
unfoldable pub thrown : Limits → State → Tree → List Pending → State
thrown l s ball [] = record s { doing = ended (threw ball) }
thrown l s ball (leave h ∷ ps) = caught l s ball ps (up_to (suc h) s.choices)
thrown l s ball (goal t h ∷ ps) = thrown l s ball ps
thrown l s ball (commit h ∷ ps) = thrown l s ball ps
thrown l s ball (refute h ∷ ps) = thrown l s ball ps
thrown l s ball (collect t h ∷ ps) = thrown l s ball ps

-- Erasing (ISO 8.9.3, Cor.2 8.9.5)

abbrev pub erased : State → Node → Reply → State
erased s n done = run_on s n
erased s n gone = failed s
erased s n (refused e) = raised s n e (proc (codes "retract") 1)
erased s n _ = s

abbrev pub retractall_proc : Proc
retractall_proc = proc (codes "retractall") 1

abbrev pub cleared : State → Node → Tree → List (Stored Clause) → Reply → State
cleared s n t cs (refused e) = raised s n e retractall_proc
cleared s n t cs done = record s { doing = clearing t cs n }
cleared s n t cs gone = record s { doing = clearing t cs n }
cleared s n t cs _ = s

-- The clause is loaded; where its head unifies it is erased. Its cells and bindings go back at once.
abbrev pub cleared_by : State → State → Node → Tree → Stored Clause → List (Stored Clause) → Bool → Next
cleared_by s s' n t c cs true = asks (erase_clause c.place) (cleared s' n t cs)
cleared_by s s' n t c cs false = goes (record s' { doing = clearing t cs n })

abbrev pub clear_next : Limits → State → Node → Tree → List (Stored Clause) → Next
clear_next l s n t [] = goes (run_on s n)
clear_next l s n t (c ∷ cs) =
    if nat_lt (s.next + c.clause.variables) (2 ^ 64)
    then
    (if fits l s n (clause_cells c.clause)
    then
    cleared_by s (record s { next = s.next + c.clause.variables }) n t c cs
    (is_some (unify t (raised_by s.next c.clause.head)))
    else goes (raised s n no_cells retractall_proc))
    else goes (raised s n no_inferences retractall_proc)

-- Solutions

-- Nothing is left to be done: a solution, written under the operators that stand now.
abbrev pub with_solution : State → Node → Reply → State
with_solution s n (standing ops quotes) = record s { output = s.output ++ solution ops n.answer ∷ []; doing = answering }
with_solution s n _ = s

-- The search goes on until it has given the solutions that are wanted.
abbrev pub answered : Limits → State → State
answered l s = if nat_le l.solutions (solution_count s.output) then record s { doing = ended solved } else failed s

-- Steps

abbrev pub do_first : Limits → State → Node → List Pending → Next
do_first l s n [] = asks look (with_solution s n)
do_first l s n (goal t h ∷ ps) = take_up l s (record n { goals = ps }) t h (construct t)
do_first l s n (commit h ∷ ps) = goes (record s { choices = up_to h s.choices; doing = running (record n { goals = ps }) })
do_first l s n (refute h ∷ ps) = goes (record s { choices = up_to h s.choices; doing = failing })
do_first l s n (leave h ∷ ps) = goes (run_on s (record n { goals = ps }))
do_first l s n (collect t h ∷ ps) = goes (collected l s (record n { goals = ps }) t h)

abbrev pub step_by : Limits → State → Doing → Next
step_by l s (running n) = do_first l s n n.goals
step_by l s failing = goes (gone_back l s s.choices)
step_by l s (throwing ball ps) = goes (thrown l s ball ps)
step_by l s (erasing place n) = asks (erase_clause place) (erased s n)
step_by l s (clearing t cs n) = clear_next l s n t cs
step_by l s answering = goes (answered l s)
step_by l s (ended how) = stops how

unfoldable pub step : Limits → State → Next
step l s = step_by l s s.doing

-- The start

abbrev pub consult_proc : Proc
consult_proc = proc (codes "consult") 1

-- The search for the solutions of a goal whose variables are numbered from 0, before its first step: the goal is checked
-- whole, and takes its own cells. An answer has the terms of all variables of the goal, in their order.
abbrev pub start_node : Tree → Node
start_node t = record { goals = []; answer = map var (variables t); used = 0 }

abbrev pub start_state : Tree → State
start_state t =
    record { doing = running (start_node t); choices = []; next = variable_count t; inferences = 0; output = [] }

unfoldable pub start : Limits → Tree → State
start l t =
    checked (start_state t) (start_node t) consult_proc (body_of t)
    (λ body. taking l (start_state t) (start_node t) (proc_of t) 0 (cells t) (λ s n. run_on s (before (goal body 0 ∷ []) n)))
