-- What the shared state answers to a request, and the update that the history gains by it: at most one. The errors of a
-- request stand in the order in which they are checked (ISO 8.8, 8.9, 8.14.3, 8.17.1; SWI-Prolog manual, section
-- 'Multithreaded applications'). A predicate checks what its arguments alone decide before it asks.
use Rattle.std.specs.Prelude.{◌≡◌, ℕ, zero, ◌^◌, List, [], ◌∷◌, map, length, Option, Some, None, is_some, option_map, option_and_then, Bool, true, false, if◌then◌else◌, ◌==◌, nat_le, codes, pos, negsuc}
use Rattle.pl_term.specs.Tree.{Chars, Tree, var, int, atom, comp, none, more}
use Rattle.pl_term.specs.Variables.{rename, variables}
use Rattle.pl_term.specs.Cells.{cells_all}
use Rattle.pl_model.specs.declared.operators.Kind.{Kind as OperatorKind}
use Rattle.pl_model.specs.declared.threads.Name.{Name}
use Rattle.pl_model.specs.declared.threads.Name.TheVariants.{Number, Alias}
use Rattle.pl_model.specs.declared.threads.On.{On}
use Rattle.pl_model.specs.declared.threads.On.TheVariants.{Queue as OnQueue, Thread as OnThread}
use Rattle.pl_model.specs.declared.threads.Message.{Message}
use Rattle.pl_model.specs.declared.threads.Status.{Status}
use Rattle.pl_model.specs.declared.threads.Status.TheVariants.{Succeeded, Failed, Exception, Exited, Halted, AtomSpace}
use Rattle.pl_model.specs.declared.threads.Thread.{Thread}
use Rattle.pl_model.specs.OperatorTable.{OperatorTable, Refusal, priority, specifier, comma, reserved, infix_postfix, refusal, specifier_of}
use Rattle.pl_model.specs.Unify.{unify}
use Rattle.pl_model.specs.Predicates.{proc_of, is_excluded}
use Rattle.pl_model.specs.History.{Proc, Clause, Kind, History, consult, assert, add_first, add_last, erase, abolish, set_dynamic, set_flag, set_op, make_queue, drop_queue, send, take, start, join}
use Rattle.pl_model.specs.Errors.{unknown_procedure, static_procedure}
use Rattle.pl_model.specs.ErrorTerms.{domain_error, existence_error, permission_error, resource_error, private_procedure}
use Rattle.pl_model.specs.Flags.{Unknown, raises, fails, listed_flags}
use Rattle.pl_model.specs.Database.{Stored, is_system, is_static, is_known, choices, is_there, current_procedures, has_room}
use Rattle.pl_model.specs.Threads.{Queue, Threads, is_alias, alias_of, queue_numbered, queue_named, thread_named, first_message, has_engine, goal_alias}
use Rattle.pl_model.specs.SharedState.{SharedState, state_at}
use Rattle.pl_model.specs.Requests.{Request, look, call_clauses, inspected_clauses, retracted_clauses, cleared_clauses, erase_clause, assert_first, assert_last, consult_clause, abolish_procedure, make_dynamic, all_procedures, put_operators, read_operators, put_flag, all_flags, own_name, create_thread, start_goal, join_thread, send_message, get_message, peek_message, create_queue, destroy_queue, collect_atoms, collect_clauses, Reply, standing, listed, procedures, flags, named, message, no_message, status, done, gone, refused}

pub data Served : Type 0 where
  -- the answer, and the update that is made
  answers : Reply → Option Kind → Served
  -- the engine waits: for a message, or for the end of a thread
  waits : Served

-- The update that is made, where one is.
abbrev pub update_of : Served → Option Kind
update_of (answers r k) = k
update_of waits = None

-- A request that only reads, one that is refused, and one that makes an update. No update but the end of an engine is made
-- on a history of 2^47 updates or more; this is checked last.
abbrev pub reads : Reply → Served
reads r = answers r None

abbrev pub refuses : Tree → Served
refuses e = answers (refused e) None

abbrev pub most_updates : ℕ
most_updates = 2 ^ 47

abbrev pub updates : ℕ → Reply → Kind → Served
updates g r k = if nat_le most_updates g then refuses (resource_error (codes "generations")) else answers r (Some k)

-- Clauses (ISO 7.7.10, 8.8.1, 8.9.3, 8.9.5)

-- The clauses of the goal's procedure that are visible, less those that the first argument excludes.
abbrev pub clauses_for : SharedState → ℕ → Tree → List (Stored Clause)
clauses_for s g goal = choices (λ (c : Clause). is_excluded goal c.head) g (proc_of goal) s.database

abbrev pub unknown_called : Unknown → Proc → Served
unknown_called raises p = refuses (unknown_procedure p)
unknown_called fails p = reads (listed [])

abbrev pub cleared : ℕ → Bool → Proc → List (Stored Clause) → Served
cleared g true p cs = reads (listed cs)
cleared g false p cs = updates g (listed []) (set_dynamic (p ∷ []))

-- The cells of a stored clause: those of its head and body, and one for each of its variables.
abbrev pub clause_cells : Clause → ℕ
clause_cells c = cells_all (more c.head (more c.body none))

-- A clause is added, unless the stored clauses would take too many cells.
abbrev pub added : SharedState → ℕ → Clause → Kind → Served
added s g c k = if has_room clause_cells c s.database then updates g done k else refuses (resource_error (codes "database"))

abbrev pub asserted : SharedState → ℕ → Clause → Kind → Served
asserted s g c k =
    if is_static s.database (proc_of c.head) then refuses (static_procedure (proc_of c.head)) else added s g c k

-- Procedures are changed, unless one of them is static.
abbrev pub modified : SharedState → ℕ → List Proc → Kind → Served
modified s g [] k = updates g done k
modified s g (p ∷ ps) k = if is_static s.database p then refuses (static_procedure p) else modified s g ps k

-- Operators (ISO 8.14.3.3)

abbrev pub operator_error : ℕ → Chars → Refusal → Tree
operator_error p f priority = domain_error (codes "operator_priority") (int (pos p))
operator_error p f specifier = domain_error (codes "operator_specifier") (atom f)
operator_error p f comma = permission_error (codes "modify") (codes "operator") (atom f)
operator_error p f reserved = permission_error (codes "create") (codes "operator") (atom f)
operator_error p f infix_postfix = permission_error (codes "create") (codes "operator") (atom f)

-- The error of the first name that is refused.
abbrev pub operators_error : OperatorTable → ℕ → OperatorKind → List Chars → Option Tree
operators_error t p k [] = None
operators_error t p k (f ∷ fs) =
    elim (refusal t p (Some k) f) [ None ↦ operators_error t p k fs | Some r ↦ Some (operator_error p f r) ]

abbrev pub operators_put : ℕ → ℕ → OperatorKind → List Chars → Option Tree → Served
operators_put g p k fs (Some e) = refuses e
operators_put g p k fs None =
    updates g done (set_op (map (λ (f : Chars). record { name = f; priority = p; specifier = specifier_of k }) fs))

-- Threads and queues

-- What a term names: an atom an alias, an integer a number, and any other term nothing.
abbrev pub name_of : Tree → Option Name
name_of (atom a) = Some (Alias a)
name_of (int (pos n)) = Some (Number n)
name_of (int (negsuc n)) = None
name_of (var x) = None
name_of (comp f t ts) = None

abbrev pub queue_for : Threads Tree → Tree → Option (Queue Tree)
queue_for t x = option_and_then (queue_named t) (name_of x)

abbrev pub thread_for : Threads Tree → Tree → Option (Thread Tree)
thread_for t x = option_and_then (thread_named t) (name_of x)

abbrev pub name_term : ℕ → Option Chars → Tree
name_term n None = int (pos n)
name_term n (Some a) = atom a

-- The status as thread_join/2 gives it.
abbrev pub status_term : Status Tree → Tree
status_term Succeeded = atom (codes "true")
status_term Failed = atom (codes "false")
status_term (Exception b) = comp (codes "exception") b none
status_term (Exited t) = comp (codes "exited") t none
status_term (Halted n) = comp (codes "halted") (int (pos n)) none
status_term AtomSpace = comp (codes "exception") (resource_error (codes "atom_space")) none

abbrev pub no_queue : Tree → Served
no_queue x = refuses (existence_error (codes "message_queue") x)

-- Whether the message unifies with the term, both renamed so that no variable is in both.
abbrev pub matches : Tree → Tree → Bool
matches t m = is_some (unify (rename zero t) (rename (length (variables t)) m))

abbrev pub got : ℕ → Option (Message Tree) → Served
got g None = waits
got g (Some m) = updates g (message m.content) (take m.place)

abbrev pub peeked : Option (Message Tree) → Served
peeked None = reads no_message
peeked (Some m) = reads (message m.content)

abbrev pub with_queue : Tree → (Queue Tree → Served) → Option (Queue Tree) → Served
with_queue x next None = no_queue x
with_queue x next (Some q) = next q

-- The queue that is named so, or the engine's own.
abbrev pub queue_asked : Threads Tree → ℕ → Option Tree → Option (Queue Tree)
queue_asked t e None = queue_numbered t e
queue_asked t e (Some x) = queue_for t x

abbrev pub queue_term : ℕ → Option Tree → Tree
queue_term e None = int (pos e)
queue_term e (Some x) = x

abbrev pub destroyed : ℕ → Tree → Queue Tree → Served
destroyed g x q =
    if q.is_own then refuses (permission_error (codes "destroy") (codes "message_queue") x)
    else updates g done (drop_queue q.number)

-- A thread cannot be joined by itself. One that has not ended is waited for.
abbrev pub ended : ℕ → ℕ → Option (Status Tree) → Served
ended g n None = waits
ended g n (Some h) = updates g (status (status_term h)) (join n)

abbrev pub joined : ℕ → ℕ → Tree → Option (Thread Tree) → Served
joined e g x None = refuses (existence_error (codes "thread") x)
joined e g x (Some h) =
    if h.number == e then refuses (permission_error (codes "join") (codes "thread") x) else ended g h.number h.status

abbrev pub alias_taken : Chars → Chars → Served
alias_taken kind a = refuses (permission_error (codes "create") kind (atom a))

-- A thread begins with a copy of its goal, if one engine more can run.
abbrev pub started : SharedState → ℕ → ℕ → Tree → Option Chars → Reply → Served
started s g n goal a r =
    if has_engine s.threads then updates g r (start n (rename zero goal) a) else refuses (resource_error (codes "threads"))

-- The aliases of a thread's options in their order. The last one counts.
abbrev pub created : SharedState → ℕ → Tree → Option Chars → List Chars → Option Tree → Served
created s g goal last (a ∷ as₁) error =
    if is_alias s.threads a then alias_taken (codes "thread") a else created s g goal (Some a) as₁ error
created s g goal last [] (Some e) = refuses e
created s g goal last [] None = started s g s.count goal last (named (name_term s.count last))

-- The answer to the engine `e` in this state, which is that at the generation `g`.
unfoldable pub serve : ℕ → Request → SharedState → ℕ → Served
serve e look s g = reads (standing s.operators s.flags.double_quotes)
serve e (call_clauses goal) s g =
    if is_known s.database (proc_of goal) then reads (listed (clauses_for s g goal))
    else unknown_called s.flags.unknown (proc_of goal)
serve e (inspected_clauses head) s g =
    if is_static s.database (proc_of head) then refuses (private_procedure (proc_of head))
    else reads (listed (clauses_for s g head))
serve e (retracted_clauses head) s g =
    if is_static s.database (proc_of head) then refuses (static_procedure (proc_of head))
    else reads (listed (clauses_for s g head))
serve e (cleared_clauses head) s g =
    if is_static s.database (proc_of head) then refuses (static_procedure (proc_of head))
    else cleared g (is_known s.database (proc_of head)) (proc_of head) (clauses_for s g head)
serve e (erase_clause j) s g = if is_there j s.database then updates g done (erase j) else reads gone
serve e (assert_first c) s g = asserted s g c (add_first (proc_of c.head) c assert)
serve e (assert_last c) s g = asserted s g c (add_last (proc_of c.head) c assert)
serve e (consult_clause c) s g =
    if is_system (proc_of c.head) then refuses (static_procedure (proc_of c.head))
    else added s g c (add_last (proc_of c.head) c consult)
serve e (abolish_procedure p) s g = modified s g (p ∷ []) (abolish p)
serve e (make_dynamic ps) s g = modified s g ps (set_dynamic ps)
serve e all_procedures s g = reads (procedures (current_procedures g s.database))
serve e (put_operators p k fs) s g = operators_put g p k fs (operators_error s.operators p k fs)
serve e read_operators s g = reads (standing s.operators s.flags.double_quotes)
serve e (put_flag f v) s g = updates g done (set_flag f v)
serve e all_flags s g = reads (flags (listed_flags s.flags))
serve e own_name s g = reads (named (name_term e (alias_of s.threads e)))
serve e (create_thread goal as₁ error) s g = created s g goal None as₁ error
serve e (start_goal n goal) s g =
    if is_alias s.threads (goal_alias n) then alias_taken (codes "thread") (goal_alias n)
    else started s g n goal (Some (goal_alias n)) done
serve e (join_thread x) s g = joined e g x (thread_for s.threads x)
serve e (send_message x t) s g =
    with_queue x (λ q. updates g done (send q.number (rename zero t))) (queue_for s.threads x)
serve e (get_message x t) s g =
    with_queue (queue_term e x) (λ q. got g (first_message (matches t) q)) (queue_asked s.threads e x)
serve e (peek_message x t) s g =
    with_queue (queue_term e x) (λ q. peeked (first_message (matches t) q)) (queue_asked s.threads e x)
serve e (create_queue None) s g = updates g (named (int (pos s.count))) (make_queue s.count None)
serve e (create_queue (Some a)) s g =
    if is_alias s.threads a then alias_taken (codes "message_queue") a
    else updates g (named (atom a)) (make_queue s.count (Some a))
serve e (destroy_queue x) s g = with_queue x (destroyed g x) (queue_for s.threads x)
serve e collect_atoms s g = reads done
serve e collect_clauses s g = reads done

-- What a request of the engine `e` is answered when it is made after all entries.
abbrev pub served_now : ℕ → ℕ → History → Request → Served
served_now e goals h q = serve e q (state_at goals h (length h)) (length h)

-- The entry that an engine's update is in the history.
abbrev pub entry_by : ℕ → Option Kind → History
entry_by e None = []
entry_by e (Some k) = record { engine = e; kind = k } ∷ []

-- What a request of the engine `e` that has no answer waits on: a message of the queue that is named so or of the engine's
-- own, or the end of a thread.
abbrev pub on_of : ℕ → Request → Option On
on_of e (join_thread x) = option_map OnThread (name_of x)
on_of e (get_message x t) = option_map OnQueue (name_of (queue_term e x))
on_of e _ = None

-- The queue is there, or the thread, and it has not ended.
abbrev pub IsAwaited : Threads Tree → On → Type 0
IsAwaited t (OnQueue x) = (q : Queue Tree) × (queue_named t x ≡ Some q)
IsAwaited t (OnThread x) = (h : Thread Tree) × (thread_named t x ≡ Some h) × (h.status ≡ None)
