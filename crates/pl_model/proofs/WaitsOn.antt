-- A request that waits names a queue or a thread that is there.
use Rattle.std.proofs.Common.{◌≡◌, ℕ, List, [], ◌∷◌, Option, Some, None, Bool, true, false, refl, ap}
use Rattle.std.specs.Prelude.{if◌then◌else◌, nat_le, codes, option_map, option_and_then, ◌==◌}
use Rattle.pl_term.specs.Tree.{Chars, Tree}
use Rattle.pl_model.specs.declared.operators.Kind.{Kind as OperatorKind}
use Rattle.pl_model.specs.declared.threads.Name.{Name}
use Rattle.pl_model.specs.declared.threads.Name.TheVariants.{Number}
use Rattle.pl_model.specs.declared.threads.On.{On}
use Rattle.pl_model.specs.declared.threads.On.TheVariants.{Queue as OnQueue, Thread as OnThread}
use Rattle.pl_model.specs.declared.threads.Message.{Message}
use Rattle.pl_model.specs.declared.threads.Status.{Status}
use Rattle.pl_model.specs.declared.threads.Thread.{Thread}
use Rattle.pl_model.specs.History.{Proc, Clause, Kind, abolish}
use Rattle.pl_model.specs.Errors.{static_procedure}
use Rattle.pl_model.specs.Flags.{Unknown, raises, fails}
use Rattle.pl_model.specs.Database.{Stored, is_static}
use Rattle.pl_model.specs.Threads.{Queue, Threads, is_alias, queue_named, queue_numbered, thread_named}
use Rattle.pl_model.specs.SharedState.{SharedState}
use Rattle.pl_model.specs.Requests.{Request, Reply, look, call_clauses, inspected_clauses, retracted_clauses, cleared_clauses, erase_clause, assert_first, assert_last, consult_clause, abolish_procedure, make_dynamic, all_procedures, put_operators, read_operators, put_flag, all_flags, own_name, create_thread, start_goal, join_thread, send_message, get_message, peek_message, create_queue, destroy_queue, collect_atoms, collect_clauses}
use Rattle.pl_model.specs.Service.{Served, answers, waits, most_updates, updates, serve, refuses, alias_taken, unknown_called, cleared, added, modified, operators_put, got, peeked, with_queue, ended, joined, started, created, name_of, queue_term, on_of, IsAwaited}

-- What is answered does not wait.
record Replies (a : Served) : Type 0 where
  replies : a ≡ waits → ⊥

replies_answer : (r : Reply) (k : Option Kind) → Replies (answers r k)
replies_answer r k = record { replies = λ e. absurd (cc) }

replies_if : (b : Bool) (x y : Served) → Replies x → Replies y → Replies (if b then x else y)
replies_if true x y l r = l
replies_if false x y l r = r

replies_updates : (g : ℕ) (r : Reply) (k : Kind) → Replies (updates g r k)
replies_updates g r k = replies_if (nat_le most_updates g) _ (answers r (Some k)) (replies_answer _ None) (replies_answer r (Some k))

replies_unknown : (u : Unknown) (p : Proc) → Replies (unknown_called u p)
replies_unknown raises p = replies_answer _ None
replies_unknown fails p = replies_answer _ None

replies_cleared : (g : ℕ) (b : Bool) (p : Proc) (cs : List (Stored Clause)) → Replies (cleared g b p cs)
replies_cleared g true p cs = replies_answer _ None
replies_cleared g false p cs = replies_updates g _ _

replies_added : (s : SharedState) (g : ℕ) (c : Clause) (k : Kind) → Replies (added s g c k)
replies_added s g c k = search (replies_if, replies_answer, replies_updates)

replies_modified : (s : SharedState) (g : ℕ) (ps : List Proc) (k : Kind) → Replies (modified s g ps k)
replies_modified s g [] k = replies_updates g _ k
replies_modified s g (p ∷ ps) k =
    replies_if (is_static s.database p) (refuses (static_procedure p)) (modified s g ps k) (replies_answer _ None) (replies_modified s g ps k)

replies_operators : (g p : ℕ) (k : OperatorKind) (fs : List Chars) (e : Option Tree) → Replies (operators_put g p k fs e)
replies_operators g p k fs None = replies_updates g _ _
replies_operators g p k fs (Some e) = replies_answer _ None

replies_peeked : (m : Option (Message Tree)) → Replies (peeked m)
replies_peeked None = replies_answer _ None
replies_peeked (Some m) = replies_answer _ None

replies_queue : (x : Tree) (next : Queue Tree → Served) (q : Option (Queue Tree))
    → ((q : Queue Tree) → Replies (next q))
    → Replies (with_queue x next q)
replies_queue x next None each = replies_answer _ None
replies_queue x next (Some q) each = each q

replies_started : (s : SharedState) (g n : ℕ) (goal : Tree) (a : Option Chars) (r : Reply) → Replies (started s g n goal a r)
replies_started s g n goal a r = search (replies_if, replies_answer, replies_updates)

replies_created : (s : SharedState) (g : ℕ) (goal : Tree) (last : Option Chars) (ks : List Chars) (e : Option Tree)
    → Replies (created s g goal last ks e)
replies_created s g goal last (a ∷ ks) e =
    replies_if
    (is_alias s.threads a)
    (alias_taken (codes "thread") a)
    (created s g goal (Some a) ks e)
    (replies_answer _ None)
    (replies_created s g goal (Some a) ks e)
replies_created s g goal last [] (Some e) = replies_answer _ None
replies_created s g goal last [] None = replies_started s g s.count goal last _

-- The request names what it waits on, if it waits so.
record Awaits (e : ℕ) (q : Request) (t : Threads Tree) (a : Served) : Type 0 where
  awaits : a ≡ waits → (on : On) × (on_of e q ≡ Some on) × IsAwaited t on

awaits_not : (e : ℕ) (q : Request) (t : Threads Tree) (a : Served) → Replies a → Awaits e q t a
awaits_not e q t a r = record { awaits = λ w. absurd (r.replies w) }

-- A thread that is found is named.
awaits_ended : (e g : ℕ) (x : Tree) (t : Threads Tree) (n : Name) (h : Thread Tree) (o : Option (Status Tree))
    → name_of x ≡ Some n
    → thread_named t n ≡ Some h
    → h.status ≡ o
    → Awaits e (join_thread x) t (ended g h.number o)
awaits_ended e g x t n h None named found stands =
    record { awaits = λ w. (OnThread n, ap (option_map OnThread) named, (h, found, stands)) }
awaits_ended e g x t n h (Some o) named found stands = awaits_not e (join_thread x) t _ (replies_updates g _ _)

awaits_if : (b : Bool) (e : ℕ) (q : Request) (t : Threads Tree) (x y : Served)
    → Awaits e q t x
    → Awaits e q t y
    → Awaits e q t (if b then x else y)
awaits_if true e q t x y l r = l
awaits_if false e q t x y l r = r

awaits_found : (e g : ℕ) (x : Tree) (t : Threads Tree) (n : Name) (o : Option (Thread Tree))
    → name_of x ≡ Some n
    → thread_named t n ≡ o
    → Awaits e (join_thread x) t (joined e g x o)
awaits_found e g x t n None named found = awaits_not e (join_thread x) t _ (replies_answer _ None)
awaits_found e g x t n (Some h) named found =
    awaits_if
    (h.number == e)
    e
    (join_thread x)
    t
    _
    (ended g h.number h.status)
    (awaits_not e (join_thread x) t _ (replies_answer _ None))
    (awaits_ended e g x t n h h.status named found refl)

awaits_joined : (e g : ℕ) (x : Tree) (t : Threads Tree) (o : Option Name)
    → name_of x ≡ o
    → Awaits e (join_thread x) t (joined e g x (option_and_then (thread_named t) o))
awaits_joined e g x t None named = awaits_not e (join_thread x) t _ (replies_answer _ None)
awaits_joined e g x t (Some n) named = awaits_found e g x t n (thread_named t n) named refl

-- A queue that is found is named.
awaits_got : (e g : ℕ) (x : Option Tree) (m : Tree) (t : Threads Tree) (n : Name) (q : Queue Tree) (o : Option (Message Tree))
    → name_of (queue_term e x) ≡ Some n
    → queue_named t n ≡ Some q
    → Awaits e (get_message x m) t (got g o)
awaits_got e g x m t n q None named found =
    record { awaits = λ w. (OnQueue n, ap (option_map OnQueue) named, (q, found)) }
awaits_got e g x m t n q (Some o) named found = awaits_not e (get_message x m) t _ (replies_updates g _ _)

awaits_queue : (e g : ℕ) (x : Option Tree) (m : Tree) (t : Threads Tree) (n : Name) (o : Option (Queue Tree)) (first : Queue Tree → Option (Message Tree))
    → name_of (queue_term e x) ≡ Some n
    → queue_named t n ≡ o
    → Awaits e (get_message x m) t (with_queue (queue_term e x) (λ q. got g (first q)) o)
awaits_queue e g x m t n None first named found = awaits_not e (get_message x m) t _ (replies_answer _ None)
awaits_queue e g x m t n (Some q) first named found = awaits_got e g x m t n q (first q) named found

awaits_named : (e g : ℕ) (x m : Tree) (t : Threads Tree) (o : Option Name) (first : Queue Tree → Option (Message Tree))
    → name_of x ≡ o
    → Awaits e (get_message (Some x) m) t (with_queue x (λ q. got g (first q)) (option_and_then (queue_named t) o))
awaits_named e g x m t None first named = awaits_not e (get_message (Some x) m) t _ (replies_answer _ None)
awaits_named e g x m t (Some n) first named = awaits_queue e g (Some x) m t n (queue_named t n) first named refl

served_awaits : (e : ℕ) (q : Request) (s : SharedState) (g : ℕ) → Awaits e q s.threads (serve e q s g)
unfolding serve
served_awaits e (join_thread x) s g = awaits_joined e g x s.threads (name_of x) refl
served_awaits e (get_message None m) s g =
    awaits_queue e g None m s.threads (Number e) (queue_numbered s.threads e) _ refl refl
served_awaits e (get_message (Some x) m) s g = awaits_named e g x m s.threads (name_of x) _ refl
served_awaits e look s g = awaits_not e look s.threads _ (replies_answer _ None)
served_awaits e (call_clauses t) s g =
    awaits_not e (call_clauses t) s.threads _ (replies_if _ _ (unknown_called s.flags.unknown _) (replies_answer _ None) (replies_unknown s.flags.unknown _))
served_awaits e (inspected_clauses t) s g = awaits_not e (inspected_clauses t) s.threads _ (search (replies_if, replies_answer))
served_awaits e (retracted_clauses t) s g = awaits_not e (retracted_clauses t) s.threads _ (search (replies_if, replies_answer))
served_awaits e (cleared_clauses t) s g =
    awaits_not e (cleared_clauses t) s.threads _ (search (replies_cleared, replies_if, replies_answer))
served_awaits e (erase_clause j) s g = awaits_not e (erase_clause j) s.threads _ (search (replies_if, replies_answer, replies_updates))
served_awaits e (assert_first c) s g = awaits_not e (assert_first c) s.threads _ (search (replies_added, replies_if, replies_answer))
served_awaits e (assert_last c) s g = awaits_not e (assert_last c) s.threads _ (search (replies_added, replies_if, replies_answer))
served_awaits e (consult_clause c) s g =
    awaits_not e (consult_clause c) s.threads _ (search (replies_added, replies_if, replies_answer))
served_awaits e (abolish_procedure p) s g = awaits_not e (abolish_procedure p) s.threads _ (replies_modified s g (p ∷ []) (abolish p))
served_awaits e (make_dynamic ps) s g = awaits_not e (make_dynamic ps) s.threads _ (replies_modified s g ps _)
served_awaits e all_procedures s g = awaits_not e all_procedures s.threads _ (replies_answer _ None)
served_awaits e (put_operators p k fs) s g = awaits_not e (put_operators p k fs) s.threads _ (replies_operators g p k fs _)
served_awaits e read_operators s g = awaits_not e read_operators s.threads _ (replies_answer _ None)
served_awaits e (put_flag f v) s g = awaits_not e (put_flag f v) s.threads _ (replies_updates g _ _)
served_awaits e all_flags s g = awaits_not e all_flags s.threads _ (replies_answer _ None)
served_awaits e own_name s g = awaits_not e own_name s.threads _ (replies_answer _ None)
served_awaits e (create_thread goal ks error) s g =
    awaits_not e (create_thread goal ks error) s.threads _ (replies_created s g goal None ks error)
served_awaits e (start_goal n goal) s g =
    awaits_not e (start_goal n goal) s.threads _ (search (replies_if, replies_answer, replies_started))
served_awaits e (send_message x t) s g = awaits_not e (send_message x t) s.threads _ (search (replies_queue, replies_updates))
served_awaits e (peek_message x t) s g = awaits_not e (peek_message x t) s.threads _ (search (replies_queue, replies_peeked))
served_awaits e (create_queue None) s g = awaits_not e (create_queue None) s.threads _ (replies_updates g _ _)
served_awaits e (create_queue (Some a)) s g =
    awaits_not e (create_queue (Some a)) s.threads _ (search (replies_if, replies_answer, replies_updates))
served_awaits e (destroy_queue x) s g =
    awaits_not e (destroy_queue x) s.threads _ (search (replies_queue, replies_if, replies_answer, replies_updates))
served_awaits e collect_atoms s g = awaits_not e collect_atoms s.threads _ (replies_answer _ None)
served_awaits e collect_clauses s g = awaits_not e collect_clauses s.threads _ (replies_answer _ None)

pub waits_on : (e : ℕ) (q : Request) (s : SharedState) (g : ℕ)
    → serve e q s g ≡ waits
    → (on : On) × (on_of e q ≡ Some on) × IsAwaited s.threads on
waits_on e q s g w = (served_awaits e q s g).awaits w
