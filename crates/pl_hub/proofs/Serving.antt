-- What the updates have in common with which requests are answered.
use Rattle.std.proofs.Common.{◌≡◌, ◌<◌, ℕ, zero, List, [], ◌∷◌, length, Option, Some, None, Bool, true, false, refl, sym, ap, subst, arith}
use Rattle.std.specs.Prelude.{◌^◌, nat_le, if◌then◌else◌, ◌==◌, codes, pos}
use Rattle.std.proofs.lemmas.Bool.{leb-false}
use Rattle.pl_term.specs.Tree.{Chars, Tree, int, atom}
use Rattle.pl_term.specs.Variables.{rename}
use Rattle.pl_model.specs.declared.operators.Kind.{Kind as OperatorKind}
use Rattle.pl_model.specs.declared.threads.Message.{Message}
use Rattle.pl_model.specs.declared.threads.Status.{Status}
use Rattle.pl_model.specs.declared.threads.Thread.{Thread}
use Rattle.pl_model.specs.Database.{Stored, has_room, is_static, is_known, is_there, is_system}
use Rattle.pl_model.specs.Errors.{static_procedure}
use Rattle.pl_model.specs.ErrorTerms.{resource_error}
use Rattle.pl_model.specs.Flags.{raises, fails, Unknown}
use Rattle.pl_model.specs.History.{Clause, History, Kind, Proc, abolish, add_first, add_last, assert, consult, drop_queue, erase, is_end, join, make_queue, send, set_dynamic, set_flag, start}
use Rattle.pl_model.specs.History as entries
use Rattle.pl_model.specs.Predicates.{proc_of}
use Rattle.pl_model.specs.Requests.{Request, look, call_clauses, inspected_clauses, retracted_clauses, cleared_clauses, erase_clause, assert_first, assert_last, consult_clause, abolish_procedure, make_dynamic, all_procedures, put_operators, read_operators, put_flag, all_flags, own_name, create_thread, start_goal, join_thread, send_message, get_message, peek_message, create_queue, destroy_queue, collect_atoms, collect_clauses, Reply, done, gone, listed, message, named, refused, status}
use Rattle.pl_model.specs.Service.{Served, answers, waits, added, asserted, clause_cells, cleared, clauses_for, created, destroyed, ended, got, joined, matches, modified, most_updates, name_term, operators_error, operators_put, peeked, queue_asked, queue_for, queue_term, serve, served_now, started, status_term, thread_for, unknown_called, update_of, updates, with_queue}
use Rattle.pl_model.specs.SharedState.{SharedState, state_at}
use Rattle.pl_model.specs.Threads.{Queue, first_message, goal_alias, has_engine, is_alias}
use Rattle.hub_database.specs.Database.{IsElsewhere}
use Rattle.hub_threads.specs.Aliases.{last_of}
use Rattle.pl_history.specs.Fronts.{Life}
use Rattle.pl_hub.specs.Called.{Called, called_by, lives_of}
use Rattle.pl_hub.specs.Settling.{kind_of, kind_or_any}

-- where the answer makes an update, this holds of it
abbrev pub MakesOnly : (Kind → Type 0) → Served → Type 0
MakesOnly P (answers r None) = Unit {0}
MakesOnly P (answers r (Some k)) = P k
MakesOnly P waits = Unit {0}

either : {A : Type 0} (P : A → Type 0) (b : Bool) (x y : A) → P x → P y → P (if b then x else y)
either P true x y p q = p
either P false x y p q = q

-- what holds of each update: it is made below the generation 2^47, and is no engine's end
abbrev pub Plain : ℕ → Kind → Type 0
Plain g k = (g < 2 ^ 47) × (is_end k ≡ false)

-- one of queues or threads besides, which begins these engines
abbrev pub Beside : ℕ → List Called → Kind → Type 0
Beside g cs k = (g < 2 ^ 47) × (is_end k ≡ false) × IsElsewhere k × (called_by k ≡ cs)

module _ (g : ℕ) (P : Kind → Type 0) where
  updates_make : (r : Reply) (k : Kind) → (g < 2 ^ 47 → P k) → MakesOnly P (updates g r k)
  updates_make r k p = go (nat_le most_updates g) refl
    where
      go : (b : Bool) → nat_le most_updates g ≡ b → MakesOnly P (if b then answers (refused (resource_error (codes "generations"))) None else answers r (Some k))
      go true e = tt
      go false e = p (let m = leb-false most_updates g e in omega arith)

-- CLAUSES, flags and operators
module _ (g e : ℕ) (s : SharedState) where
  make : (r : Reply) (k : Kind) → is_end k ≡ false → MakesOnly (Plain g) (updates g r k)
  make r k plain = updates_make g (Plain g) r k (λ early. (early, plain))

  adds : (c : Clause) (k : Kind) → is_end k ≡ false → MakesOnly (Plain g) (added s g c k)
  adds c k plain = either (MakesOnly (Plain g)) (has_room clause_cells c s.database) (updates g done k) (answers (refused (resource_error (codes "database"))) None) (make done k plain) tt

  asserts : (c : Clause) (k : Kind) → is_end k ≡ false → MakesOnly (Plain g) (asserted s g c k)
  asserts c k plain = either (MakesOnly (Plain g)) (is_static s.database (proc_of c.head)) (answers (refused (static_procedure (proc_of c.head))) None) (added s g c k) tt (adds c k plain)

  modifies : (ps : List Proc) (k : Kind) → is_end k ≡ false → MakesOnly (Plain g) (modified s g ps k)
  modifies [] k plain = make done k plain
  modifies (p ∷ ps) k plain = either (MakesOnly (Plain g)) (is_static s.database p) (answers (refused (static_procedure p)) None) (modified s g ps k) tt (modifies ps k plain)

  clears : (b : Bool) (p : Proc) (cs : List (Stored Clause)) → MakesOnly (Plain g) (cleared g b p cs)
  clears true p cs = tt
  clears false p cs = make (listed []) (set_dynamic (p ∷ [])) refl

  puts : (p : ℕ) (k : OperatorKind) (fs : List Chars) (o : Option Tree) → MakesOnly (Plain g) (operators_put g p k fs o)
  puts p k fs (Some x) = tt
  puts p k fs None = make done _ refl

  unknowns : (u : Unknown) (p : Proc) → MakesOnly (Plain g) (unknown_called u p)
  unknowns raises p = tt
  unknowns fails p = tt

-- QUEUES and threads
module _ (g e : ℕ) (s : SharedState) where
  make_beside : (r : Reply) (k : Kind) (cs : List Called) → is_end k ≡ false → IsElsewhere k → called_by k ≡ cs → MakesOnly (Beside g cs) (updates g r k)
  make_beside r k cs plain other begins = updates_make g (Beside g cs) r k (λ early. (early, plain, other, begins))

  with_queue_makes : (x : Tree) (next : Queue Tree → Served) (o : Option (Queue Tree)) → ((q : Queue Tree) → MakesOnly (Beside g []) (next q)) → MakesOnly (Beside g []) (with_queue x next o)
  with_queue_makes x next None p = tt
  with_queue_makes x next (Some q) p = p q

  got_makes : (o : Option (Message Tree)) → MakesOnly (Beside g []) (got g o)
  got_makes None = tt
  got_makes (Some m) = make_beside (message m.content) (entries.take m.place) [] refl tt refl

  peeked_makes : (o : Option (Message Tree)) → MakesOnly (Beside g []) (peeked o)
  peeked_makes None = tt
  peeked_makes (Some m) = tt

  destroyed_makes : (x : Tree) (q : Queue Tree) → MakesOnly (Beside g []) (destroyed g x q)
  destroyed_makes x q = either (MakesOnly (Beside g [])) q.is_own _ _ tt (make_beside done (drop_queue q.number) [] refl tt refl)

  ended_makes : (n : ℕ) (o : Option (Status Tree)) → MakesOnly (Beside g []) (ended g n o)
  ended_makes n None = tt
  ended_makes n (Some x) = make_beside (status (status_term x)) (join n) [] refl tt refl

  joined_makes : (x : Tree) (o : Option (Thread Tree)) → MakesOnly (Beside g []) (joined e g x o)
  joined_makes x None = tt
  joined_makes x (Some t) = either (MakesOnly (Beside g [])) (t.number == e) _ (ended g t.number t.status) tt (ended_makes t.number t.status)

  started_makes : (n : ℕ) (goal : Tree) (a : Option Chars) (r : Reply) → MakesOnly (Beside g ((n, a) ∷ [])) (started s g n goal a r)
  started_makes n goal a r = either (MakesOnly (Beside g ((n, a) ∷ []))) (has_engine s.threads) (updates g r (start n (rename zero goal) a)) _ (make_beside r (start n (rename zero goal) a) ((n, a) ∷ []) refl tt refl) tt

  created_makes : (goal : Tree) (last : Option Chars) (aliases : List Chars) (error : Option Tree) → MakesOnly (Beside g ((s.count, last_of last aliases) ∷ [])) (created s g goal last aliases error)
  created_makes goal last (a ∷ aliases) error = either (MakesOnly (Beside g ((s.count, last_of (Some a) aliases) ∷ []))) (is_alias s.threads a) _ (created s g goal (Some a) aliases error) tt (created_makes goal (Some a) aliases error)
  created_makes goal last [] (Some x) = tt
  created_makes goal last [] None = started_makes s.count goal last (named (name_term s.count last))

-- A request of queues and threads.
abbrev pub IsOfThreads : Request → Type 0
IsOfThreads own_name = Unit {0}
IsOfThreads (create_thread t as₁ x) = Unit {0}
IsOfThreads (start_goal n t) = Unit {0}
IsOfThreads (join_thread x) = Unit {0}
IsOfThreads (send_message x t) = Unit {0}
IsOfThreads (get_message x t) = Unit {0}
IsOfThreads (peek_message x t) = Unit {0}
IsOfThreads (create_queue a) = Unit {0}
IsOfThreads (destroy_queue x) = Unit {0}
IsOfThreads _ = ⊥

-- the engine that such a request begins, where it makes an update
abbrev pub calls_in : Request → SharedState → List Called
calls_in (create_thread t as₁ x) s = (s.count, last_of None as₁) ∷ []
calls_in (start_goal n t) s = (n, Some (goal_alias n)) ∷ []
calls_in _ s = []

abbrev pub starts_in : Request → SharedState → List Life
starts_in r s = lives_of (calls_in r s)

module _ (g e : ℕ) (s : SharedState) where
  pub threads_make : (r : Request) → IsOfThreads r → MakesOnly (Beside g (calls_in r s)) (serve e r s g)
  unfolding serve
  threads_make own_name is = tt
  threads_make (create_thread t as₁ x) is = created_makes g e s t None as₁ x
  threads_make (start_goal n t) is = either (MakesOnly (Beside g ((n, Some (goal_alias n)) ∷ []))) (is_alias s.threads (goal_alias n)) _ (started s g n t (Some (goal_alias n)) done) tt (started_makes g e s n t (Some (goal_alias n)) done)
  threads_make (join_thread x) is = joined_makes g e s x (thread_for s.threads x)
  threads_make (send_message x t) is = with_queue_makes g e s x _ (queue_for s.threads x) (λ q. make_beside g e s done (send q.number (rename zero t)) [] refl tt refl)
  threads_make (get_message x t) is = with_queue_makes g e s (queue_term e x) _ (queue_asked s.threads e x) (λ q. got_makes g e s (first_message (matches t) q))
  threads_make (peek_message x t) is = with_queue_makes g e s (queue_term e x) _ (queue_asked s.threads e x) (λ q. peeked_makes g e s (first_message (matches t) q))
  threads_make (create_queue None) is = make_beside g e s (named (int (pos s.count))) (make_queue s.count None) [] refl tt refl
  threads_make (create_queue (Some a)) is = either (MakesOnly (Beside g [])) (is_alias s.threads a) _ (updates g (named (atom a)) (make_queue s.count (Some a))) tt (make_beside g e s (named (atom a)) (make_queue s.count (Some a)) [] refl tt refl)
  threads_make (destroy_queue x) is = with_queue_makes g e s x (destroyed g x) (queue_for s.threads x) (destroyed_makes g e s x)
  threads_make look is = absurd is
  threads_make (call_clauses goal) is = absurd is
  threads_make (inspected_clauses goal) is = absurd is
  threads_make (retracted_clauses goal) is = absurd is
  threads_make (cleared_clauses goal) is = absurd is
  threads_make (erase_clause j) is = absurd is
  threads_make (assert_first c) is = absurd is
  threads_make (assert_last c) is = absurd is
  threads_make (consult_clause c) is = absurd is
  threads_make (abolish_procedure p) is = absurd is
  threads_make (make_dynamic ps) is = absurd is
  threads_make all_procedures is = absurd is
  threads_make (put_operators p k fs) is = absurd is
  threads_make read_operators is = absurd is
  threads_make (put_flag f v) is = absurd is
  threads_make all_flags is = absurd is
  threads_make collect_atoms is = absurd is
  threads_make collect_clauses is = absurd is

  less : (cs : List Called) (x : Served) → MakesOnly (Beside g cs) x → MakesOnly (Plain g) x
  less cs (answers r None) m = tt
  less cs (answers r (Some k)) m = (m.0, m.1)
  less cs waits m = tt

  -- WHAT EACH UPDATE IS with which a request is answered
  pub all_make : (r : Request) → MakesOnly (Plain g) (serve e r s g)
  unfolding serve
  all_make look = tt
  all_make (call_clauses goal) = either (MakesOnly (Plain g)) (is_known s.database (proc_of goal)) (answers (listed (clauses_for s g goal)) None) (unknown_called s.flags.unknown (proc_of goal)) tt (unknowns g e s s.flags.unknown (proc_of goal))
  all_make (inspected_clauses goal) = either (MakesOnly (Plain g)) (is_static s.database (proc_of goal)) _ (answers (listed (clauses_for s g goal)) None) tt tt
  all_make (retracted_clauses goal) = either (MakesOnly (Plain g)) (is_static s.database (proc_of goal)) _ (answers (listed (clauses_for s g goal)) None) tt tt
  all_make (cleared_clauses goal) = either (MakesOnly (Plain g)) (is_static s.database (proc_of goal)) _ (cleared g (is_known s.database (proc_of goal)) (proc_of goal) (clauses_for s g goal)) tt (clears g e s (is_known s.database (proc_of goal)) (proc_of goal) (clauses_for s g goal))
  all_make (erase_clause j) = either (MakesOnly (Plain g)) (is_there j s.database) (updates g done (erase j)) (answers gone None) (make g e s done (erase j) refl) tt
  all_make (assert_first c) = asserts g e s c (add_first (proc_of c.head) c assert) refl
  all_make (assert_last c) = asserts g e s c (add_last (proc_of c.head) c assert) refl
  all_make (consult_clause c) = either (MakesOnly (Plain g)) (is_system (proc_of c.head)) _ (added s g c (add_last (proc_of c.head) c consult)) tt (adds g e s c (add_last (proc_of c.head) c consult) refl)
  all_make (abolish_procedure p) = modifies g e s (p ∷ []) (abolish p) refl
  all_make (make_dynamic ps) = modifies g e s ps (set_dynamic ps) refl
  all_make all_procedures = tt
  all_make (put_operators p k fs) = puts g e s p k fs (operators_error s.operators p k fs)
  all_make read_operators = tt
  all_make (put_flag f v) = make g e s done (set_flag f v) refl
  all_make all_flags = tt
  all_make collect_atoms = tt
  all_make collect_clauses = tt
  all_make own_name = less (calls_in own_name s) (serve e own_name s g) (threads_make own_name tt)
  all_make (create_thread t as₁ x) = less (calls_in (create_thread t as₁ x) s) (serve e (create_thread t as₁ x) s g) (threads_make (create_thread t as₁ x) tt)
  all_make (start_goal n t) = less (calls_in (start_goal n t) s) (serve e (start_goal n t) s g) (threads_make (start_goal n t) tt)
  all_make (join_thread x) = less (calls_in (join_thread x) s) (serve e (join_thread x) s g) (threads_make (join_thread x) tt)
  all_make (send_message x t) = less (calls_in (send_message x t) s) (serve e (send_message x t) s g) (threads_make (send_message x t) tt)
  all_make (get_message x t) = less (calls_in (get_message x t) s) (serve e (get_message x t) s g) (threads_make (get_message x t) tt)
  all_make (peek_message x t) = less (calls_in (peek_message x t) s) (serve e (peek_message x t) s g) (threads_make (peek_message x t) tt)
  all_make (create_queue a) = less (calls_in (create_queue a) s) (serve e (create_queue a) s g) (threads_make (create_queue a) tt)
  all_make (destroy_queue x) = less (calls_in (destroy_queue x) s) (serve e (destroy_queue x) s g) (threads_make (destroy_queue x) tt)

-- THE UPDATE THAT IS PICKED is no engine's end
plain_by : (g : ℕ) (x : Served) → MakesOnly (Plain g) x → is_end (kind_or_any (update_of x)) ≡ false
plain_by g (answers r None) m = refl
plain_by g (answers r (Some k)) m = m.1
plain_by g waits m = refl

module _ (e goals : ℕ) (h : History) (q : Request) where
  pub plain_kind : is_end (kind_of e goals h q) ≡ false
  plain_kind = plain_by (length h) (served_now e goals h q) (all_make (length h) e (state_at goals h (length h)) q)

  -- it is the one with which the request is answered
  pub kind_is : (r : Reply) (k : Kind) → served_now e goals h q ≡ answers r (Some k) → k ≡ kind_of e goals h q
  kind_is r k served = sym (ap (λ (x : Served). kind_or_any (update_of x)) served)

  pub made_plain : (r : Reply) (k : Kind) → served_now e goals h q ≡ answers r (Some k) → (length h < 2 ^ 47) × (is_end k ≡ false)
  made_plain r k served = subst (MakesOnly (Plain (length h))) served (all_make (length h) e (state_at goals h (length h)) q)

  pub made_beside : IsOfThreads q → (r : Reply) (k : Kind) → served_now e goals h q ≡ answers r (Some k) → (length h < 2 ^ 47) × (is_end k ≡ false) × IsElsewhere k × (called_by k ≡ calls_in q (state_at goals h (length h)))
  made_beside is r k served = subst (MakesOnly (Beside (length h) (calls_in q (state_at goals h (length h))))) served (threads_make (length h) e (state_at goals h (length h)) q is)
