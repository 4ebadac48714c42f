-- What is held, with each message and goal as the term for which it stands, and the answers of the shared state that are
-- due by it (SWI-Prolog manual, section 'Multithreaded applications').
use Rattle.std.specs.Prelude.{◌≡◌, ℕ, zero, List, [], ◌∷◌, map, Option, Some, None, option_map, ◌==◌, if◌then◌else◌, codes, pos}
use Rattle.pl_term.specs.Tree.{Chars, Tree, int, atom}
use Rattle.pl_term.specs.Variables.{rename}
use Rattle.pl_model.specs.declared.threads.Name.{Name}
use Rattle.pl_model.specs.declared.threads.Message.{Message}
use Rattle.pl_model.specs.declared.threads.Status.{Status}
use Rattle.pl_model.specs.declared.threads.Status.TheVariants.{Succeeded, Failed, Exception, Exited, Halted, AtomSpace}
use Rattle.pl_model.specs.declared.threads.Thread.{Thread}
use Rattle.pl_model.specs.ErrorTerms.{existence_error, permission_error, resource_error}
use Rattle.pl_model.specs.History.{make_queue, drop_queue, send, start}
use Rattle.pl_model.specs.Threads.{Queue, Threads, alias_of, is_alias, queue_named, queue_numbered, thread_named, first_message, goal_alias, queue_made, queue_dropped, message_sent, message_taken, thread_started, thread_ended, thread_joined}
use Rattle.pl_model.specs.SharedState.{SharedState}
use Rattle.pl_model.specs.Requests.{own_name, create_thread, start_goal, join_thread, send_message, get_message, peek_message, create_queue, destroy_queue, named, done}
use Rattle.pl_model.specs.Service.{Served, serve, reads, refuses, updates, name_of, name_term, no_queue, matches, got, peeked, ended, alias_taken}
use Rattle.hub_threads.specs.declared.held.fault.QueueFault.{QueueFault}
use Rattle.hub_threads.specs.declared.held.fault.QueueFault.TheVariants.{OwnQueue, AliasTaken}
use Rattle.hub_threads.specs.Refusals.{make_refusal, start_refusal, drop_refusal}

abbrev pub message_as : {M : Type 0} → (M → Tree) → Message M → Message Tree
message_as term m = record { place = m.place; content = term m.content }

abbrev pub queue_as : {M : Type 0} → (M → Tree) → Queue M → Queue Tree
queue_as term q = record { number = q.number; is_own = q.is_own; messages = map (message_as term) q.messages }

abbrev pub status_as : {M : Type 0} → (M → Tree) → Status M → Status Tree
status_as term Succeeded = Succeeded
status_as term Failed = Failed
status_as term (Exception b) = Exception (term b)
status_as term (Exited t) = Exited (term t)
status_as term (Halted n) = Halted n
status_as term AtomSpace = AtomSpace

abbrev pub thread_as : {M : Type 0} → (M → Tree) → Thread M → Thread Tree
thread_as term h = record { number = h.number; status = option_map (status_as term) h.status }

abbrev pub threads_as : {M : Type 0} → (M → Tree) → Threads M → Threads Tree
threads_as term t =
    record {
      aliases = t.aliases;
      queues = map (queue_as term) t.queues;
      threads = map (thread_as term) t.threads;
      joined = t.joined;
    }

-- The errors by their causes.
abbrev pub no_thread : Tree → Served
no_thread x = refuses (existence_error (codes "thread") x)

abbrev pub drop_error : Tree → QueueFault → Served
drop_error x OwnQueue = refuses (permission_error (codes "destroy") (codes "message_queue") x)
drop_error x _ = no_queue x

abbrev pub start_error : Chars → QueueFault → Served
start_error a AliasTaken = alias_taken (codes "thread") a
start_error a _ = refuses (resource_error (codes "threads"))

-- The answer, or the error by its cause.
abbrev pub unless : Option QueueFault → (QueueFault → Served) → Served → Served
unless None error answer = answer
unless (Some c) error answer = error c

-- A message that was found, or none.
abbrev pub found : {M : Type 0} → (M → Tree) → Tree → Queue M → Option (Message Tree)
found term pattern q = option_map (message_as term) (first_message (λ m. matches pattern (term m)) q)

-- What the shared state answers to an engine `e` at a generation `g`, by what is held: which cause refuses a request, what
-- is found, and which update is made. `x` is a term that is a name.
pub record Serves {M : Type 0} (term : M → Tree) (t : Threads M) (s : SharedState) : Type 0 where
  pub makes : (e g : ℕ) (a : Chars)
      → serve e (create_queue (Some a)) s g
      ≡ unless (make_refusal t (Some a)) (λ c. alias_taken (codes "message_queue") a) (updates g (named (atom a)) (make_queue s.count (Some a)))
  pub drops : (e g : ℕ) (x : Tree) (n : Name)
      → name_of x ≡ Some n
      → serve e (destroy_queue x) s g
      ≡ unless (drop_refusal t n) (drop_error x)
      (elim (queue_named t n) [ None ↦ no_queue x | Some q ↦ updates g done (drop_queue q.number) ])
  pub sends : (e g : ℕ) (x m : Tree) (n : Name)
      → name_of x ≡ Some n
      → serve e (send_message x m) s g
      ≡ elim (queue_named t n) [ None ↦ no_queue x | Some q ↦ updates g done (send q.number (rename zero m)) ]
  pub gets : (e g : ℕ) (x p : Tree) (n : Name)
      → name_of x ≡ Some n
      → serve e (get_message (Some x) p) s g
      ≡ elim (queue_named t n) [ None ↦ no_queue x | Some q ↦ got g (found term p q) ]
  pub gets_own : (e g : ℕ) (p : Tree)
      → serve e (get_message None p) s g
      ≡ elim (queue_numbered t e) [ None ↦ no_queue (int (pos e)) | Some q ↦ got g (found term p q) ]
  pub peeks : (e g : ℕ) (x p : Tree) (n : Name)
      → name_of x ≡ Some n
      → serve e (peek_message (Some x) p) s g
      ≡ elim (queue_named t n) [ None ↦ no_queue x | Some q ↦ peeked (found term p q) ]
  pub peeks_own : (e g : ℕ) (p : Tree)
      → serve e (peek_message None p) s g
      ≡ elim (queue_numbered t e) [ None ↦ no_queue (int (pos e)) | Some q ↦ peeked (found term p q) ]
  pub starts : (e g n : ℕ) (goal : Tree)
      → serve e (start_goal n goal) s g
      ≡ unless (start_refusal t (Some (goal_alias n))) (start_error (goal_alias n))
      (updates g done (start n (rename zero goal) (Some (goal_alias n))))
  pub creates : (e g : ℕ) (goal : Tree) (a : Chars)
      → serve e (create_thread goal (a ∷ []) None) s g
      ≡ unless (start_refusal t (Some a)) (start_error a) (updates g (named (atom a)) (start s.count (rename zero goal) (Some a)))
  pub creates_unnamed : (e g : ℕ) (goal : Tree)
      → serve e (create_thread goal [] None) s g
      ≡ unless (start_refusal t None) (start_error []) (updates g (named (int (pos s.count))) (start s.count (rename zero goal) None))
  -- Of several aliases each is checked in turn, and the last one counts; an option that is wrong is refused after them.
  pub creates_next : (e g : ℕ) (goal : Tree) (a b : Chars) (as₁ : List Chars) (error : Option Tree)
      → serve e (create_thread goal (a ∷ b ∷ as₁) error) s g
      ≡ (if is_alias t a then alias_taken (codes "thread") a else serve e (create_thread goal (b ∷ as₁) error) s g)
  pub creates_wrong : (e g : ℕ) (goal : Tree) (a : Chars) (error : Tree)
      → serve e (create_thread goal (a ∷ []) (Some error)) s g
      ≡ (if is_alias t a then alias_taken (codes "thread") a else refuses error)
  pub names : (e g : ℕ) → serve e own_name s g ≡ reads (named (name_term e (alias_of t e)))
  pub joins : (e g : ℕ) (x : Tree) (n : Name)
      → name_of x ≡ Some n
      → serve e (join_thread x) s g
      ≡ elim (thread_named t n) [
        | None ↦ no_thread x
        | Some h ↦ if h.number == e then refuses (permission_error (codes "join") (codes "thread") x) else ended g h.number (option_map (status_as term) h.status)
      ]

-- Each change of what is held is the same change of what it stands for.
pub record Changes {M : Type 0} (term : M → Tree) (t : Threads M) : Type 0 where
  pub made : (n : ℕ) (a : Option Chars) → threads_as term (queue_made n a t) ≡ queue_made n a (threads_as term t)
  pub dropped : (n : ℕ) → threads_as term (queue_dropped n t) ≡ queue_dropped n (threads_as term t)
  pub sent : (n k : ℕ) (m : M) → threads_as term (message_sent n k m t) ≡ message_sent n k (term m) (threads_as term t)
  pub taken : (k : ℕ) → threads_as term (message_taken k t) ≡ message_taken k (threads_as term t)
  pub started : (n : ℕ) (a : Option Chars) → threads_as term (thread_started n a t) ≡ thread_started n a (threads_as term t)
  pub ended : (n : ℕ) (how : Status M) → threads_as term (thread_ended n how t) ≡ thread_ended n (status_as term how) (threads_as term t)
  pub joined : (n : ℕ) → threads_as term (thread_joined n t) ≡ thread_joined n (threads_as term t)
