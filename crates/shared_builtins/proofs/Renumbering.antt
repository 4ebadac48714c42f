-- A request whose variables are numbered from 0 is answered as it is, but that the error of a refusal is numbered so too.
use Rattle.std.proofs.Common.{◌≡◌, ◌⊎◌, inl, inr, ℕ, zero, ◌+◌, pos, negsuc, Bool, true, false, List, [], ◌∷◌, ◌++◌, length, Option, Some, None, codes, refl, sym, ap, ap₂, subst, ◌∙◌, append-nil}
use Rattle.std.specs.Prelude.{if◌then◌else◌, nat_le, is_some, option_map, option_and_then}
use Rattle.std.specs.List.{Contains}
use Rattle.pl_term.specs.Tree.{Chars, Tree, Trees, var, int, atom, comp, none, more}
use Rattle.pl_term.specs.Variables.{distinct, occurrences, place, rename, rename_all_by, rename_by, variables}
use Rattle.pl_model.specs.declared.operators.Kind.{Kind as OperatorKind}
use Rattle.pl_model.specs.declared.threads.Message.{Message}
use Rattle.pl_model.specs.declared.threads.On.TheVariants.{Queue as OnQueue, Thread as OnThread}
use Rattle.pl_model.specs.declared.threads.Status.{Status}
use Rattle.pl_model.specs.declared.threads.Thread.{Thread}
use Rattle.pl_model.specs.Database.{Stored, is_static}
use Rattle.pl_model.specs.ErrorTerms.{existence_error, permission_error}
use Rattle.pl_model.specs.Errors.{static_procedure}
use Rattle.pl_model.specs.Flags.{Unknown, raises, fails}
use Rattle.pl_model.specs.History.{Clause, History, Kind, Proc, drop_queue, send, set_dynamic, start}
use Rattle.pl_model.specs.OperatorTable.{OperatorTable, Refusal, priority, specifier, comma, reserved, infix_postfix, refusal}
use Rattle.pl_model.specs.Requests.{Request, Reply, look, call_clauses, inspected_clauses, retracted_clauses, cleared_clauses, erase_clause, assert_first, assert_last, consult_clause, abolish_procedure, make_dynamic, all_procedures, put_operators, read_operators, put_flag, all_flags, own_name, create_thread, start_goal, join_thread, send_message, get_message, peek_message, create_queue, destroy_queue, collect_atoms, collect_clauses, listed, named, message, no_message, status, done, refused}
use Rattle.pl_model.specs.Service.{Served, answers, waits, updates, serve, served_now, refuses, alias_taken, unknown_called, cleared, added, modified, most_updates, name_of, operator_error, operators_error, operators_put, got, peeked, with_queue, ended, joined, started, created, destroyed, matches, on_of, queue_term, queue_asked, queue_for, thread_for}
use Rattle.pl_model.specs.SharedState.{SharedState, state_at}
use Rattle.pl_model.specs.Threads.{Queue, Threads, is_alias, first_message, has_engine, queue_named, thread_named}
use Rattle.pl_model.specs.Unify.{unify}
use Rattle.world_api.specs.Asked.{handed_texts, texts_in, texts_in_all}
use Rattle.shared_builtins.specs.Following.{IsErrorBy}
use Rattle.shared_builtins.specs.Replies.{renumbered_reply, renumbered_served}
use Rattle.shared_builtins.specs.Shared.{renumbered}
use Rattle.shared_builtins.proofs.Numbering.{renamed_again, renamed_none, variables-renamed}

-- Parts of answers

abbrev R : Served → Served
R a = renumbered_served a

if_same : (b : Bool) (x y u v : Served) → R x ≡ u → R y ≡ v → R (if b then x else y) ≡ (if b then u else v)
if_same true x y u v p q = p
if_same false x y u v p q = q

updates_same : (g : ℕ) (r : Reply) (k l : Kind) → renumbered_reply r ≡ r → k ≡ l → R (updates g r k) ≡ updates g r l
updates_same g r k l p q = if_same (nat_le most_updates g) _ _ _ _ refl (ap₂ (λ x y. answers x (Some y)) p q)

-- Errors with a term in them

pub renamed_kind : (f k : Chars) (x : Tree) → rename zero (comp f (atom k) (more x none)) ≡ comp f (atom k) (more (rename zero x) none)
renamed_kind f k x =
    ap (λ (xs : List ℕ). comp f (atom k) (more (rename_by (λ y. zero + place y (distinct xs)) x) none)) (append-nil (occurrences x))

pub renamed_action : (f d k : Chars) (x : Tree) → rename zero (comp f (atom d) (more (atom k) (more x none))) ≡ comp f (atom d) (more (atom k) (more (rename zero x) none))
renamed_action f d k x =
    ap (λ (xs : List ℕ). comp f (atom d) (more (atom k) (more (rename_by (λ y. zero + place y (distinct xs)) x) none))) (append-nil (occurrences x))

-- Names

pub name_same : (x : Tree) → name_of (rename zero x) ≡ name_of x
name_same (var y) = refl
name_same (int (pos n)) = refl
name_same (int (negsuc n)) = refl
name_same (atom a) = refl
name_same (comp f t ts) = refl

queue_same : (t : Threads Tree) (x : Tree) → queue_for t (rename zero x) ≡ queue_for t x
queue_same t x = ap (λ o. option_and_then (queue_named t) o) (name_same x)

thread_same : (t : Threads Tree) (x : Tree) → thread_for t (rename zero x) ≡ thread_for t x
thread_same t x = ap (λ o. option_and_then (thread_named t) o) (name_same x)

queue_term_same : (e : ℕ) (x : Option Tree) → queue_term e (option_map (rename zero) x) ≡ rename zero (queue_term e x)
queue_term_same e None = refl
queue_term_same e (Some x) = refl

asked_same : (t : Threads Tree) (e : ℕ) (x : Option Tree) → queue_asked t e (option_map (rename zero) x) ≡ queue_asked t e x
asked_same t e None = refl
asked_same t e (Some x) = queue_same t x

-- Each part of the service

unknown_same : (u : Unknown) (p : Proc) → R (unknown_called u p) ≡ unknown_called u p
unknown_same raises p = refl
unknown_same fails p = refl

cleared_same : (g : ℕ) (b : Bool) (p : Proc) (cs : List (Stored Clause)) → R (cleared g b p cs) ≡ cleared g b p cs
cleared_same g true p cs = refl
cleared_same g false p cs = updates_same g (listed []) (set_dynamic (p ∷ [])) (set_dynamic (p ∷ [])) refl refl

added_same : (s : SharedState) (g : ℕ) (c : Clause) (k : Kind) → R (added s g c k) ≡ added s g c k
added_same s g c k = if_same _ _ _ _ _ (updates_same g done k k refl refl) refl

modified_same : (s : SharedState) (g : ℕ) (ps : List Proc) (k : Kind) → R (modified s g ps k) ≡ modified s g ps k
modified_same s g [] k = updates_same g done k k refl refl
modified_same s g (p ∷ ps) k = if_same (is_static s.database p) (refuses (static_procedure p)) (modified s g ps k) _ _ refl (modified_same s g ps k)

operator_same : (p : ℕ) (f : Chars) (r : Refusal) → rename zero (operator_error p f r) ≡ operator_error p f r
operator_same p f priority = refl
operator_same p f specifier = refl
operator_same p f comma = refl
operator_same p f reserved = refl
operator_same p f infix_postfix = refl

operators_same : (t : OperatorTable) (g p : ℕ) (k : OperatorKind) (gs fs : List Chars)
    → R (operators_put g p k gs (operators_error t p k fs)) ≡ operators_put g p k gs (operators_error t p k fs)
operators_same t g p k gs [] = updates_same g done _ _ refl refl
operators_same t g p k gs (f ∷ fs) = go (refusal t p (Some k) f) (operators_same t g p k gs fs)
  where
    go : (o : Option Refusal) → R (operators_put g p k gs (operators_error t p k fs)) ≡ operators_put g p k gs (operators_error t p k fs)
        → R (operators_put g p k gs (elim o [ None ↦ operators_error t p k fs | Some r ↦ Some (operator_error p f r) ]))
        ≡ operators_put g p k gs (elim o [ None ↦ operators_error t p k fs | Some r ↦ Some (operator_error p f r) ])
    go None rest = rest
    go (Some r) rest = ap refuses (operator_same p f r)

started_same : (s : SharedState) (g n : ℕ) (goal : Tree) (a : Option Chars) (r : Reply) → renumbered_reply r ≡ r
    → R (started s g n goal a r) ≡ started s g n (rename zero goal) a r
started_same s g n goal a r e =
    if_same (has_engine s.threads) _ _ _ _ (updates_same g r (start n (rename zero goal) a) (start n (rename zero (rename zero goal)) a) e (ap (λ t. start n t a) (sym (renamed_again goal)))) refl

created_same : (s : SharedState) (g : ℕ) (goal : Tree) (last : Option Chars) (ks : List Chars) (e : Option Tree)
    → R (created s g goal last ks e) ≡ created s g (rename zero goal) last ks (option_map (rename zero) e)
created_same s g goal last (a ∷ ks) e =
    if_same (is_alias s.threads a) (alias_taken (codes "thread") a) (created s g goal (Some a) ks e) _ _ refl (created_same s g goal (Some a) ks e)
created_same s g goal last [] (Some e) = refl
created_same s g goal last [] None = started_same s g s.count goal last _ refl

ended_same : (g n : ℕ) (h : Option (Status Tree)) → R (ended g n h) ≡ ended g n h
ended_same g n None = refl
ended_same g n (Some h) = updates_same g _ _ _ refl refl

joined_same : (e g : ℕ) (x : Tree) (h : Option (Thread Tree)) → R (joined e g x h) ≡ joined e g (rename zero x) h
joined_same e g x None = ap refuses (renamed_kind (codes "existence_error") (codes "thread") x)
joined_same e g x (Some h) =
    if_same _ _ (ended g h.number h.status) _ _ (ap refuses (renamed_action (codes "permission_error") (codes "join") (codes "thread") x)) (ended_same g h.number h.status)

with_queue_same : (x : Tree) (next after : Queue Tree → Served) (o : Option (Queue Tree)) → ((q : Queue Tree) → R (next q) ≡ after q)
    → R (with_queue x next o) ≡ with_queue (rename zero x) after o
with_queue_same x next after None h = ap refuses (renamed_kind (codes "existence_error") (codes "message_queue") x)
with_queue_same x next after (Some q) h = h q

got_same : (g : ℕ) (o : Option (Message Tree)) → R (got g o) ≡ got g o
got_same g None = refl
got_same g (Some m) = updates_same g _ _ _ refl refl

peeked_same : (o : Option (Message Tree)) → R (peeked o) ≡ peeked o
peeked_same None = refl
peeked_same (Some m) = refl

-- The first message that unifies is the same.
first_same : (t : Tree) (q : Queue Tree) → first_message (matches (rename zero t)) q ≡ first_message (matches t) q
first_same t q =
    ap₂ (λ (u : Tree) (n : ℕ). first_message (λ (m : Tree). is_some (unify u (rename n m))) q) (renamed_again t) (variables-renamed t)

destroyed_same : (g : ℕ) (x : Tree) (q : Queue Tree) → R (destroyed g x q) ≡ destroyed g (rename zero x) q
destroyed_same g x q =
    if_same q.is_own _ (updates g done (drop_queue q.number)) _ _ (ap refuses (renamed_action (codes "permission_error") (codes "destroy") (codes "message_queue") x))
    (updates_same g done (drop_queue q.number) (drop_queue q.number) refl refl)

-- The service

serves_same : (e : ℕ) (q : Request) (s : SharedState) (g : ℕ) → R (serve e q s g) ≡ serve e (renumbered q) s g
unfolding serve
serves_same e look s g = refl
serves_same e (call_clauses t) s g = if_same _ _ (unknown_called s.flags.unknown _) _ _ refl (unknown_same s.flags.unknown _)
serves_same e (inspected_clauses t) s g = if_same _ _ _ _ _ refl refl
serves_same e (retracted_clauses t) s g = if_same _ _ _ _ _ refl refl
serves_same e (cleared_clauses t) s g = if_same _ _ _ _ _ refl (cleared_same g _ _ _)
serves_same e (erase_clause j) s g = if_same _ _ _ _ _ (updates_same g done _ _ refl refl) refl
serves_same e (assert_first c) s g = if_same _ _ _ _ _ refl (added_same s g c _)
serves_same e (assert_last c) s g = if_same _ _ _ _ _ refl (added_same s g c _)
serves_same e (consult_clause c) s g = if_same _ _ _ _ _ refl (added_same s g c _)
serves_same e (abolish_procedure p) s g = modified_same s g (p ∷ []) _
serves_same e (make_dynamic ps) s g = modified_same s g ps _
serves_same e all_procedures s g = refl
serves_same e (put_operators p k fs) s g = operators_same s.operators g p k fs fs
serves_same e read_operators s g = refl
serves_same e (put_flag f v) s g = updates_same g done _ _ refl refl
serves_same e all_flags s g = refl
serves_same e own_name s g = refl
serves_same e (create_thread goal ks error) s g = created_same s g goal None ks error
serves_same e (start_goal n goal) s g = if_same _ _ _ _ _ refl (if_same _ _ _ _ _ (updates_same g done _ _ refl refl) refl)
serves_same e (join_thread x) s g = joined_same e g x (thread_for s.threads x) ∙ ap (joined e g (rename zero x)) (sym (thread_same s.threads x))
serves_same e (send_message x t) s g =
    with_queue_same x (λ u. updates g done (send u.number (rename zero t))) (λ u. updates g done (send u.number (rename zero (rename zero t)))) (queue_for s.threads x)
    (λ u. updates_same g done (send u.number (rename zero t)) (send u.number (rename zero (rename zero t))) refl (ap (send u.number) (sym (renamed_again t))))
    ∙ ap (with_queue (rename zero x) (λ u. updates g done (send u.number (rename zero (rename zero t))))) (sym (queue_same s.threads x))
serves_same e (get_message x t) s g =
    with_queue_same (queue_term e x) (λ u. got g (first_message (matches t) u)) (λ u. got g (first_message (matches (rename zero t)) u)) (queue_asked s.threads e x)
    (λ u. got_same g (first_message (matches t) u) ∙ ap (got g) (sym (first_same t u)))
    ∙ ap₂ (λ y o. with_queue y (λ u. got g (first_message (matches (rename zero t)) u)) o) (sym (queue_term_same e x)) (sym (asked_same s.threads e x))
serves_same e (peek_message x t) s g =
    with_queue_same (queue_term e x) (λ u. peeked (first_message (matches t) u)) (λ u. peeked (first_message (matches (rename zero t)) u)) (queue_asked s.threads e x)
    (λ u. peeked_same (first_message (matches t) u) ∙ ap peeked (sym (first_same t u)))
    ∙ ap₂ (λ y o. with_queue y (λ u. peeked (first_message (matches (rename zero t)) u)) o) (sym (queue_term_same e x)) (sym (asked_same s.threads e x))
serves_same e (create_queue None) s g = updates_same g _ _ _ refl refl
serves_same e (create_queue (Some a)) s g = if_same _ _ _ _ _ refl (updates_same g _ _ _ refl refl)
serves_same e (destroy_queue x) s g =
    with_queue_same x (destroyed g x) (destroyed g (rename zero x)) (queue_for s.threads x) (destroyed_same g x)
    ∙ ap (with_queue (rename zero x) (destroyed g (rename zero x))) (sym (queue_same s.threads x))
serves_same e collect_atoms s g = refl
serves_same e collect_clauses s g = refl

pub served_renumbered : (e goals : ℕ) (h : History) (q : Request) → served_now e goals h (renumbered q) ≡ renumbered_served (served_now e goals h q)
served_renumbered e goals h q = sym (serves_same e q (state_at goals h (length h)) (length h))

-- What is waited on

pub on_renumbered : (e : ℕ) (q : Request) → on_of e (renumbered q) ≡ on_of e q
on_renumbered e (join_thread x) = ap (option_map OnThread) (name_same x)
on_renumbered e (get_message x t) = ap (λ y. option_map OnQueue (name_of y)) (queue_term_same e x) ∙ ap (option_map OnQueue) (name_same (queue_term e x))
on_renumbered e q = refl

-- The texts that are handed

mutual
  texts-renamed : (f : ℕ → ℕ) (t : Tree) → texts_in (rename_by f t) ≡ texts_in t
  texts-renamed f (var x) = refl
  texts-renamed f (int i) = refl
  texts-renamed f (atom a) = refl
  texts-renamed f (comp g t ts) = ap₂ (λ xs ys. g ∷ (xs ++ ys)) (texts-renamed f t) (texts_all-renamed f ts)

  texts_all-renamed : (f : ℕ → ℕ) (ts : Trees) → texts_in_all (rename_all_by f ts) ≡ texts_in_all ts
  texts_all-renamed f none = refl
  texts_all-renamed f (more t ts) = ap₂ (λ xs ys. xs ++ ys) (texts-renamed f t) (texts_all-renamed f ts)

handed_same : (r : Reply) → handed_texts (renumbered_reply r) ≡ handed_texts r
handed_same (refused e) = texts-renamed (λ x. zero + place x (variables e)) e
handed_same r = refl

pub handed_renumbered : (r : Reply) (c : Chars) → Contains (handed_texts (renumbered_reply r)) c → Contains (handed_texts r) c
handed_renumbered r c h = subst (λ xs. Contains xs c) (handed_same r) h

-- The error of a request that names no terms with variables

pub plain_refusal : (e : ℕ) (q : Request) (s : SharedState) (g : ℕ) (y : Tree) (k : Option Kind) → renumbered q ≡ q → serve e q s g ≡ answers (refused y) k → rename zero y ≡ y
plain_refusal e q s g y k same is = one_refusal y k (sym (ap R is) ∙ serves_same e q s g ∙ ap (λ p. serve e p s g) same ∙ is)
  where
    one_refusal : (y : Tree) (k : Option Kind) → answers (refused (rename zero y)) k ≡ answers (refused y) k → rename zero y ≡ y
    one_refusal y k e = cc

-- A message or its like that can be refused is refused for its name alone, or for a resource.
record Ground (a : Served) : Type 0 where
  ground : (y : Tree) (k : Option Kind) → a ≡ answers (refused y) k → variables y ≡ []

ground_refuses : (x : Tree) → variables x ≡ [] → Ground (refuses x)
ground_refuses x is = record { ground = λ y k e. let same : x ≡ y = cc in subst (λ z. variables z ≡ []) same is }

-- Such an error is numbered from 0 as it is.
as_it_is : (a : Served) → Ground a → (y : Tree) (k : Option Kind) → a ≡ answers (refused y) k → rename zero y ≡ y
as_it_is a h y k e = renamed_none y (h.ground y k e)

ground_if : (b : Bool) (x y : Served) → Ground x → Ground y → Ground (if b then x else y)
ground_if true x y p q = p
ground_if false x y p q = q

ground_done : (k : Option Kind) → Ground (answers done k)
ground_done k = record { ground = λ y l e. absurd cc }

ground_message : (t : Tree) (k : Option Kind) → Ground (answers (message t) k)
ground_message t k = record { ground = λ y l e. absurd cc }

ground_status : (t : Tree) (k : Option Kind) → Ground (answers (status t) k)
ground_status t k = record { ground = λ y l e. absurd cc }

ground_named : (t : Tree) (k : Option Kind) → Ground (answers (named t) k)
ground_named t k = record { ground = λ y l e. absurd cc }

ground_no_message : (k : Option Kind) → Ground (answers no_message k)
ground_no_message k = record { ground = λ y l e. absurd cc }

ground_waits : Ground waits
ground_waits = record { ground = λ y l e. absurd cc }

ground_updates : (g : ℕ) (r : Reply) (k : Kind) → Ground (answers r (Some k)) → Ground (updates g r k)
ground_updates g r k h = ground_if (nat_le most_updates g) _ (answers r (Some k)) (ground_refuses _ refl) h

ground_queue : (x : Tree) (next : Queue Tree → Served) (o : Option (Queue Tree)) → variables (existence_error (codes "message_queue") x) ≡ []
    → ((q : Queue Tree) → Ground (next q)) → Ground (with_queue x next o)
ground_queue x next None is h = ground_refuses _ is
ground_queue x next (Some q) is h = h q

ground_got : (g : ℕ) (o : Option (Message Tree)) → Ground (got g o)
ground_got g None = ground_waits
ground_got g (Some m) = ground_updates g (message m.content) _ (ground_message m.content _)

ground_peeked : (o : Option (Message Tree)) → Ground (peeked o)
ground_peeked None = ground_no_message None
ground_peeked (Some m) = ground_message m.content None

ground_ended : (g n : ℕ) (h : Option (Status Tree)) → Ground (ended g n h)
ground_ended g n None = ground_waits
ground_ended g n (Some h) = ground_updates g _ _ (ground_status _ _)

ground_joined : (e g : ℕ) (x : Tree) (h : Option (Thread Tree)) → variables (existence_error (codes "thread") x) ≡ []
    → variables (permission_error (codes "join") (codes "thread") x) ≡ [] → Ground (joined e g x h)
ground_joined e g x None p q = ground_refuses _ p
ground_joined e g x (Some h) p q = ground_if _ _ (ended g h.number h.status) (ground_refuses _ q) (ground_ended g h.number h.status)

ground_destroyed : (g : ℕ) (x : Tree) (q : Queue Tree) → variables (permission_error (codes "destroy") (codes "message_queue") x) ≡ []
    → Ground (destroyed g x q)
ground_destroyed g x q is = ground_if q.is_own _ (updates g done (drop_queue q.number)) (ground_refuses _ is) (ground_updates g done (drop_queue q.number) (ground_done _))

-- By the name: an atom, an integer, or none.

module _ (e : ℕ) (s : SharedState) (g : ℕ) (y : Tree) (k : Option Kind) where
  queue_error : (x : Tree) (next : Queue Tree → Served) → ((q : Queue Tree) → Ground (next q)) → with_queue x next (queue_for s.threads x) ≡ answers (refused y) k
      → IsErrorBy (Some (codes "message_queue")) x y
  queue_error (var z) next h is = let same : existence_error (codes "message_queue") (var z) ≡ y = cc in sym same
  queue_error (int (pos n)) next h is = as_it_is _ (ground_queue (int (pos n)) next (queue_for s.threads (int (pos n))) refl h) y k is
  queue_error (int (negsuc n)) next h is = as_it_is _ (ground_queue (int (negsuc n)) next None refl h) y k is
  queue_error (atom a) next h is = as_it_is _ (ground_queue (atom a) next (queue_for s.threads (atom a)) refl h) y k is
  queue_error (comp f u us) next h is = let same : existence_error (codes "message_queue") (comp f u us) ≡ y = cc in sym same

  pub send_error : (x t : Tree) → serve e (send_message x t) s g ≡ answers (refused y) k → IsErrorBy (Some (codes "message_queue")) x y
  unfolding serve
  send_error x t is = queue_error x (λ u. updates g done (send u.number (rename zero t))) (λ u. ground_updates g done _ (ground_done _)) is

  pub get_error : (x t : Tree) → serve e (get_message (Some x) t) s g ≡ answers (refused y) k → IsErrorBy (Some (codes "message_queue")) x y
  unfolding serve
  get_error x t is = queue_error x (λ u. got g (first_message (matches t) u)) (λ u. ground_got g (first_message (matches t) u)) is

  pub peek_error : (x t : Tree) → serve e (peek_message (Some x) t) s g ≡ answers (refused y) k → IsErrorBy (Some (codes "message_queue")) x y
  unfolding serve
  peek_error x t is = queue_error x (λ u. peeked (first_message (matches t) u)) (λ u. ground_peeked (first_message (matches t) u)) is

  pub own_get_error : (t : Tree) → serve e (get_message None t) s g ≡ answers (refused y) k → rename zero y ≡ y
  unfolding serve
  own_get_error t is =
      as_it_is _ (ground_queue (int (pos e)) (λ u. got g (first_message (matches t) u)) (queue_asked s.threads e None) refl (λ u. ground_got g (first_message (matches t) u))) y k is

  pub own_peek_error : (t : Tree) → serve e (peek_message None t) s g ≡ answers (refused y) k → rename zero y ≡ y
  unfolding serve
  own_peek_error t is =
      as_it_is _ (ground_queue (int (pos e)) (λ u. peeked (first_message (matches t) u)) (queue_asked s.threads e None) refl (λ u. ground_peeked (first_message (matches t) u))) y k is

  pub destroy_error : (x : Tree) → serve e (destroy_queue x) s g ≡ answers (refused y) k → IsErrorBy (Some (codes "message_queue")) x y
  unfolding serve
  destroy_error (var z) is = let same : existence_error (codes "message_queue") (var z) ≡ y = cc in sym same
  destroy_error (int (pos n)) is =
      as_it_is _ (ground_queue (int (pos n)) (destroyed g (int (pos n))) (queue_for s.threads (int (pos n))) refl (λ u. ground_destroyed g (int (pos n)) u refl)) y k is
  destroy_error (int (negsuc n)) is = as_it_is _ (ground_queue (int (negsuc n)) (destroyed g (int (negsuc n))) None refl (λ u. ground_destroyed g (int (negsuc n)) u refl)) y k is
  destroy_error (atom a) is =
      as_it_is _ (ground_queue (atom a) (destroyed g (atom a)) (queue_for s.threads (atom a)) refl (λ u. ground_destroyed g (atom a) u refl)) y k is
  destroy_error (comp f u us) is = let same : existence_error (codes "message_queue") (comp f u us) ≡ y = cc in sym same

  pub join_error : (x : Tree) → serve e (join_thread x) s g ≡ answers (refused y) k → IsErrorBy (Some (codes "thread")) x y
  unfolding serve
  join_error (var z) is = let same : existence_error (codes "thread") (var z) ≡ y = cc in sym same
  join_error (int (pos n)) is = as_it_is _ (ground_joined e g (int (pos n)) (thread_for s.threads (int (pos n))) refl refl) y k is
  join_error (int (negsuc n)) is = as_it_is _ (ground_joined e g (int (negsuc n)) None refl refl) y k is
  join_error (atom a) is = as_it_is _ (ground_joined e g (atom a) (thread_for s.threads (atom a)) refl refl) y k is
  join_error (comp f u us) is = let same : existence_error (codes "thread") (comp f u us) ≡ y = cc in sym same

  -- That of the creation of a thread is the one that is asked with, or has no variables.
  pub created_error : (goal : Tree) (last : Option Chars) (ks : List Chars) (o : Option Tree) → created s g goal last ks o ≡ answers (refused y) k
      → (variables y ≡ []) ⊎ (o ≡ Some y)
  created_error goal last [] (Some x) is = inr cc
  created_error goal last [] None is =
      inl ((ground_if (has_engine s.threads) _ _ (ground_updates g (named _) _ (ground_named _ _)) (ground_refuses _ refl)).ground y k is)
  created_error goal last (a ∷ ks) o is = go (is_alias s.threads a) is (created_error goal (Some a) ks o)
    where
      go : (b : Bool) → (if b then alias_taken (codes "thread") a else created s g goal (Some a) ks o) ≡ answers (refused y) k
          → (created s g goal (Some a) ks o ≡ answers (refused y) k → (variables y ≡ []) ⊎ (o ≡ Some y)) → (variables y ≡ []) ⊎ (o ≡ Some y)
      go true is rest = inl ((ground_refuses (permission_error (codes "create") (codes "thread") (atom a)) refl).ground y k is)
      go false is rest = rest is

  pub thread_error : (goal : Tree) (ks : List Chars) (o : Option Tree) → serve e (create_thread goal ks o) s g ≡ answers (refused y) k → (variables y ≡ []) ⊎ (o ≡ Some y)
  unfolding serve
  thread_error goal ks o is = created_error goal None ks o is

  -- Without options
  pub ground_create_error : (t : Tree) → serve e (create_thread t [] None) s g ≡ answers (refused y) k → variables y ≡ []
  unfolding serve
  ground_create_error t is = (ground_if (has_engine s.threads) _ _ (ground_updates g (named _) _ (ground_named _ _)) (ground_refuses _ refl)).ground y k is

  pub create_error : (t : Tree) → serve e (create_thread t [] None) s g ≡ answers (refused y) k → rename zero y ≡ y
  create_error t is = renamed_none y (ground_create_error t is)
