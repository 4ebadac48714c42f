-- Each request is answered by a reply that fits it.
use Rattle.std.proofs.Common.{◌≡◌, ℕ, zero, List, [], ◌∷◌, Option, Some, None, Bool, true, false, refl, subst}
use Rattle.std.specs.Prelude.{if◌then◌else◌, nat_le, codes}
use Rattle.pl_term.specs.Tree.{Chars, Tree}
use Rattle.pl_term.specs.Variables.{rename}
use Rattle.pl_model.specs.declared.operators.Kind.{Kind as OperatorKind}
use Rattle.pl_model.specs.History.{Proc, Clause, Kind, abolish, set_dynamic, drop_queue, send}
use Rattle.pl_model.specs.Errors.{static_procedure}
use Rattle.pl_model.specs.Flags.{Unknown, raises, fails}
use Rattle.pl_model.specs.Database.{Stored, is_static}
use Rattle.pl_model.specs.declared.threads.Message.{Message}
use Rattle.pl_model.specs.declared.threads.Status.{Status}
use Rattle.pl_model.specs.declared.threads.Thread.{Thread}
use Rattle.pl_model.specs.Threads.{Queue, is_alias, first_message}
use Rattle.pl_model.specs.SharedState.{SharedState}
use Rattle.pl_model.specs.Requests.{Request, Reply, look, call_clauses, inspected_clauses, retracted_clauses, cleared_clauses, erase_clause, assert_first, assert_last, consult_clause, abolish_procedure, make_dynamic, all_procedures, put_operators, read_operators, put_flag, all_flags, own_name, create_thread, start_goal, join_thread, send_message, get_message, peek_message, create_queue, destroy_queue, collect_atoms, collect_clauses, listed, named, done, refused, fits, Fits}
use Rattle.pl_model.specs.Service.{Served, answers, waits, most_updates, updates, serve, refuses, alias_taken, unknown_called, cleared, added, modified, operators_put, got, peeked, with_queue, ended, joined, started, created, destroyed, matches, queue_term, queue_asked, queue_for}

-- The answer to this request, if it is one, fits.
record Suits (q : Request) (a : Served) : Type 0 where
  suits : (r : Reply) (k : Option Kind) → a ≡ answers r k → Fits q r

-- The request can be refused.
abbrev CanFail : Request → Type 0
CanFail q = (e : Tree) → fits q (refused e) ≡ true

suits_answer : (q : Request) (r : Reply) (k : Option Kind) → fits q r ≡ true → Suits q (answers r k)
suits_answer q r k fit = record { suits = λ r' k' e. let same : r ≡ r' = cc in subst (λ (x : Reply). fits q x ≡ true) same fit }

suits_wait : (q : Request) → Suits q waits
suits_wait q = record { suits = λ r k e. absurd (cc) }

suits_refusal : (q : Request) (e : Tree) → CanFail q → Suits q (refuses e)
suits_refusal q e can = suits_answer q (refused e) None (can e)

suits_if : (b : Bool) (q : Request) (x y : Served) → Suits q x → Suits q y → Suits q (if b then x else y)
suits_if true q x y l r = l
suits_if false q x y l r = r

suits_updates : (q : Request) (g : ℕ) (r : Reply) (k : Kind) → CanFail q → fits q r ≡ true → Suits q (updates g r k)
suits_updates q g r k can fit =
    suits_if (nat_le most_updates g) q _ (answers r (Some k)) (suits_refusal q _ can) (suits_answer q r (Some k) fit)

suits_unknown : (t : Tree) (u : Unknown) (p : Proc) → Suits (call_clauses t) (unknown_called u p)
suits_unknown t raises p = suits_refusal (call_clauses t) _ (λ e. refl)
suits_unknown t fails p = suits_answer (call_clauses t) (listed []) None refl

suits_cleared : (t : Tree) (g : ℕ) (b : Bool) (p : Proc) (cs : List (Stored Clause)) → Suits (cleared_clauses t) (cleared g b p cs)
suits_cleared t g true p cs = suits_answer (cleared_clauses t) (listed cs) None refl
suits_cleared t g false p cs = suits_updates (cleared_clauses t) g (listed []) _ (λ e. refl) refl

suits_added : (q : Request) (s : SharedState) (g : ℕ) (c : Clause) (k : Kind)
    → CanFail q
    → fits q done ≡ true
    → Suits q (added s g c k)
suits_added q s g c k can fit =
    suits_if _ q (updates g done k) _ (suits_updates q g done k can fit) (suits_refusal q _ can)

suits_modified : (q : Request) (s : SharedState) (g : ℕ) (ps : List Proc) (k : Kind)
    → CanFail q
    → fits q done ≡ true
    → Suits q (modified s g ps k)
suits_modified q s g [] k can fit = suits_updates q g done k can fit
suits_modified q s g (p ∷ ps) k can fit =
    suits_if
    (is_static s.database p)
    q
    (refuses (static_procedure p))
    (modified s g ps k)
    (suits_refusal q _ can)
    (suits_modified q s g ps k can fit)

suits_operators : (q : Request) (g p : ℕ) (k : OperatorKind) (fs : List Chars) (e : Option Tree)
    → CanFail q
    → fits q done ≡ true
    → Suits q (operators_put g p k fs e)
suits_operators q g p k fs None can fit = suits_updates q g done _ can fit
suits_operators q g p k fs (Some e) can fit = suits_refusal q e can

suits_got : (x : Option Tree) (t : Tree) (g : ℕ) (m : Option (Message Tree)) → Suits (get_message x t) (got g m)
suits_got x t g None = suits_wait (get_message x t)
suits_got x t g (Some m) = suits_updates (get_message x t) g _ _ (λ e. refl) refl

suits_peeked : (x : Option Tree) (t : Tree) (m : Option (Message Tree)) → Suits (peek_message x t) (peeked m)
suits_peeked x t None = suits_answer (peek_message x t) _ None refl
suits_peeked x t (Some m) = suits_answer (peek_message x t) _ None refl

suits_queue : (q : Request) (x : Tree) (next : Queue Tree → Served) (o : Option (Queue Tree))
    → CanFail q
    → ((u : Queue Tree) → Suits q (next u))
    → Suits q (with_queue x next o)
suits_queue q x next None can each = suits_refusal q _ can
suits_queue q x next (Some u) can each = each u

suits_destroyed : (x : Tree) (g : ℕ) (u : Queue Tree) → Suits (destroy_queue x) (destroyed g x u)
suits_destroyed x g u =
    suits_if
    u.is_own
    (destroy_queue x)
    _
    (updates g done (drop_queue u.number))
    (suits_refusal (destroy_queue x) _ (λ e. refl))
    (suits_updates (destroy_queue x) g done (drop_queue u.number) (λ e. refl) refl)

suits_ended : (x : Tree) (g n : ℕ) (h : Option (Status Tree)) → Suits (join_thread x) (ended g n h)
suits_ended x g n None = suits_wait (join_thread x)
suits_ended x g n (Some h) = suits_updates (join_thread x) g _ _ (λ e. refl) refl

suits_joined : (x : Tree) (e g : ℕ) (h : Option (Thread Tree)) → Suits (join_thread x) (joined e g x h)
suits_joined x e g None = suits_refusal (join_thread x) _ (λ e. refl)
suits_joined x e g (Some h) =
    suits_if _ (join_thread x) _ (ended g h.number h.status) (suits_refusal (join_thread x) _ (λ e. refl)) (suits_ended x g h.number h.status)

suits_started : (q : Request) (s : SharedState) (g n : ℕ) (goal : Tree) (a : Option Chars) (r : Reply)
    → CanFail q
    → fits q r ≡ true
    → Suits q (started s g n goal a r)
suits_started q s g n goal a r can fit =
    suits_if _ q (updates g r _) _ (suits_updates q g r _ can fit) (suits_refusal q _ can)

suits_created : (q : Request) (s : SharedState) (g : ℕ) (goal : Tree) (last : Option Chars) (ks : List Chars) (e : Option Tree)
    → CanFail q
    → ((t : Tree) → fits q (named t) ≡ true)
    → Suits q (created s g goal last ks e)
suits_created q s g goal last (a ∷ ks) e can fit =
    suits_if
    (is_alias s.threads a)
    q
    (alias_taken (codes "thread") a)
    (created s g goal (Some a) ks e)
    (suits_refusal q _ can)
    (suits_created q s g goal (Some a) ks e can fit)
suits_created q s g goal last [] (Some e) can fit = suits_refusal q e can
suits_created q s g goal last [] None can fit = suits_started q s g s.count goal last _ can (fit _)

served_suits : (e : ℕ) (q : Request) (s : SharedState) (g : ℕ) → Suits q (serve e q s g)
unfolding serve
served_suits e look s g = suits_answer look _ None refl
served_suits e (call_clauses t) s g =
    suits_if _ (call_clauses t) _ (unknown_called s.flags.unknown _) (suits_answer (call_clauses t) _ None refl) (suits_unknown t s.flags.unknown _)
served_suits e (inspected_clauses t) s g =
    suits_if _ (inspected_clauses t) _ _ (suits_refusal (inspected_clauses t) _ (λ e. refl)) (suits_answer (inspected_clauses t) _ None refl)
served_suits e (retracted_clauses t) s g =
    suits_if _ (retracted_clauses t) _ _ (suits_refusal (retracted_clauses t) _ (λ e. refl)) (suits_answer (retracted_clauses t) _ None refl)
served_suits e (cleared_clauses t) s g =
    suits_if _ (cleared_clauses t) _ _ (suits_refusal (cleared_clauses t) _ (λ e. refl)) (suits_cleared t g _ _ _)
served_suits e (erase_clause j) s g =
    suits_if _ (erase_clause j) (updates g done _) _ (suits_updates (erase_clause j) g done _ (λ e. refl) refl) (suits_answer (erase_clause j) _ None refl)
served_suits e (assert_first c) s g =
    suits_if _ (assert_first c) _ (added s g c _) (suits_refusal (assert_first c) _ (λ e. refl)) (suits_added (assert_first c) s g c _ (λ e. refl) refl)
served_suits e (assert_last c) s g =
    suits_if _ (assert_last c) _ (added s g c _) (suits_refusal (assert_last c) _ (λ e. refl)) (suits_added (assert_last c) s g c _ (λ e. refl) refl)
served_suits e (consult_clause c) s g =
    suits_if _ (consult_clause c) _ (added s g c _) (suits_refusal (consult_clause c) _ (λ e. refl)) (suits_added (consult_clause c) s g c _ (λ e. refl) refl)
served_suits e (abolish_procedure p) s g = suits_modified (abolish_procedure p) s g (p ∷ []) (abolish p) (λ e. refl) refl
served_suits e (make_dynamic ps) s g = suits_modified (make_dynamic ps) s g ps (set_dynamic ps) (λ e. refl) refl
served_suits e all_procedures s g = suits_answer all_procedures _ None refl
served_suits e (put_operators p k fs) s g = suits_operators (put_operators p k fs) g p k fs _ (λ e. refl) refl
served_suits e read_operators s g = suits_answer read_operators _ None refl
served_suits e (put_flag f v) s g = suits_updates (put_flag f v) g done _ (λ e. refl) refl
served_suits e all_flags s g = suits_answer all_flags _ None refl
served_suits e own_name s g = suits_answer own_name _ None refl
served_suits e (create_thread goal ks error) s g = suits_created (create_thread goal ks error) s g goal None ks error (λ e. refl) (λ t. refl)
served_suits e (start_goal n goal) s g =
    suits_if
    _
    (start_goal n goal)
    _
    (started s g n goal _ done)
    (suits_refusal (start_goal n goal) _ (λ e. refl))
    (suits_started (start_goal n goal) s g n goal _ done (λ e. refl) refl)
served_suits e (join_thread x) s g = suits_joined x e g _
served_suits e (send_message x t) s g =
    suits_queue
    (send_message x t)
    x
    (λ u. updates g done (send u.number (rename zero t)))
    (queue_for s.threads x)
    (λ e. refl)
    (λ u. suits_updates (send_message x t) g done (send u.number (rename zero t)) (λ e. refl) refl)
served_suits e (get_message x t) s g =
    suits_queue
    (get_message x t)
    (queue_term e x)
    (λ u. got g (first_message (matches t) u))
    (queue_asked s.threads e x)
    (λ e. refl)
    (λ u. suits_got x t g (first_message (matches t) u))
served_suits e (peek_message x t) s g =
    suits_queue
    (peek_message x t)
    (queue_term e x)
    (λ u. peeked (first_message (matches t) u))
    (queue_asked s.threads e x)
    (λ e. refl)
    (λ u. suits_peeked x t (first_message (matches t) u))
served_suits e (create_queue None) s g = suits_updates (create_queue None) g _ _ (λ e. refl) refl
served_suits e (create_queue (Some a)) s g =
    suits_if
    _
    (create_queue (Some a))
    _
    (updates g (named _) _)
    (suits_refusal (create_queue (Some a)) _ (λ e. refl))
    (suits_updates (create_queue (Some a)) g _ _ (λ e. refl) refl)
served_suits e (destroy_queue x) s g =
    suits_queue (destroy_queue x) x (destroyed g x) (queue_for s.threads x) (λ e. refl) (suits_destroyed x g)
served_suits e collect_atoms s g = suits_answer collect_atoms _ None refl
served_suits e collect_clauses s g = suits_answer collect_clauses _ None refl

pub replies_fit : (e : ℕ) (q : Request) (s : SharedState) (g : ℕ) (r : Reply) (k : Option Kind)
    → serve e q s g ≡ answers r k
    → Fits q r
replies_fit e q s g r k served = (served_suits e q s g).suits r k served
