-- A visit makes no end of an engine, and makes an update only on a history that has room for it.
use Rattle.std.proofs.Common.{◌≡◌, ◌<◌, ℕ, List, [], ◌∷◌, Option, Some, None, Bool, true, false, refl, leb-false}
use Rattle.std.specs.Prelude.{if◌then◌else◌, nat_le, IfSome, codes}
use Rattle.pl_term.specs.Tree.{Chars, Tree}
use Rattle.pl_model.specs.declared.operators.Kind.{Kind as OperatorKind}
use Rattle.pl_model.specs.History.{Proc, Clause, Kind, is_end}
use Rattle.pl_model.specs.Errors.{static_procedure}
use Rattle.pl_model.specs.Flags.{Unknown, raises, fails}
use Rattle.pl_model.specs.Database.{Stored, is_static}
use Rattle.pl_model.specs.declared.threads.Message.{Message}
use Rattle.pl_model.specs.declared.threads.Status.{Status}
use Rattle.pl_model.specs.declared.threads.Thread.{Thread}
use Rattle.pl_model.specs.Threads.{Queue, is_alias}
use Rattle.pl_model.specs.SharedState.{SharedState}
use Rattle.pl_model.specs.Requests.{Request, Reply, look, call_clauses, inspected_clauses, retracted_clauses, cleared_clauses, erase_clause, assert_first, assert_last, consult_clause, abolish_procedure, make_dynamic, all_procedures, put_operators, read_operators, put_flag, all_flags, own_name, create_thread, start_goal, join_thread, send_message, get_message, peek_message, create_queue, destroy_queue, collect_atoms, collect_clauses}
use Rattle.pl_model.specs.Service.{Served, answers, waits, update_of, most_updates, updates, serve, refuses, alias_taken, unknown_called, cleared, added, modified, operators_put, got, peeked, with_queue, ended, joined, started, created}

record Fits (g : ℕ) (a : Served) : Type 0 where
  fits : IfSome (update_of a) (λ k. (g < most_updates) × (is_end k ≡ false))

fits_read : (g : ℕ) (r : Reply) → Fits g (answers r None)
fits_read g r = record { fits = tt }

fits_wait : (g : ℕ) → Fits g waits
fits_wait g = record { fits = tt }

fits_if : (b : Bool) (g : ℕ) (x y : Served) → Fits g x → Fits g y → Fits g (if b then x else y)
fits_if true g x y l r = l
fits_if false g x y l r = r

fits_room : (b : Bool) (g : ℕ) (x : Served) (r : Reply) (k : Kind)
    → nat_le most_updates g ≡ b
    → Fits g x
    → is_end k ≡ false
    → Fits g (if b then x else answers r (Some k))
fits_room true g x r k e l end = l
fits_room false g x r k e l end = record { fits = (leb-false most_updates g e, end) }

fits_updates : (g : ℕ) (r : Reply) (k : Kind) → is_end k ≡ false → Fits g (updates g r k)
fits_updates g r k end = fits_room (nat_le most_updates g) g _ r k refl (fits_read g _) end

fits_unknown : (g : ℕ) (u : Unknown) (p : Proc) → Fits g (unknown_called u p)
fits_unknown g raises p = search (fits_read)
fits_unknown g fails p = search (fits_read)

fits_cleared : (g : ℕ) (b : Bool) (p : Proc) (cs : List (Stored Clause)) → Fits g (cleared g b p cs)
fits_cleared g true p cs = search (fits_read)
fits_cleared g false p cs = search (fits_updates)

fits_added : (s : SharedState) (g : ℕ) (c : Clause) (k : Kind) → is_end k ≡ false → Fits g (added s g c k)
fits_added s g c k end = search (fits_if, fits_read, fits_updates)

fits_modified : (s : SharedState) (g : ℕ) (ps : List Proc) (k : Kind) → is_end k ≡ false → Fits g (modified s g ps k)
fits_modified s g [] k end = search (fits_updates)
fits_modified s g (p ∷ ps) k end =
    fits_if (is_static s.database p) g (refuses (static_procedure p)) (modified s g ps k) (fits_read g _) (fits_modified s g ps k end)

fits_operators : (g p : ℕ) (k : OperatorKind) (fs : List Chars) (e : Option Tree) → Fits g (operators_put g p k fs e)
fits_operators g p k fs None = search (fits_updates)
fits_operators g p k fs (Some e) = search (fits_read)

fits_got : (g : ℕ) (m : Option (Message Tree)) → Fits g (got g m)
fits_got g None = search (fits_wait)
fits_got g (Some m) = search (fits_updates)

fits_peeked : (g : ℕ) (m : Option (Message Tree)) → Fits g (peeked m)
fits_peeked g None = search (fits_read)
fits_peeked g (Some m) = search (fits_read)

fits_queue : (g : ℕ) (x : Tree) (next : Queue Tree → Served) (q : Option (Queue Tree))
    → ((q : Queue Tree) → Fits g (next q))
    → Fits g (with_queue x next q)
fits_queue g x next None each = search (fits_read)
fits_queue g x next (Some q) each = each q

fits_ended : (g n : ℕ) (h : Option (Status Tree)) → Fits g (ended g n h)
fits_ended g n None = search (fits_wait)
fits_ended g n (Some h) = search (fits_updates)

fits_joined : (e g : ℕ) (x : Tree) (h : Option (Thread Tree)) → Fits g (joined e g x h)
fits_joined e g x None = search (fits_read)
fits_joined e g x (Some h) = search (fits_ended, fits_if, fits_read)

fits_started : (s : SharedState) (g n : ℕ) (goal : Tree) (a : Option Chars) (r : Reply) → Fits g (started s g n goal a r)
fits_started s g n goal a r = search (fits_if, fits_read, fits_updates)

fits_created : (s : SharedState) (g : ℕ) (goal : Tree) (last : Option Chars) (ks : List Chars) (e : Option Tree)
    → Fits g (created s g goal last ks e)
fits_created s g goal last (a ∷ ks) e =
    fits_if
    (is_alias s.threads a)
    g
    (alias_taken (codes "thread") a)
    (created s g goal (Some a) ks e)
    (fits_read g _)
    (fits_created s g goal (Some a) ks e)
fits_created s g goal last [] (Some e) = search (fits_read)
fits_created s g goal last [] None = search (fits_started)

served_fits : (e : ℕ) (r : Request) (s : SharedState) (g : ℕ) → Fits g (serve e r s g)
unfolding serve
served_fits e look s g = search (fits_read)
served_fits e (call_clauses goal) s g = search (fits_if, fits_read, fits_unknown)
served_fits e (inspected_clauses head) s g = search (fits_if, fits_read)
served_fits e (retracted_clauses head) s g = search (fits_if, fits_read)
served_fits e (cleared_clauses head) s g = search (fits_cleared, fits_if, fits_read)
served_fits e (erase_clause j) s g = search (fits_if, fits_read, fits_updates)
served_fits e (assert_first c) s g = search (fits_added, fits_if, fits_read)
served_fits e (assert_last c) s g = search (fits_added, fits_if, fits_read)
served_fits e (consult_clause c) s g = search (fits_added, fits_if, fits_read)
served_fits e (abolish_procedure p) s g = search (fits_modified)
served_fits e (make_dynamic ps) s g = search (fits_modified)
served_fits e all_procedures s g = search (fits_read)
served_fits e (put_operators p k fs) s g = search (fits_operators)
served_fits e read_operators s g = search (fits_read)
served_fits e (put_flag f v) s g = search (fits_updates)
served_fits e all_flags s g = search (fits_read)
served_fits e own_name s g = search (fits_read)
served_fits e (create_thread goal ks error) s g = fits_created s g goal None ks error
served_fits e (start_goal n goal) s g = search (fits_if, fits_read, fits_started)
served_fits e (join_thread x) s g = search (fits_joined)
served_fits e (send_message x t) s g = search (fits_queue, fits_updates)
served_fits e (get_message x t) s g = search (fits_got, fits_queue)
served_fits e (peek_message x t) s g = search (fits_peeked, fits_queue)
served_fits e (create_queue None) s g = search (fits_updates)
served_fits e (create_queue (Some a)) s g = search (fits_if, fits_read, fits_updates)
served_fits e (destroy_queue x) s g = search (fits_if, fits_queue, fits_read, fits_updates)
served_fits e collect_atoms s g = search (fits_read)
served_fits e collect_clauses s g = search (fits_read)

pub updates_fit : (e : ℕ) (r : Request) (s : SharedState) (g : ℕ)
    → IfSome (update_of (serve e r s g)) (λ k. (g < most_updates) × (is_end k ≡ false))
updates_fit e r s g = (served_fits e r s g).fits
