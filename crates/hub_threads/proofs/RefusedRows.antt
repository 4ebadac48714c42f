-- Rows that refuse, and requests that are refused.
use Rattle.std.proofs.Common.{◌≡◌, ◌<◌, ◌≤◌, ℕ, zero, [], length, Option, Some, None, Result, Ok, Err, codes, refl, sym, ap, ◌∙◌}
use Rattle.std.specs.Prelude.{◌^◌, IfOk, if◌then◌else◌, option_and_then, option_map}
use Rattle.std.specs.List.{All}
use Rattle.std.proofs.lemmas.Bool.{lt-leb, le-leb}
use Rattle.std.proofs.lemmas.List.Elements.{All-nil}
use Rattle.pl_term.specs.Tree.{Tree}
use Rattle.pl_term.specs.Variables.{rename}
use Rattle.pl_term.specs.declared.memory.Memory.{Memory as NoMemory}
use Rattle.pl_model.specs.declared.threads.Name.{Name as SharedName}
use Rattle.pl_model.specs.ErrorTerms.{existence_error, resource_error}
use Rattle.pl_model.specs.History.{History, Kind, send}
use Rattle.pl_model.specs.Requests.{Request, Reply, destroy_queue, done, get_message, peek_message, refused, send_message}
use Rattle.pl_model.specs.Service.{answers, destroyed, got, matches, name_of, peeked, queue_for, refuses, serve, served_now, updates, with_queue}
use Rattle.pl_model.specs.SharedState.{state_at}
use Rattle.pl_model.specs.Threads.{Threads, first_message, queue_named}
use Rattle.atom_api.specs.Fixed.{fixed, fixed_texts}
use Rattle.atom_api.specs.Names.{Names}
use Rattle.atom_words.specs.declared.view.View.{View}
use Rattle.hub_threads.specs.Held.{Held}
use Rattle.hub_threads.specs.Serving.{queue_as, threads_as}
use Rattle.hub_threads.proofs.Served.{queue_by}
use Rattle.world_api.specs.declared.reply.Reply.TheVariants.{Standing, Clauses, Procedures, Flags, Operators, Named, Message, NoMessage, Status, Done, Gone, Refused}
use Rattle.counted_terms.specs.CountedTerms.{said}
use Rattle.counted_terms.specs.Rows.{row_names, row_refusals}
use Rattle.counted_terms.specs.declared.row.Row.{Row}
use Rattle.counted_terms.specs.declared.row.Row.TheVariants.{Reads, Makes, Waits, NeedsAtoms, Retry, Worn, Memory}
use Rattle.hub_threads.specs.Rows.{Decides, Refuses, refusal, updates_in}
use Rattle.hub_threads.specs.Threads.{IsThreads}
use Rattle.term_store.specs.NumberedNames.{names_of}

-- FIXED ATOMS
pub message_queue_is : fixed 119 ≡ Some (codes "message_queue")
unfolding fixed_texts
message_queue_is = refl

pub generations_is : fixed 99 ≡ Some (codes "generations")
unfolding fixed_texts
generations_is = refl

pub create_is : fixed 68 ≡ Some (codes "create")
unfolding fixed_texts
create_is = refl

pub destroy_is : fixed 73 ≡ Some (codes "destroy")
unfolding fixed_texts
destroy_is = refl

pub join_is : fixed 112 ≡ Some (codes "join")
unfolding fixed_texts
join_is = refl

pub thread_is : fixed 163 ≡ Some (codes "thread")
unfolding fixed_texts
thread_is = refl

pub threads_is : fixed 173 ≡ Some (codes "threads")
unfolding fixed_texts
threads_is = refl

pub truth_is : fixed 176 ≡ Some (codes "true")
unfolding fixed_texts
truth_is = refl

pub falsity_is : fixed 89 ≡ Some (codes "false")
unfolding fixed_texts
falsity_is = refl

pub exception_is : fixed 83 ≡ Some (codes "exception")
unfolding fixed_texts
exception_is = refl

pub exited_is : fixed 87 ≡ Some (codes "exited")
unfolding fixed_texts
exited_is = refl

pub halted_is : fixed 102 ≡ Some (codes "halted")
unfolding fixed_texts
halted_is = refl

pub atom_space_is : fixed 50 ≡ Some (codes "atom_space")
unfolding fixed_texts
atom_space_is = refl

-- ROWS
pub refusal_says : (n : Names) (error : Tree) (r : Result Tree NoMemory) → IfOk r (λ e. said n e ≡ error) → Refuses n error (refusal r)
refusal_says n error (Ok e) h = h
refusal_says n error (Err m) h = tt

pub refusal_named : (P : ℕ → Type 0) (r : Result Tree NoMemory) → IfOk r (λ e. All P (names_of e)) → All P (row_names (refusal r))
refusal_named P (Ok e) h = h
refusal_named P (Err m) h = All-nil P

pub refusal_reads : (r : Result Tree NoMemory) → updates_in (refusal r) ≡ 0
refusal_reads (Ok e) = refl
refusal_reads (Err m) = refl

pub refusal_silent : (r : Result Tree NoMemory) → row_refusals (refusal r) ≡ []
refusal_silent (Ok e) = refl
refusal_silent (Err m) = refl

module _ (l : View) (n : Names) (e : ℕ) (r : Request) (q : Held Tree) (count goals : ℕ) (h : History) (error : Tree) (serves : served_now e goals h r ≡ refuses error) (stands : IsThreads l q count goals h) where
  pub refuses_decides : (row : Row) → Refuses n error row → Decides l n e r q count goals h row
  refuses_decides (Reads (Refused x)) says = (record { reply = refused error; serves = serves; says = ap refused (sym says) }, stands)
  refuses_decides (Reads (Standing ops quotes)) says = absurd says
  refuses_decides (Reads (Clauses f)) says = absurd says
  refuses_decides (Reads (Procedures ps)) says = absurd says
  refuses_decides (Reads (Flags fs)) says = absurd says
  refuses_decides (Reads (Operators os)) says = absurd says
  refuses_decides (Reads (Named x)) says = absurd says
  refuses_decides (Reads (Message t)) says = absurd says
  refuses_decides (Reads NoMessage) says = absurd says
  refuses_decides (Reads (Status t)) says = absurd says
  refuses_decides (Reads Done) says = absurd says
  refuses_decides (Reads Gone) says = absurd says
  refuses_decides (Makes x) says = absurd says
  refuses_decides (Waits on) says = absurd says
  refuses_decides (NeedsAtoms p) says = absurd says
  refuses_decides (Retry c) says = absurd says
  refuses_decides (Worn w) says = absurd says
  refuses_decides Memory says = stands

-- REQUESTS
-- No queue is named so.
queue_none : (term : Tree → Tree) (t : Threads Tree) (w : Threads Tree) (x : Tree) (o : Option SharedName) → w ≡ threads_as term t → name_of x ≡ o → option_and_then (queue_named t) o ≡ None → queue_for w x ≡ None
queue_none term t w x None is e none = ap (option_and_then (queue_named w)) e
queue_none term t w x (Some n) is e none = queue_by term t w x n is e ∙ ap (option_map (queue_as term)) none

module _ (k : View) (q : Held Tree) (count goals : ℕ) (h : History) (term : Tree → Tree) (stands : (state_at goals h (length h)).threads ≡ threads_as term q.state) (e : ℕ) (x : Tree) where
  module _ (none : option_and_then (queue_named q.state) (name_of x) ≡ None) where
    missing : queue_for (state_at goals h (length h)).threads x ≡ None
    missing = queue_none term q.state (state_at goals h (length h)).threads x (name_of x) stands refl none

    pub send_missing : (t : Tree) → served_now e goals h (send_message x t) ≡ refuses (existence_error (codes "message_queue") x)
    unfolding serve
    send_missing t = ap (with_queue x (λ y. updates (length h) done (send y.number (rename zero t)))) missing

    pub get_missing : (t : Tree) → served_now e goals h (get_message (Some x) t) ≡ refuses (existence_error (codes "message_queue") x)
    unfolding serve
    get_missing t = ap (with_queue x (λ y. got (length h) (first_message (λ m. matches t m) y))) missing

    pub peek_missing : (t : Tree) → served_now e goals h (peek_message (Some x) t) ≡ refuses (existence_error (codes "message_queue") x)
    unfolding serve
    peek_missing t = ap (with_queue x (λ y. peeked (first_message (λ m. matches t m) y))) missing

    pub destroy_missing : served_now e goals h (destroy_queue x) ≡ refuses (existence_error (codes "message_queue") x)
    unfolding serve
    destroy_missing = ap (with_queue x (destroyed (length h) x)) missing

-- An update is made below the last number of updates, and from it on refused.
pub updates_made : (g : ℕ) (r : Reply) (u : Kind) → g < 2 ^ 47 → updates g r u ≡ answers r (Some u)
updates_made g r u lt = ap (λ b. if b then refuses (resource_error (codes "generations")) else answers r (Some u)) (lt-leb (2 ^ 47) g lt)

pub updates_refused : (g : ℕ) (r : Reply) (u : Kind) → 2 ^ 47 ≤ g → updates g r u ≡ refuses (resource_error (codes "generations"))
updates_refused g r u le = ap (λ b. if b then refuses (resource_error (codes "generations")) else answers r (Some u)) (le-leb (2 ^ 47) g le)
