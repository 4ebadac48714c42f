-- How the shared state answers a call, and how a reply says so.
use Rattle.std.proofs.Common.{◌≡◌, ◌⊎◌, inl, inr, ℕ, Bool, true, false, cond, List, [], length, Option, None, refl}
use Rattle.pl_term.specs.Tree.{Chars, Tree}
use Rattle.pl_model.specs.Flags.{Unknown, raises, fails}
use Rattle.pl_model.specs.History.{Clause, History, Kind, Proc}
use Rattle.pl_model.specs.Database.{Stored, is_known, is_static}
use Rattle.pl_model.specs.Predicates.{proc_of}
use Rattle.pl_model.specs.Errors.{static_procedure, unknown_procedure}
use Rattle.pl_model.specs.ErrorTerms.{private_procedure}
use Rattle.pl_model.specs.SharedState.{state_at}
use Rattle.pl_model.specs.Requests.{call_clauses, listed, refused}
use Rattle.pl_model.specs.Requests as requests
use Rattle.pl_model.specs.Service.{answers, waits, serve, reads, refuses, unknown_called, served_now}
use Rattle.term_store.specs.NumberedNames.{term_by}
use Rattle.world_api.specs.declared.reply.Found.{Found}
use Rattle.world_api.specs.declared.reply.Reply.{Reply}
use Rattle.world_api.specs.declared.reply.Reply.TheVariants.{Standing, Clauses, Procedures, Flags, Operators, Named, Message, NoMessage, Status, Done, Gone, Refused}
use Rattle.world_api.specs.Told.{clause_list}
use Rattle.iso_search.specs.declared.choices.Purpose.{Purpose}
use Rattle.iso_search.specs.declared.choices.Purpose.TheVariants.{Resolving, Inspecting, Retracting}
use Rattle.iso_engine.specs.ClausesAsked.{listing}
use Rattle.world_api.specs.Replies.{IsFront, Says}

-- The clauses for the goal, none where an unknown procedure fails, or an error.
pub record IsAnswer (goals : ℕ) (h : History) (goal : Tree) (reply : requests.Reply) (update : Option Kind) : Type 0 where
  pub update_is : update ≡ None
  pub reply_is : (reply ≡ listed (clause_list goals h (length h) goal)) ⊎ ((reply ≡ listed []) ⊎ ((x : Tree) × (reply ≡ refused x)))

unknown_answer : (goals : ℕ) (h : History) (goal : Tree) (u : Unknown) (p : Proc) (reply : requests.Reply) (update : Option Kind)
    → unknown_called u p ≡ answers reply update → IsAnswer goals h goal reply update
unknown_answer goals h goal raises p reply update e =
    record { update_is = cc; reply_is = inr (inr (unknown_procedure p, cc)) }
unknown_answer goals h goal fails p reply update e =
    record { update_is = cc; reply_is = inr (inl (cc)) }

call_answered : (e goals : ℕ) (h : History) (goal : Tree) (reply : requests.Reply) (update : Option Kind)
    → served_now e goals h (call_clauses goal) ≡ answers reply update → IsAnswer goals h goal reply update
unfolding serve
call_answered e goals h goal reply update is =
    let s = state_at goals h (length h) in go (is_known s.database (proc_of goal)) is
  where
    go : (b : Bool)
        → cond b (reads (listed (clause_list goals h (length h) goal))) (unknown_called (state_at goals h (length h)).flags.unknown (proc_of goal)) ≡ answers reply update
        → IsAnswer goals h goal reply update
    go true same = record { update_is = cc; reply_is = inl (cc) }
    go false same = unknown_answer goals h goal (state_at goals h (length h)).flags.unknown (proc_of goal) reply update same

unknown_waits : (u : Unknown) (p : Proc) → unknown_called u p ≡ waits → ⊥
unknown_waits raises p e = cc
unknown_waits fails p e = cc

call_never_waits : (e goals : ℕ) (h : History) (goal : Tree) → served_now e goals h (call_clauses goal) ≡ waits → ⊥
unfolding serve
call_never_waits e goals h goal is =
    let s = state_at goals h (length h) in go (is_known s.database (proc_of goal)) is
  where
    go : (b : Bool)
        → cond b (reads (listed (clause_list goals h (length h) goal))) (unknown_called (state_at goals h (length h)).flags.unknown (proc_of goal)) ≡ waits
        → ⊥
    go true same = cc
    go false same = unknown_waits (state_at goals h (length h)).flags.unknown (proc_of goal) same

-- What clause/2 and retract/1 ask is refused of a static procedure.
static_answer : (goals : ℕ) (h : History) (goal error : Tree) (b : Bool) (reply : requests.Reply) (update : Option Kind)
    → cond b (refuses error) (reads (listed (clause_list goals h (length h) goal))) ≡ answers reply update → IsAnswer goals h goal reply update
static_answer goals h goal error true reply update e = record { update_is = cc; reply_is = inr (inr (error, cc)) }
static_answer goals h goal error false reply update e = record { update_is = cc; reply_is = inl (cc) }

static_waits : (goals : ℕ) (h : History) (goal error : Tree) (b : Bool)
    → cond b (refuses error) (reads (listed (clause_list goals h (length h) goal))) ≡ waits → ⊥
static_waits goals h goal error true e = cc
static_waits goals h goal error false e = cc

pub list_answered : (q : Purpose) (e goals : ℕ) (h : History) (goal : Tree) (reply : requests.Reply) (update : Option Kind)
    → served_now e goals h (listing q goal) ≡ answers reply update → IsAnswer goals h goal reply update
unfolding serve
list_answered Resolving e goals h goal reply update is = call_answered e goals h goal reply update is
list_answered Inspecting e goals h goal reply update is =
    static_answer goals h goal (private_procedure (proc_of goal)) (is_static (state_at goals h (length h)).database (proc_of goal)) reply update is
list_answered Retracting e goals h goal reply update is =
    static_answer goals h goal (static_procedure (proc_of goal)) (is_static (state_at goals h (length h)).database (proc_of goal)) reply update is

pub list_never_waits : (q : Purpose) (e goals : ℕ) (h : History) (goal : Tree) → served_now e goals h (listing q goal) ≡ waits → ⊥
unfolding serve
list_never_waits Resolving e goals h goal is = call_never_waits e goals h goal is
list_never_waits Inspecting e goals h goal is =
    static_waits goals h goal (private_procedure (proc_of goal)) (is_static (state_at goals h (length h)).database (proc_of goal)) is
list_never_waits Retracting e goals h goal is =
    static_waits goals h goal (static_procedure (proc_of goal)) (is_static (state_at goals h (length h)).database (proc_of goal)) is

-- The reply that says so.
module _ (text : ℕ → Chars) where
  pub says_list : (r : Reply Tree) (cs : List (Stored Clause)) → Says term_by text r (listed cs)
      → (f : Option (Found Tree)) × (r ≡ Clauses f) × IsFront term_by text f cs
  says_list (Standing ops quotes) cs s = absurd (cc)
  says_list (Clauses f) cs s = (f, refl, s)
  says_list (Procedures ps) cs s = absurd (cc)
  says_list (Flags fs) cs s = absurd (cc)
  says_list (Operators os) cs s = absurd s
  says_list (Named n) cs s = absurd (cc)
  says_list (Message t) cs s = absurd (cc)
  says_list NoMessage cs s = absurd (cc)
  says_list (Status t) cs s = absurd (cc)
  says_list Done cs s = absurd (cc)
  says_list Gone cs s = absurd (cc)
  says_list (Refused e) cs s = absurd (cc)

  pub says_error : (r : Reply Tree) (x : Tree) → Says term_by text r (refused x) → (e : Tree) × (r ≡ Refused e) × (x ≡ term_by text e)
  says_error (Standing ops quotes) x s = absurd (cc)
  says_error (Clauses f) x s = absurd s
  says_error (Procedures ps) x s = absurd (cc)
  says_error (Flags fs) x s = absurd (cc)
  says_error (Operators os) x s = absurd s
  says_error (Named n) x s = absurd (cc)
  says_error (Message t) x s = absurd (cc)
  says_error NoMessage x s = absurd (cc)
  says_error (Status t) x s = absurd (cc)
  says_error Done x s = absurd (cc)
  says_error Gone x s = absurd (cc)
  says_error (Refused e) x s = (e, refl, cc)
