-- A row and the step after it answer a visit.
use Rattle.std.proofs.Common.{◌≡◌, ℕ, true, length, Some, None, refl, sym, ap, subst, ◌∙◌}
use Rattle.atomic_table.specs.Seated.{TableId}
use Rattle.pl_term.specs.Tree.{Chars, Tree}
use Rattle.pl_model.specs.History.{History, Kind, mine}
use Rattle.pl_model.specs.Requests.{Request}
use Rattle.pl_history.specs.Fronts.{FrontState, own_engine, own_runs, own_updates}
use Rattle.term_store.specs.ArgumentKeys.{clause_key}
use Rattle.term_store.specs.NumberedNames.{term_by}
use Rattle.term_store.specs.declared.argument_key.ArgumentKey.{ArgumentKey}
use Rattle.world_api.specs.declared.reply.Reply.{Reply}
use Rattle.world_api.specs.declared.visit.Visit.{Visit}
use Rattle.world_api.specs.Answers.{IsServed, Serves, Visited}
use Rattle.world_api.specs.Replies.{Suits}
use Rattle.world_api.specs.Told.{Told}
use Rattle.world_api.specs.Visits.{Asks}
use Rattle.counted_terms.specs.declared.row.Row.{Row}
use Rattle.counted_terms.specs.declared.row.Row.TheVariants.{Reads, Makes, Waits, NeedsAtoms, Retry, Worn, Memory}
use Rattle.hub_database.specs.Rows.{RepliesBy}
use Rattle.pl_hub.specs.Fronts.{IsOwn, told_of}
use Rattle.pl_hub.specs.Settling.{CanSettle, Meets, Sees, answer_of, front_after}
use Rattle.pl_hub.proofs.Own.{follows, told_gained, told_visited}

-- A visit that is no retry is answered by what its request is answered.
abbrev pub IsFreshVisit : (ℕ → Chars) → (ℕ → Chars) → Visit Tree ArgumentKey → Type 0
IsFreshVisit old_text new_text v =
    (r : Reply Tree) (g : ℕ) (old : Told) (before : History) (new : Told)
    → IsServed term_by clause_key old_text new_text v r g old before new
    → Serves term_by clause_key old_text new_text v r g old before new

-- Any reply suits one that asks for no operators.
abbrev pub IsPlainVisit : (ℕ → Chars) → (ℕ → Chars) → Visit Tree ArgumentKey → Type 0
IsPlainVisit old_text new_text v = IsFreshVisit old_text new_text v × ((r : Reply Tree) → Suits v r)

pub any_reply : (v : Visit Tree ArgumentKey) → ((r : Reply Tree) → Suits v r) → (row : Row) → RepliesBy (λ (r : Reply Tree). Suits v r) row
any_reply v all (Reads r) = all r
any_reply v all (Makes r) = all r
any_reply v all (Waits on) = tt
any_reply v all (NeedsAtoms p) = tt
any_reply v all (Retry c) = tt
any_reply v all (Worn w) = tt
any_reply v all Memory = tt

-- What waits is asked for.
abbrev pub IsAsked : (ℕ → Chars) → Visit Tree ArgumentKey → Row → Type 0
IsAsked text v (Waits on) = (q : Request) × Asks term_by clause_key text v q
IsAsked text v _ = Unit {0}

module _ (goals : ℕ) (old_text new_text : ℕ → Chars) (v : Visit Tree ArgumentKey) (fresh : IsFreshVisit old_text new_text v) (f : FrontState) (h : History) (k : Kind)
    (runs : own_runs f.lives ≡ true) (updates : own_updates f.lives ≡ mine f.seen (own_engine f.lives)) where
  by_row : (row : Row) → RepliesBy (λ (r : Reply Tree). Suits v r) row → CanSettle k h row → Sees h f row → IsAsked old_text v row
      → ((q : Request) → Asks term_by clause_key old_text v q → Meets goals (own_engine f.lives) new_text q h k row)
      → Visited term_by clause_key old_text new_text v (answer_of row (length h)) (told_of goals f) h (told_of goals (front_after (own_engine f.lives) k row h f))
  by_row (Reads r) suits can behind asked meets = (
    follows f h runs updates behind,
    fresh r (length h) (told_of goals f) h _ (record {
      generation = refl;
      suits = suits;
      update = None;
      serves = λ q asks. (let a = meets q asks in (a.reply, a.serves, a.says));
      told = told_visited goals f h runs;
    }),
  )
  by_row (Makes r) suits can behind asked meets = (
    follows f h runs updates behind,
    fresh r (length h) (told_of goals f) h _ (record {
      generation = refl;
      suits = suits;
      update = Some k;
      serves = λ q asks. (let a = meets q asks in (a.reply, a.serves, a.says));
      told = told_gained goals f h k runs can.plain;
    }),
  )
  by_row (Waits on) suits can behind asked meets = (
    follows f h runs updates behind,
    record {
      generation = refl;
      request = asked.0;
      asks = asked.1;
      waiting = λ q asks. (meets q asks).waiting;
      awaits = λ q asks. (meets q asks).awaits;
      told = refl;
    },
  )
  by_row (NeedsAtoms p) suits can behind asked meets = refl
  by_row (Retry c) suits can behind asked meets = refl
  by_row (Worn w) suits can behind asked meets = refl
  by_row Memory suits can behind asked meets = refl

-- THE VISIT IS ANSWERED
pub visited_by : (t : TableId) (goals e : ℕ) (old_text new_text : ℕ → Chars) (v : Visit Tree ArgumentKey) → IsFreshVisit old_text new_text v
    → (f : FrontState) → IsOwn t e f → (h : History) (k : Kind) (row : Row) → RepliesBy (λ (r : Reply Tree). Suits v r) row → CanSettle k h row → Sees h f row → IsAsked old_text v row
    → ((q : Request) → Asks term_by clause_key old_text v q → Meets goals e new_text q h k row)
    → Visited term_by clause_key old_text new_text v (answer_of row (length h)) (told_of goals f) h (told_of goals (front_after e k row h f))
visited_by t goals e old_text new_text v fresh f own h k row suits can behind asked meets =
    subst (λ (d : ℕ). Visited term_by clause_key old_text new_text v (answer_of row (length h)) (told_of goals f) h (told_of goals (front_after d k row h f))) own.engine
    (by_row goals old_text new_text v fresh f h k own.runs (own.updates ∙ ap (mine f.seen) (sym own.engine)) row suits can behind asked
    (λ q asks. subst (λ (d : ℕ). Meets goals d new_text q h k row) (sym own.engine) (meets q asks)))

-- A visit that stands for one request
pub meets_one : (goals e : ℕ) (old_text new_text : ℕ → Chars) (v : Visit Tree ArgumentKey) (q : Request) (h : History) (k : Kind) (row : Row)
    → ((r : Request) → Asks term_by clause_key old_text v r → r ≡ q)
    → Meets goals e new_text q h k row
    → (r : Request) → Asks term_by clause_key old_text v r → Meets goals e new_text r h k row
meets_one goals e old_text new_text v q h k row only meets r asks = subst (λ (x : Request). Meets goals e new_text x h k row) (sym (only r asks)) meets

pub asked_one : (text : ℕ → Chars) (v : Visit Tree ArgumentKey) (q : Request) → Asks term_by clause_key text v q → (row : Row) → IsAsked text v row
asked_one text v q asks (Reads r) = tt
asked_one text v q asks (Makes r) = tt
asked_one text v q asks (Waits on) = (q, asks)
asked_one text v q asks (NeedsAtoms p) = tt
asked_one text v q asks (Retry c) = tt
asked_one text v q asks (Worn w) = tt
asked_one text v q asks Memory = tt
