-- Two visits whose requests are answered alike, and a visit that is refused for want of memory.
use Rattle.std.proofs.Common.{◌≡◌, ℕ, [], Some, None, refl, sym, ap, ◌∙◌, append-nil}
use Rattle.std.specs.Prelude.{pos}
use Rattle.std.proofs.lemmas.List.Elements.{All-nil, All-weaker}
use Rattle.std.specs.Prelude.{IsSome}
use Rattle.atomic_table.specs.Seated.{TableId}
use Rattle.pl_term.specs.Tree.{Chars, Tree, int}
use Rattle.pl_model.specs.History.{History}
use Rattle.pl_model.specs.Requests.{get_message, peek_message}
use Rattle.pl_model.specs.Service.{on_of, serve, served_now}
use Rattle.atom_words.specs.declared.view.View.{View}
use Rattle.atom_table.specs.Naming.{names, requests}
use Rattle.pl_history.specs.Fronts.{FrontState, own_engine}
use Rattle.term_store.specs.ArgumentKeys.{clause_key}
use Rattle.term_store.specs.NumberedNames.{term_by}
use Rattle.term_store.specs.declared.argument_key.ArgumentKey.{ArgumentKey}
use Rattle.world_api.specs.declared.answer.Answer.{Answer}
use Rattle.world_api.specs.declared.answer.Answer.TheVariants.{Served, Waits, NeedsAtoms, Retry, Worn, Memory}
use Rattle.world_api.specs.declared.visit.Visit.{Visit}
use Rattle.world_api.specs.declared.visit.Visit.TheVariants.{GetMessage, PeekMessage}
use Rattle.world_api.specs.Answers.{Visited}
use Rattle.world_api.specs.Asked.{IsInAnswer}
use Rattle.world_api.specs.Texts.{text_of}
use Rattle.world_api.specs.Told.{Told}
use Rattle.counted_terms.specs.CountedTerms.{said}
use Rattle.pl_hub.specs.Fronts.{IsOwn, told_of}
use Rattle.pl_hub.specs.Visits.{IsVisit}
use Rattle.pl_hub.proofs.Answering.{none_more}

-- OUT OF MEMORY
pub memory_visit : (table : TableId) (goals e : ℕ) (v : View) (visit : Visit Tree ArgumentKey) (f hub : FrontState) → IsOwn table e f → IsVisit table goals e v v visit Memory f f hub hub
memory_visit table goals e v visit f hub own = record {
  visited = refl;
  history = refl;
  carried = none_more e hub;
  own = own;
  named = All-nil (λ x. IsSome (names v x));
  holds = λ a t e. e;
  refusals = sym (append-nil v.refusals);
  asked = record { more = []; asked = ap Some (sym (append-nil (requests v))); each = All-nil (IsInAnswer term_by clause_key (text_of (names v)) visit (told_of goals f)) };
}

-- A QUEUE OF THE ENGINE'S OWN is named by its number
get_same : (e goals : ℕ) (h : History) (p : Tree) → served_now e goals h (get_message (Some (int (pos e))) p) ≡ served_now e goals h (get_message None p)
unfolding serve
get_same e goals h p = refl

peek_same : (e goals : ℕ) (h : History) (p : Tree) → served_now e goals h (peek_message (Some (int (pos e))) p) ≡ served_now e goals h (peek_message None p)
unfolding serve
peek_same e goals h p = refl

module _ (table : TableId) (goals e : ℕ) (v w : View) (t p : Tree) (is : said (names v) t ≡ int (pos e)) (f : FrontState) (engine : own_engine f.lives ≡ e) where
  abbrev text : ℕ → Chars
  text = text_of (names v)

  abbrev own_number : Tree
  own_number = int (pos (own_engine f.lives))

  named : said (names v) t ≡ own_number
  named = is ∙ ap (λ (n : ℕ). int (pos n)) (sym engine)

  get_served : (h : History) → served_now (own_engine f.lives) goals h (get_message (Some (said (names v) t)) (said (names v) p)) ≡ served_now (own_engine f.lives) goals h (get_message None (said (names v) p))
  get_served h = ap (λ (x : Tree). served_now (own_engine f.lives) goals h (get_message (Some x) (said (names v) p))) named ∙ get_same (own_engine f.lives) goals h (said (names v) p)

  peek_served : (h : History) → served_now (own_engine f.lives) goals h (peek_message (Some (said (names v) t)) (said (names v) p)) ≡ served_now (own_engine f.lives) goals h (peek_message None (said (names v) p))
  peek_served h = ap (λ (x : Tree). served_now (own_engine f.lives) goals h (peek_message (Some x) (said (names v) p))) named ∙ peek_same (own_engine f.lives) goals h (said (names v) p)

  get_visited : (a : Answer Tree) (h : History) (u : Told)
      → Visited term_by clause_key text (text_of (names w)) (GetMessage (Some t) p) a (told_of goals f) h u
      → Visited term_by clause_key text (text_of (names w)) (GetMessage None p) a (told_of goals f) h u
  get_visited (Served r g) h u x = (
    x.0,
    record {
      generation = x.1.generation;
      suits = tt;
      update = x.1.update;
      serves = λ q asks. let y = x.1.serves (get_message (Some (said (names v) t)) (said (names v) p)) refl in (
        y.0,
        ap (served_now (own_engine f.lives) goals h) asks ∙ sym (get_served h) ∙ y.1,
        y.2,
      );
      told = x.1.told;
    },
  )
  get_visited (Waits on g) h u x = (
    x.0,
    record {
      generation = x.1.generation;
      request = get_message None (said (names v) p);
      asks = refl;
      waiting = λ q asks. ap (served_now (own_engine f.lives) goals h) asks ∙ sym (get_served h) ∙ x.1.waiting (get_message (Some (said (names v) t)) (said (names v) p)) refl;
      awaits = λ q asks. ap (on_of (own_engine f.lives)) asks ∙ sym (ap (λ (y : Tree). on_of (own_engine f.lives) (get_message (Some y) (said (names v) p))) named) ∙ x.1.awaits (get_message (Some (said (names v) t)) (said (names v) p)) refl;
      told = x.1.told;
    },
  )
  get_visited (NeedsAtoms n) h u x = x
  get_visited (Retry c) h u x = x
  get_visited (Worn n) h u x = x
  get_visited Memory h u x = x

  peek_visited : (a : Answer Tree) (h : History) (u : Told)
      → Visited term_by clause_key text (text_of (names w)) (PeekMessage (Some t) p) a (told_of goals f) h u
      → Visited term_by clause_key text (text_of (names w)) (PeekMessage None p) a (told_of goals f) h u
  peek_visited (Served r g) h u x = (
    x.0,
    record {
      generation = x.1.generation;
      suits = tt;
      update = x.1.update;
      serves = λ q asks. let y = x.1.serves (peek_message (Some (said (names v) t)) (said (names v) p)) refl in (
        y.0,
        ap (served_now (own_engine f.lives) goals h) asks ∙ sym (peek_served h) ∙ y.1,
        y.2,
      );
      told = x.1.told;
    },
  )
  peek_visited (Waits on g) h u x = (
    x.0,
    record {
      generation = x.1.generation;
      request = peek_message None (said (names v) p);
      asks = refl;
      waiting = λ q asks. ap (served_now (own_engine f.lives) goals h) asks ∙ sym (peek_served h) ∙ x.1.waiting (peek_message (Some (said (names v) t)) (said (names v) p)) refl;
      awaits = λ q asks. ap (on_of (own_engine f.lives)) asks ∙ x.1.awaits (peek_message (Some (said (names v) t)) (said (names v) p)) refl;
      told = x.1.told;
    },
  )
  peek_visited (NeedsAtoms n) h u x = x
  peek_visited (Retry c) h u x = x
  peek_visited (Worn n) h u x = x
  peek_visited Memory h u x = x

  -- THE VISIT of the engine's own queue
  pub own_get : (a : Answer Tree) (g hub new : FrontState) → IsVisit table goals e v w (GetMessage (Some t) p) a f g hub new → IsVisit table goals e v w (GetMessage None p) a f g hub new
  own_get a g hub new x = record {
    visited = get_visited a hub.seen (told_of goals g) x.visited;
    history = x.history;
    carried = x.carried;
    own = x.own;
    named = x.named;
    holds = x.holds;
    refusals = x.refusals;
    asked = record {
      more = x.asked.more;
      asked = x.asked.asked;
      each = All-weaker (IsInAnswer term_by clause_key text (GetMessage (Some t) p) (told_of goals f)) (IsInAnswer term_by clause_key text (GetMessage None p) (told_of goals f)) (λ c y. record {
        before = y.before;
        follows = y.follows;
        stands = λ q asks. let z = y.stands (get_message (Some (said (names v) t)) (said (names v) p)) refl in record {
          reply = z.reply;
          update = z.update;
          served = ap (served_now (own_engine f.lives) goals y.before) asks ∙ sym (get_served y.before) ∙ z.served;
          handed = z.handed;
        };
      }) x.asked.more x.asked.each;
    };
  }

  pub own_peek : (a : Answer Tree) (g hub new : FrontState) → IsVisit table goals e v w (PeekMessage (Some t) p) a f g hub new → IsVisit table goals e v w (PeekMessage None p) a f g hub new
  own_peek a g hub new x = record {
    visited = peek_visited a hub.seen (told_of goals g) x.visited;
    history = x.history;
    carried = x.carried;
    own = x.own;
    named = x.named;
    holds = x.holds;
    refusals = x.refusals;
    asked = record {
      more = x.asked.more;
      asked = x.asked.asked;
      each = All-weaker (IsInAnswer term_by clause_key text (PeekMessage (Some t) p) (told_of goals f)) (IsInAnswer term_by clause_key text (PeekMessage None p) (told_of goals f)) (λ c y. record {
        before = y.before;
        follows = y.follows;
        stands = λ q asks. let z = y.stands (peek_message (Some (said (names v) t)) (said (names v) p)) refl in record {
          reply = z.reply;
          update = z.update;
          served = ap (served_now (own_engine f.lives) goals y.before) asks ∙ sym (peek_served y.before) ∙ z.served;
          handed = z.handed;
        };
      }) x.asked.more x.asked.each;
    };
  }
