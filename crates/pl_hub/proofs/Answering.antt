-- A row and the step after it are a visit.
use Rattle.std.proofs.Common.{◌≡◌, ℕ, List, [], ◌∷◌, ◌++◌, length, Some, refl, sym, ap, subst, ◌∙◌, append-nil}
use Rattle.std.specs.Prelude.{IsSome}
use Rattle.std.specs.List.{All}
use Rattle.std.proofs.lemmas.List.Elements.{All-cons, All-nil}
use Rattle.atomic_table.specs.Seated.{TableId}
use Rattle.pl_term.specs.Tree.{Chars, Tree}
use Rattle.pl_model.specs.History.{Entry, Kind}
use Rattle.pl_model.specs.Requests.{Request}
use Rattle.pl_history.specs.Fronts.{FrontState, Life, begun_by}
use Rattle.atom_words.specs.declared.view.View.{View}
use Rattle.atom_words.specs.declared.view.Refusal.{Refusal}
use Rattle.atom_table.specs.Naming.{names, requests}
use Rattle.term_store.specs.ArgumentKeys.{clause_key}
use Rattle.term_store.specs.NumberedNames.{names_of, term_by}
use Rattle.term_store.specs.declared.argument_key.ArgumentKey.{ArgumentKey}
use Rattle.world_api.specs.declared.answer.Answer.{Answer}
use Rattle.world_api.specs.declared.visit.Visit.{Visit}
use Rattle.world_api.specs.Answers.{answer_names, refusals_by}
use Rattle.world_api.specs.Asked.{IsInAnswer}
use Rattle.world_api.specs.Gains.{Gains}
use Rattle.world_api.specs.Replies.{Suits}
use Rattle.world_api.specs.Texts.{Holds, text_of}
use Rattle.world_api.specs.declared.reply.Reply.{Reply}
use Rattle.world_api.specs.Visits.{Asks}
use Rattle.counted_terms.specs.declared.row.Row.{Row}
use Rattle.counted_terms.specs.declared.row.Row.TheVariants.{Reads, Makes, Waits, NeedsAtoms, Retry, Worn, Memory}
use Rattle.counted_terms.specs.Rows.{row_names, row_refusals}
use Rattle.hub_database.specs.Rows.{RepliesBy}
use Rattle.pl_hub.specs.Fronts.{Grows, IsOwn, told_of}
use Rattle.pl_hub.specs.Settling.{CanSettle, Meets, Sees, answer_of, entry, front_after, hub_after}
use Rattle.pl_hub.specs.Visits.{IsTold, IsVisit}
use Rattle.pl_hub.proofs.Own.{own_after}
use Rattle.pl_hub.proofs.Visiting.{IsAsked, IsFreshVisit, IsPlainVisit, any_reply, asked_one, meets_one, visited_by}

-- no text was asked for
pub none_asked : (P : Chars → Type 0) (v w : View) → requests w ≡ requests v → Gains P (Some (requests v)) (Some (requests w))
none_asked P v w same = record { more = []; asked = ap Some (same ∙ sym (append-nil (requests v))); each = All-nil P }

named_row : (row : Row) (g : ℕ) → answer_names names_of (answer_of row g) ≡ row_names row
named_row (Reads r) g = refl
named_row (Makes r) g = refl
named_row (Waits on) g = refl
named_row (NeedsAtoms p) g = refl
named_row (Retry c) g = refl
named_row (Worn w) g = refl
named_row Memory g = refl

refused_row : (row : Row) (g : ℕ) → refusals_by (answer_of row g) ≡ row_refusals row
refused_row (Reads r) g = refl
refused_row (Makes r) g = refl
refused_row (Waits on) g = refl
refused_row (NeedsAtoms p) g = refl
refused_row (Retry c) g = refl
refused_row (Worn w) g = refl
refused_row Memory g = refl

told_row : (e : ℕ) (k : Kind) (row : Row) (f hub : FrontState) → IsTold (answer_of row (length hub.seen)) (front_after e k row hub.seen f) hub (hub_after e k row hub)
told_row e k (Reads r) f hub = refl
told_row e k (Makes r) f hub = refl
told_row e k (Waits on) f hub = refl
told_row e k (NeedsAtoms p) f hub = refl
told_row e k (Retry c) f hub = refl
told_row e k (Worn w) f hub = refl
told_row e k Memory f hub = refl

pub none_more : (e : ℕ) (hub : FrontState) → Grows e hub hub
none_more e hub = record { later = []; own = All-nil (λ (x : Entry). x.engine ≡ e); grown = sym (append-nil hub.seen); carried = sym (append-nil hub.lives) }

grows_row : (e : ℕ) (k : Kind) (row : Row) (hub : FrontState) → Grows e hub (hub_after e k row hub)
grows_row e k (Reads r) hub = none_more e hub
grows_row e k (Makes r) hub = record {
  later = entry e k ∷ [];
  own = All-cons (λ (x : Entry). x.engine ≡ e) (entry e k) [] refl (All-nil (λ (x : Entry). x.engine ≡ e));
  grown = refl;
  carried = ap (λ (ls : List Life). hub.lives ++ ls) (sym (append-nil (begun_by k)));
}
grows_row e k (Waits on) hub = none_more e hub
grows_row e k (NeedsAtoms p) hub = none_more e hub
grows_row e k (Retry c) hub = none_more e hub
grows_row e k (Worn w) hub = none_more e hub
grows_row e k Memory hub = none_more e hub

module _ (table : TableId) (goals e : ℕ) (v w : View) (visit : Visit Tree ArgumentKey) (fresh : IsFreshVisit (text_of (names v)) (text_of (names w)) visit)
    (f : FrontState) (own : IsOwn table e f) (hub : FrontState) (k : Kind) (row : Row) (suits : RepliesBy (λ (r : Reply Tree). Suits visit r) row) where
  answered : CanSettle k hub.seen row → Sees hub.seen f row → IsAsked (text_of (names v)) visit row
      → ((q : Request) → Asks term_by clause_key (text_of (names v)) visit q → Meets goals e (text_of (names w)) q hub.seen k row)
      → All (λ x. IsSome (names w x)) (row_names row)
      → Holds (names v) (names w)
      → w.refusals ≡ v.refusals ++ row_refusals row
      → Gains (IsInAnswer term_by clause_key (text_of (names v)) visit (told_of goals f)) (Some (requests v)) (Some (requests w))
      → IsVisit table goals e v w visit (answer_of row (length hub.seen)) f (front_after e k row hub.seen f) hub (hub_after e k row hub)
  answered can sees asked meets named holds refusals texts = record {
    visited = visited_by table goals e (text_of (names v)) (text_of (names w)) visit fresh f own hub.seen k row suits can sees asked meets;
    history = told_row e k row f hub;
    carried = grows_row e k row hub;
    own = own_after table e f own hub.seen k row can sees;
    named = subst (λ (l : List ℕ). All (λ x. IsSome (names w x)) l) (sym (named_row row (length hub.seen))) named;
    holds = holds;
    refusals = refusals ∙ ap (λ (l : List Refusal). v.refusals ++ l) (sym (refused_row row (length hub.seen)));
    asked = texts;
  }

  -- IT IS A VISIT that any request stands for which it can stand for
  pub suited_visit : (a : Answer Tree) (g new : FrontState) → a ≡ answer_of row (length hub.seen) → g ≡ front_after e k row hub.seen f → new ≡ hub_after e k row hub
      → CanSettle k hub.seen row → Sees hub.seen f row → IsAsked (text_of (names v)) visit row
      → ((q : Request) → Asks term_by clause_key (text_of (names v)) visit q → Meets goals e (text_of (names w)) q hub.seen k row)
      → All (λ x. IsSome (names w x)) (row_names row)
      → Holds (names v) (names w)
      → w.refusals ≡ v.refusals ++ row_refusals row
      → Gains (IsInAnswer term_by clause_key (text_of (names v)) visit (told_of goals f)) (Some (requests v)) (Some (requests w))
      → IsVisit table goals e v w visit a f g hub new
  suited_visit a g new a_is g_is new_is can sees asked meets named holds refusals texts =
      subst (λ (x : Answer Tree). IsVisit table goals e v w visit x f g hub new) (sym a_is)
      (subst (λ (x : FrontState). IsVisit table goals e v w visit (answer_of row (length hub.seen)) f x hub new) (sym g_is)
      (subst (λ (x : FrontState). IsVisit table goals e v w visit (answer_of row (length hub.seen)) f (front_after e k row hub.seen f) hub x) (sym new_is)
      (answered can sees asked meets named holds refusals texts)))

module _ (table : TableId) (goals e : ℕ) (v w : View) (visit : Visit Tree ArgumentKey) (plain : IsPlainVisit (text_of (names v)) (text_of (names w)) visit)
    (f : FrontState) (own : IsOwn table e f) (hub : FrontState) (k : Kind) (row : Row) where
  -- one that any reply suits
  pub is_visit : (a : Answer Tree) (g new : FrontState) → a ≡ answer_of row (length hub.seen) → g ≡ front_after e k row hub.seen f → new ≡ hub_after e k row hub
      → CanSettle k hub.seen row → Sees hub.seen f row → IsAsked (text_of (names v)) visit row
      → ((q : Request) → Asks term_by clause_key (text_of (names v)) visit q → Meets goals e (text_of (names w)) q hub.seen k row)
      → All (λ x. IsSome (names w x)) (row_names row)
      → Holds (names v) (names w)
      → w.refusals ≡ v.refusals ++ row_refusals row
      → Gains (IsInAnswer term_by clause_key (text_of (names v)) visit (told_of goals f)) (Some (requests v)) (Some (requests w))
      → IsVisit table goals e v w visit a f g hub new
  is_visit a g new a_is g_is new_is can sees asked meets named holds refusals texts =
      suited_visit table goals e v w visit plain.0 f own hub k row (any_reply visit plain.1 row) a g new a_is g_is new_is can sees asked meets named holds refusals texts

  -- that one request stands for
  pub is_visit_of : (q : Request) → Asks term_by clause_key (text_of (names v)) visit q → ((r : Request) → Asks term_by clause_key (text_of (names v)) visit r → r ≡ q)
      → (a : Answer Tree) (g new : FrontState) → a ≡ answer_of row (length hub.seen) → g ≡ front_after e k row hub.seen f → new ≡ hub_after e k row hub
      → CanSettle k hub.seen row → Sees hub.seen f row
      → Meets goals e (text_of (names w)) q hub.seen k row
      → All (λ x. IsSome (names w x)) (row_names row)
      → Holds (names v) (names w)
      → w.refusals ≡ v.refusals ++ row_refusals row
      → Gains (IsInAnswer term_by clause_key (text_of (names v)) visit (told_of goals f)) (Some (requests v)) (Some (requests w))
      → IsVisit table goals e v w visit a f g hub new
  is_visit_of q asks only a g new a_is g_is new_is can sees meets named holds refusals texts =
      is_visit a g new a_is g_is new_is can sees (asked_one (text_of (names v)) visit q asks row)
      (meets_one goals e (text_of (names v)) (text_of (names w)) visit q hub.seen k row only meets) named holds refusals texts
