-- What the visits of calls and retries intern.
use Rattle.iso_search.specs.declared.choices.Purpose.TheVariants.{Resolving, Inspecting, Retracting}
use Rattle.pl_model.specs.Requests.{Request}
use Rattle.world_api.specs.Visits.{Asks}
use Rattle.pl_model.specs.History.{History}
use Rattle.std.proofs.Common.{◌≡◌, ℕ, ◌<◌, List, Option, refl, ap, subst, ◌∙◌, sym}
use Rattle.std.specs.List.{Contains}
use Rattle.pl_term.specs.Tree.{Chars, Tree}
use Rattle.atom_api.specs.Names.{Names, FixedStand}
use Rattle.term_store.specs.declared.argument_key.ArgumentKey.{ArgumentKey}
use Rattle.term_store.specs.declared.words.Place.{Place}
use Rattle.term_store.specs.ArgumentKeys.{clause_key}
use Rattle.term_store.specs.Contents.{term_at}
use Rattle.term_store.specs.NumberedNames.{term_by}
use Rattle.world_api.specs.declared.visit.Procedure.{Procedure}
use Rattle.world_api.specs.declared.visit.Visit.{Visit}
use Rattle.world_api.specs.declared.visit.Visit.TheVariants.{Next}
use Rattle.world_api.specs.Asked.{front_texts, IsInReply, IsInAnswer, StandsIn}
use Rattle.world_api.specs.Gains.{Gains}
use Rattle.world_api.specs.Texts.{text_of}
use Rattle.world_api.specs.Told.{Told, behind, clause_list}
use Rattle.world_api.proofs.Gaining.{gains_nothing, gains_weaker}
use Rattle.iso_search.specs.declared.choices.Purpose.{Purpose}
use Rattle.iso_search.specs.declared.search.Search.{Search}
use Rattle.iso_search.specs.Choices.{listed_goal, purpose_of}
use Rattle.iso_search.specs.Reading.{reads}
use Rattle.iso_engine.specs.ClausesAsked.{IsListAsked, IsRetryAsked, listing, visit_of}
use Rattle.iso_engine.specs.CalledGoals.{HasPredicate}
use Rattle.iso_engine.specs.Lists.{IsOpen}
use Rattle.iso_engine.specs.Parts.{IsOverAtoms}
use Rattle.iso_engine.specs.Views.{view_of}
use Rattle.iso_engine.proofs.Asking.{goal_asked, list_asked}
use Rattle.iso_engine.proofs.LaterLists.{list_later}
use Rattle.iso_engine.proofs.Readings.{read_over}

-- Nothing was asked of the atoms.
pub nothing_asked : (P : Chars → Type 0) (o : Option (List Chars)) → Gains P o o
nothing_asked P o = gains_nothing P o o refl

-- What stands in the answer to a visit for clauses is handed of the reply to what it asks.
stands_for : (text : ℕ → Chars) (t : Told) (before : History) (c : Chars) (q : Purpose) (p : Procedure) (k : ArgumentKey) (w : Visit Tree ArgumentKey) → w ≡ visit_of q p k
    → StandsIn term_by clause_key text w t before c → (r : Request) → Asks term_by clause_key text w r → IsInReply t before r c
stands_for text t before c q p k w is =
    subst (λ (v : Visit Tree ArgumentKey). StandsIn term_by clause_key text v t before c → (r : Request) → Asks term_by clause_key text v r → IsInReply t before r c) (sym is) (go q)
  where
    go : (x : Purpose) → StandsIn term_by clause_key text (visit_of x p k) t before c → (r : Request) → Asks term_by clause_key text (visit_of x p k) r → IsInReply t before r c
    go Resolving s = s
    go Inspecting s = s
    go Retracting s = s

module _ (m : Names) (t : Told) (e : Search) (goal : Place) (p : Procedure) (k : ArgumentKey) (fixed : FixedStand m) (over : IsOverAtoms (term_at e.store goal))
    (is : HasPredicate (term_at e.store goal) p) (key : k ≡ clause_key (term_at e.store goal)) (old new : Option (List Chars)) where
  abbrev goal_now : Tree
  goal_now = term_by (text_of m) (term_at e.store goal)

  -- The goal as it is read.
  same_now : goal_now ≡ reads (view_of m t) e.store goal
  same_now = read_over m fixed (term_at e.store goal) over

  pub list_gains : (q : Purpose) (tried_at : Place) → reads (view_of m t) e.store goal ≡ listed_goal (purpose_of q) (reads (view_of m t) e.store tried_at)
      → (w : Visit Tree ArgumentKey) → w ≡ visit_of q p k → e.inferences < e.budgets.inferences → Gains (IsInAnswer term_by clause_key (text_of m) w t) old new
      → Gains (IsListAsked q m t e tried_at) old new
  list_gains q tried_at lists w asks count =
      gains_weaker (IsInAnswer term_by clause_key (text_of m) w t) (IsListAsked q m t e tried_at) old new
      (λ c a. record {
        count = count;
        before = a.before;
        follows = a.follows;
        handed =
            subst (λ (g : Tree). IsInReply t a.before (listing q g) c) (same_now ∙ lists)
            (stands_for (text_of m) t a.before c q p k w asks a.stands (listing q goal_now) (list_asked q m (term_at e.store goal) p k w asks fixed is key));
      })

  -- The goal is the one for which the clauses are listed.
  pub retry_gains : (q : Purpose) (tried_at : Place) → reads (view_of m t) e.store goal ≡ listed_goal (purpose_of q) (reads (view_of m t) e.store tried_at)
      → (g place : ℕ) → IsOpen t (listed_goal (purpose_of q) (reads (view_of m t) e.store tried_at)) g place
      → Gains (IsInAnswer term_by clause_key (text_of m) (Next p k g place) t) old new
      → Gains (IsRetryAsked m t e q tried_at g place) old new
  retry_gains q tried_at lists g place opens =
      gains_weaker (IsInAnswer term_by clause_key (text_of m) (Next p k g place) t) (IsRetryAsked m t e q tried_at g place) old new
      (λ c a.
      let there : Contains (front_texts (behind place (clause_list t.goals a.before g goal_now))) c =
      a.stands goal_now (goal_asked m (term_at e.store goal) p k fixed is key)
      in let here : Contains (front_texts (behind place (clause_list t.goals t.history g goal_now))) c =
      subst (λ l. Contains (front_texts (behind place l)) c)
      (ap (λ h. clause_list t.goals h g goal_now) a.follows.grown ∙ list_later t.goals t.history a.follows.later g goal_now opens.within)
      there
      in subst (λ (x : Tree). Contains (front_texts (behind place (clause_list t.goals t.history g x))) c) (same_now ∙ lists) here)
