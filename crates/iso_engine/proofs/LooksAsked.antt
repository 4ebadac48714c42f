-- What the visit of clause/2 or retract/1 leads to, as a step of the definition.
use Rattle.std.proofs.Common.{inr, ◌≡◌, ℕ, ◌<◌, false, List, length, Option, None, IsSome, codes, refl, sym, ap, ap₂, ◌∙◌}
use Rattle.std.specs.List.{All}
use Rattle.pl_term.specs.Tree.{Chars, Tree}
use Rattle.pl_model.specs.Balls.{error_ball}
use Rattle.pl_model.specs.Control.{first_clause, tried_by, with_clauses}
use Rattle.pl_model.specs.Database.{Stored}
use Rattle.pl_model.specs.History.{Clause, Proc, proc}
use Rattle.pl_model.specs.Predicates.{proc_of}
use Rattle.pl_model.specs.Requests.{Reply, Request, listed, refused}
use Rattle.pl_model.specs.Resolution.{Node, State, asks, throwing}
use Rattle.pl_model.specs.Service.{answers, served_now}
use Rattle.atom_api.specs.Names.{Names}
use Rattle.term_store.specs.declared.words.Place.{Place}
use Rattle.term_store.specs.Contents.{Contents, term_at}
use Rattle.term_store.specs.NumberedNames.{atoms_in, term_by}
use Rattle.world_api.specs.Gains.{Gains}
use Rattle.world_api.specs.Texts as worlds
use Rattle.world_api.specs.Texts.{Holds}
use Rattle.world_api.specs.Told.{Told}
use Rattle.iso_search.specs.declared.choices.Purpose.{Purpose}
use Rattle.iso_search.specs.declared.outcome.Outcome.{Outcome}
use Rattle.iso_search.specs.declared.search.Search.{Search}
use Rattle.iso_search.specs.Choices.{listed_goal, purpose_of}
use Rattle.iso_search.specs.Conversions.{Grows}
use Rattle.iso_search.specs.Outcomes.{IsAfter, Setting, limits_in, result_in, state_in}
use Rattle.iso_search.specs.Reading.{IsView, View, reads}
use Rattle.iso_search.specs.Searching.{IsWhole, node_of, state_of}
use Rattle.iso_search.proofs.After.{after_grown}
use Rattle.iso_search.proofs.Grown.{node_grown, state_grown}
use Rattle.world_api.proofs.Gaining.{gains_weaker}
use Rattle.iso_search.proofs.Naming.{clause_is, retract_is, text_is}
use Rattle.iso_engine.specs.declared.state.looks.Look.{Look}
use Rattle.iso_engine.specs.declared.state.looks.Look.TheVariants.{Inspects, Retracts}
use Rattle.iso_engine.specs.declared.state.looks.LookGoal.{LookGoal}
use Rattle.iso_engine.specs.declared.call.called.Called.{Called}
use Rattle.iso_engine.specs.declared.call.called.Called.TheVariants as calls
use Rattle.iso_engine.specs.Called.{AreLooked, IsRefused, IsRun, counted}
use Rattle.iso_engine.specs.ClauseLooks.{IsLookAt, IsLookDone, look_error, looked_rule, predicate_for, purpose_for}
use Rattle.iso_engine.specs.GoalSteps.{IsStepAnswered, IsStepAsked, step_refused}
use Rattle.iso_engine.specs.ClausesAsked.{IsListAsked, listing}
use Rattle.iso_engine.specs.Following.{proc_in}
use Rattle.iso_engine.specs.Following.{is_integer}
use Rattle.iso_engine.specs.Ready.{IsAlike}
use Rattle.iso_engine.specs.Views.{view_of}
use Rattle.iso_engine.specs.Wrote.{led, taken}
use Rattle.iso_engine.proofs.Alike.{alike_itself}
use Rattle.iso_engine.proofs.Calls.{at_once, from_at_once, listed_alike, lists_same}
use Rattle.iso_engine.proofs.ClauseLooks.{look_asks}
use Rattle.iso_engine.proofs.Fresh.{spelled_later}
use Rattle.iso_engine.proofs.LookGoals.{look_procedure}
use Rattle.iso_engine.proofs.LookPredicates.{look_callable}
use Rattle.iso_engine.proofs.StateRows.{counted_in}

-- The predicate by its fixed name.
predicate_read : (v : View) → IsView v → (y : Look) (r : Tree) → tried_by (purpose_of (purpose_for y)) r ≡ proc_in v (predicate_for y)
predicate_read v view (Inspects h b) r = ap (λ f. proc f 2) (sym (text_is v view 62 (codes "clause") clause_is))
predicate_read v view (Retracts t) r = ap (λ f. proc f 1) (sym (text_is v view 153 (codes "retract") retract_is))

-- The rule was made in the store of the search `e`, which may make an inference and is not refused.
module _ (m n : Names) (t u : Told) (e : Search) (x : LookGoal) (rest : ℕ) (at : IsLookAt e.store x) (count : e.inferences < e.budgets.inferences) (holds : Holds m n)
    (view : IsView (view_of n u)) (whole : IsWhole e) (grown : Contents) (grows : Grows e.store grown) (rule : Place)
    (read : (v : View) → IsView v → reads v grown rule ≡ looked_rule v e.store x.look)
    (held : All (λ a. IsSome (m a)) (atoms_in (term_at grown rule)))
    (allowed : (v : View) → IsView v → Holds m v.names → look_error v e.store x.look ≡ None) where
  abbrev q : Purpose
  q = purpose_for x.look

  abbrev made : Search
  made = record e { store = grown }

  abbrev rule_by : View → Tree
  rule_by v = reads v grown rule

  abbrev head_by : View → Tree
  head_by v = listed_goal (purpose_of q) (rule_by v)

  same_rule : (v : View) → IsAlike n u v → rule_by v ≡ rule_by (view_of n u)
  same_rule v alike =
      spelled_later m v.names (λ a y h. alike.holds a y (holds a y h)) (term_at grown rule) held ∙ sym (spelled_later m n holds (term_at grown rule) held)

  -- No integer is the head.
  callable : (v : View) → IsView v → IsAlike n u v → is_integer (head_by v) ≡ false
  callable v viewed alike =
      ap (λ y. is_integer (listed_goal (purpose_of q) y)) (read v viewed) ∙ look_callable v e.store x.look (allowed v viewed (λ a y k. alike.holds a y (holds a y k)))

  abbrev request : Request
  request = listing q (head_by (view_of n u))

  abbrev next_by : Setting → Reply → State
  next_by s = with_clauses (limits_in s e) (purpose_of q) (state_in s (counted_in e)) (looked_rule s.view e.store x.look) (node_of s.view e rest)

  asks_it : (s : Setting) (h : ℕ) → IsView s.view → IsAlike n u s.view → taken s e x.place rest h ≡ asks request (next_by s)
  asks_it s h viewed alike =
      look_asks e x rest at s h viewed count (allowed s.view viewed (λ a y k. alike.holds a y (holds a y k)))
      ∙ ap (λ y. asks (listing q (listed_goal (purpose_of q) y)) (next_by s)) (sym (read s.view viewed) ∙ same_rule s.view alike)

  tried_is : (s : Setting) → IsView s.view → tried_by (purpose_of q) (rule_by s.view) ≡ proc_of (reads s.view e.store x.place)
  tried_is s viewed = predicate_read s.view viewed x.look (rule_by s.view) ∙ sym (look_procedure e.store x at s viewed)

  -- The clauses were tried.
  module _ (f : Search) (o : Outcome) (run : IsRun q m t made rule rest n u f o) where
    abbrev now_listed : List (Stored Clause)
    now_listed = (run.answered (at_once n u (view_of n u) (alike_itself n u) view) (from_at_once n u (view_of n u) (alike_itself n u) view)).0

    now_served : served_now t.engine t.goals run.before request ≡ answers (listed now_listed) None
    now_served = (run.answered (at_once n u (view_of n u) (alike_itself n u) view) (from_at_once n u (view_of n u) (alike_itself n u) view)).1

    leads : (s : Setting) → IsView s.view → IsAlike n u s.view → next_by s (listed now_listed) ≡ led s e x.place rest f o
    leads s viewed alike =
        let v = s.view
        in let l = limits_in s e
        in let p = purpose_of q
        in let told = run.answered (at_once n u v alike viewed) (from_at_once n u v alike viewed)
        in let cs = told.0
        in let lists : now_listed ≡ cs =
        lists_same now_listed cs (sym now_served ∙ ap (λ y. served_now t.engine t.goals run.before (listing q (listed_goal p y))) (sym (same_rule v alike)) ∙ told.1)
        in let is = listed_alike n u v alike viewed (head_by v) (length run.before) run.found cs (callable v viewed alike) told.2 told.3
        in ap (λ ds. first_clause l p (state_in s (counted_in e)) (looked_rule v e.store x.look) (node_of v e rest) ds) lists
        ∙ ap₂ (λ (y : State) (z : Node). first_clause l p (counted y) (looked_rule v e.store x.look) z cs) (sym (state_grown e grown grows.stays whole s))
        (sym (node_grown e grown grows.stays whole v rest))
        ∙ ap (λ (y : Tree). first_clause l p (counted (state_in s made)) y (node_of v made rest) cs) (sym (read v viewed))
        ∙ sym (run.runs s cs viewed is)
        ∙ ap₂ (λ (z : Node) (r : Proc). result_in s f z r o) (node_grown e grown grows.stays whole v rest) (tried_is s viewed)

    pub looked : IsStepAnswered t e x.place rest n u (λ s. led s e x.place rest f o)
    looked =
        record {
          before = run.before;
          update = None;
          asked = run.asked;
          request = request;
          reply = listed now_listed;
          served = now_served;
          asking = λ s h viewed alike. (next_by s, asks_it s h viewed alike, leads s viewed alike);
        }

    pub looked_after : IsAfter e f o
    looked_after = after_grown e made f o grows.stays whole refl run.after

  -- The visit refused the goal.
  module _ (f : Search) (error : Tree) (y : IsRefused q m t made rule n u f error) where
    abbrev error_now : Tree
    error_now = term_by (worlds.text_of n) error

    error_served : served_now t.engine t.goals y.before request ≡ answers (refused error_now) None
    error_served = y.answered (view_of n u) (from_at_once n u (view_of n u) (alike_itself n u) view)

    raises : (s : Setting) → IsView s.view → next_by s (refused error_now) ≡ step_refused s e x.place rest f error n
    raises s viewed =
        let v = s.view
        in let k = node_of v e rest
        in ap (λ (w : State). let z : State = record (counted w) { doing = throwing (error_ball error_now (tried_by (purpose_of q) (looked_rule v e.store x.look))) k.goals } in z)
        (sym (state_grown e grown grows.stays whole s))
        ∙ ap (λ (r : Proc). let z : State = record (counted (state_in s made)) { doing = throwing (error_ball error_now r) k.goals } in z)
        (ap (tried_by (purpose_of q)) (sym (read v viewed)) ∙ tried_is s viewed)
        ∙ ap (λ (w : Search). state_of v w (throwing (error_ball error_now (proc_of (reads v e.store x.place))) k.goals) s.output) (sym y.search)

    pub look_raised : IsStepAnswered t e x.place rest n u (λ s. step_refused s e x.place rest f error n)
    look_raised =
        record {
          before = y.before;
          update = None;
          asked = y.asked;
          request = request;
          reply = refused error_now;
          served = error_served;
          asking = λ s h viewed alike. (next_by s, asks_it s h viewed alike, raises s viewed);
        }

  -- What the look at the clauses leads to, where the rule was made.
  pub look_done : (f : Search) (a : Called) → AreLooked q m t made rule rest n u f a → IsLookDone t e x rest n u f a
  look_done f calls.Spent h = absurd h
  look_done f (calls.Ran o) run = inr (looked f o run, looked_after f o run)
  look_done f (calls.Refused error) y = (
    look_raised f error y,
    (
      y.named,
      (
        λ v. ap (λ (z : Search). (node_of v z rest).goals) y.search ∙ ap (λ (k : Node). k.goals) (node_grown e grown grows.stays whole v rest),
        ap (λ (z : Search). z.budgets) y.search,
      ),
    ),
  )

-- What is asked of the atoms, where the rule was made in the store of the search `e`.
module _ (m : Names) (t : Told) (e : Search) (x : LookGoal) (at : IsLookAt e.store x) (count : e.inferences < e.budgets.inferences)
    (view : IsView (view_of m t)) (grown : Contents) (rule : Place)
    (read : (v : View) → IsView v → reads v grown rule ≡ looked_rule v e.store x.look)
    (held : All (λ a. IsSome (m a)) (atoms_in (term_at grown rule)))
    (allowed : (v : View) → IsView v → Holds m v.names → look_error v e.store x.look ≡ None) where
  abbrev asked_request : Request
  asked_request = listing (purpose_for x.look) (listed_goal (purpose_of (purpose_for x.look)) (reads (view_of m t) grown rule))

  abbrev asked_next : ℕ → Setting → Reply → State
  asked_next rest s = with_clauses (limits_in s e) (purpose_of (purpose_for x.look)) (state_in s (counted_in e)) (looked_rule s.view e.store x.look) (node_of s.view e rest)

  asks_that : (s : Setting) (rest h : ℕ) → IsView s.view → Holds m s.view.names → taken s e x.place rest h ≡ asks asked_request (asked_next rest s)
  asks_that s rest h viewed known =
      let same : reads s.view grown rule ≡ reads (view_of m t) grown rule =
      spelled_later m s.view.names known (term_at grown rule) held ∙ sym (spelled_later m m (λ a y k. k) (term_at grown rule) held)
      in look_asks e x rest at s h viewed count (allowed s.view viewed known)
      ∙ ap (λ y. asks (listing (purpose_for x.look) (listed_goal (purpose_of (purpose_for x.look)) y)) (asked_next rest s)) (sym (read s.view viewed) ∙ same)

  pub look_gains : (old new : Option (List Chars)) → (let y : Search = record e { store = grown } in Gains (IsListAsked (purpose_for x.look) m t y rule) old new)
      → Gains (IsStepAsked m t e x.place) old new
  look_gains old new =
      let y : Search = record e { store = grown }
      in gains_weaker (IsListAsked (purpose_for x.look) m t y rule) (IsStepAsked m t e x.place) old new
      (λ c a.
      record {
        request = asked_request;
        asking = λ s rest h viewed known. (asked_next rest s, asks_that s rest h viewed known);
        before = a.before;
        follows = a.follows;
        handed = a.handed;
      })
