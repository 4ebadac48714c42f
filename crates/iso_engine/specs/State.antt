-- Goals of predicates of the shared state, and what they lead to.
use Rattle.std.specs.Prelude.{◌≡◌, ◌⊎◌, ℕ, length, Option, Some, IsSome}
use Rattle.std.specs.List.{All}
use Rattle.pl_term.specs.Tree.{Chars, Tree}
use Rattle.pl_model.specs.Balls.{error_ball}
use Rattle.pl_model.specs.BuiltinRows as rows
use Rattle.pl_model.specs.History.{History, Kind}
use Rattle.pl_model.specs.Predicates.{proc_of}
use Rattle.pl_model.specs.Requests.{Request, Reply}
use Rattle.pl_model.specs.Service.{answers, on_of, served_now, waits}
use Rattle.pl_model.specs.Resolution.{State, asks, goes, throwing}
use Rattle.pl_model.specs.SharedBuiltins.{asks_for, shared}
use Rattle.pl_model.specs.Terms.{arguments}
use Rattle.pl_model.specs.Control.{construct, name_of, other, with_row}
use Rattle.atom_api.specs.Names.{Names}
use Rattle.term_store.specs.ArgumentKeys.{clause_key, key_atoms}
use Rattle.term_store.specs.declared.argument_key.ArgumentKey.{ArgumentKey}
use Rattle.term_store.specs.Contents.{Contents}
use Rattle.term_store.specs.NumberedNames.{names_of, term_by}
use Rattle.world_api.specs.declared.answer.On.{On}
use Rattle.world_api.specs.declared.visit.Visit.{Visit}
use Rattle.world_api.specs.Answers.{on_by, on_names, seen_as}
use Rattle.world_api.specs.Asked.{IsInReply}
use Rattle.world_api.specs.Texts.{Holds, text_of}
use Rattle.world_api.specs.Told.{Told, Follows}
use Rattle.world_api.specs.Visits.{Asks, visit_names}
use Rattle.iso_search.specs.declared.outcome.Outcome.{Outcome}
use Rattle.iso_search.specs.declared.search.Search.{Search}
use Rattle.iso_search.specs.Outcomes.{IsAfter, Setting, limits_in, result_in, state_in}
use Rattle.iso_search.specs.Reading.{IsView, View, reads}
use Rattle.iso_search.specs.Searching.{node_of, state_of}
use Rattle.shared_builtins.specs.declared.goal.StateGoal.{StateGoal}
use Rattle.shared_builtins.specs.Goals.{IsStateGoal}
use Rattle.shared_builtins.specs.Shared.{AsksByNames, renumbered}
use Rattle.iso_engine.specs.declared.state.asked.Asked.{Asked}
use Rattle.iso_engine.specs.declared.state.asked.Asked.TheVariants.{Ran, Refused, Waits}
use Rattle.iso_engine.specs.Builtins.{HasNoRow}
use Rattle.iso_engine.specs.Called.{IsAsked}
use Rattle.iso_engine.specs.Wrote.{led, taken}

-- The goal is one of a predicate of the shared state, however it is read: no control construct, and no function of its
-- arguments alone.
pub record IsStateAt (s : Contents) (x : StateGoal) : Type 0 where
  pub goal_is : IsStateGoal s x
  pub other_is : (v : View) → IsView v → construct (reads v s x.place) ≡ other
  pub no_row : HasNoRow s x.place

-- The definition asks this for the goal, and the visit asks for the same with its variables numbered from 0.
pub record IsVisitFor (m : Names) (g : Tree) (v : Visit Tree ArgumentKey) (q : Request) (next : Reply → ℕ → rows.Row) : Type 0 where
  pub shares : shared (name_of g) (arguments g) ≡ Some (asks_for q next)
  pub asks : Asks term_by clause_key (text_of m) v (renumbered q)
  pub held : All (λ a. IsSome (m a)) (visit_names names_of key_atoms v)
  pub by_names : AsksByNames v

-- Where the inference was made, the search `e` comes by the row of the goal to the outcome.
abbrev pub IsRowLed : Names → Search → StateGoal → ℕ → rows.Row → Search → Outcome → Type 0
IsRowLed n e x rest d f o =
    (s : Setting) → IsView s.view → Holds n s.view.names
    → let k = node_of s.view e rest in let g = reads s.view e.store x.place in
    result_in s f k (proc_of g) o ≡ with_row (limits_in s e) (state_in s e) k (proc_of g) (arguments g) d

-- What the row of a reply leads to. An error of the shared state is not in the store.
abbrev pub IsReplyLed : Names → Search → StateGoal → ℕ → rows.Row → Search → Asked → Type 0
IsReplyLed n e x rest d f (Ran o) = IsRowLed n e x rest d f o × IsAfter e f o
IsReplyLed n e x rest d f (Refused error) = (d ≡ rows.error (term_by (text_of n) error)) × (f ≡ e) × All (λ a. IsSome (n a)) (names_of error)
IsReplyLed n e x rest d f (Waits on g) = ⊥

-- The search raises this error term in the predicate of the goal.
abbrev pub refused_led : Setting → Search → StateGoal → ℕ → Search → Tree → Names → State
refused_led s e x rest d error n =
    state_of s.view d
    (throwing (error_ball (term_by (text_of n) error) (proc_of (reads s.view e.store x.place))) (node_of s.view e rest).goals) s.output

-- The goal asked for nothing.
pub record IsAlone (n : Names) (e : Search) (x : StateGoal) (rest : ℕ) (d : Search) (o : Outcome) : Type 0 where
  pub leads : (s : Setting) (h : ℕ) → IsView s.view → Holds n s.view.names → taken s e x.place rest h ≡ goes (led s e x.place rest d o)
  pub after : IsAfter e d o

-- The goal's request was answered after all entries, and the reply leads to a state. The request is the same by every view in
-- which the engine's atoms have their texts, since those of the goal are held.
pub record IsAnswered (t : Told) (e : Search) (x : StateGoal) (rest : ℕ) (n : Names) (u : Told) (to : Setting → State) : Type 0 where
  pub before : History
  pub update : Option Kind
  pub asked : IsAsked t before update u
  pub request : Request
  pub reply : Reply
  pub served : served_now t.engine t.goals before request ≡ answers reply update
  pub asking :
      (s : Setting) (h : ℕ)
      → IsView s.view
      → Holds n s.view.names
      → (next : Reply → State) × (taken s e x.place rest h ≡ asks request next) × (next reply ≡ to s)

-- The goal's request waits after all entries, on this.
pub record IsHeldUp (t : Told) (e : Search) (x : StateGoal) (rest : ℕ) (n : Names) (u : Told) (d : Search) (on : On) (g : ℕ) : Type 0 where
  pub before : History
  pub follows : Follows t.engine t.history before
  pub request : Request
  pub asking : (s : Setting) (h : ℕ) → IsView s.view → Holds n s.view.names → (next : Reply → State) × (taken s e x.place rest h ≡ asks request next)
  pub waiting : served_now t.engine t.goals before request ≡ waits
  pub awaits : on_of t.engine request ≡ Some (on_by (text_of n) on)
  pub held : All (λ a. IsSome (n a)) (on_names on)
  pub generation : g ≡ length before
  pub told : u ≡ seen_as t before t.gens
  pub search : d ≡ e

abbrev pub IsGoalAsked : Told → Search → StateGoal → ℕ → Names → Told → Search → Asked → Type 0
IsGoalAsked t e x rest n u d (Ran o) =
    ((u ≡ t) × IsAlone n e x rest d o) ⊎ (IsAnswered t e x rest n u (λ s. led s e x.place rest d o) × IsAfter e d o)
IsGoalAsked t e x rest n u d (Refused error) =
    IsAnswered t e x rest n u (λ s. refused_led s e x rest d error n) × All (λ a. IsSome (n a)) (names_of error) × (d ≡ record e { inferences = d.inferences })
IsGoalAsked t e x rest n u d (Waits on g) = IsHeldUp t e x rest n u d on g

-- An inference can be made, and the text is one of what is handed of the reply to the goal's request after entries of others.
pub record IsStateAsked (m : Names) (t : Told) (e : Search) (x : StateGoal) (c : Chars) : Type 0 where
  pub request : Request
  pub asking : (s : Setting) (rest h : ℕ) → IsView s.view → Holds m s.view.names → (next : Reply → State) × (taken s e x.place rest h ≡ asks request next)
  pub before : History
  pub follows : Follows t.engine t.history before
  pub handed : IsInReply t before request c
