-- What a goal at a place leads to, as a step of the search.
use Rattle.std.specs.Prelude.{◌≡◌, ℕ, Option}
use Rattle.pl_term.specs.Tree.{Chars, Tree}
use Rattle.pl_model.specs.Balls.{error_ball}
use Rattle.pl_model.specs.History.{History, Kind}
use Rattle.pl_model.specs.Predicates.{proc_of}
use Rattle.pl_model.specs.Requests.{Reply, Request}
use Rattle.pl_model.specs.Service.{answers, served_now}
use Rattle.pl_model.specs.Resolution as resolution
use Rattle.pl_model.specs.Resolution.{State, throwing}
use Rattle.atom_api.specs.Names.{Names}
use Rattle.term_store.specs.declared.words.Place.{Place}
use Rattle.term_store.specs.NumberedNames.{term_by}
use Rattle.world_api.specs.Texts as worlds
use Rattle.world_api.specs.Asked.{IsInReply}
use Rattle.world_api.specs.Told.{Told, Follows}
use Rattle.iso_search.specs.declared.outcome.Outcome.{Outcome}
use Rattle.iso_search.specs.declared.search.Search.{Search}
use Rattle.iso_search.specs.Outcomes.{IsAfter, Setting}
use Rattle.iso_search.specs.Reading.{IsView, reads}
use Rattle.iso_search.specs.Searching.{node_of, state_of}
use Rattle.iso_engine.specs.Called.{IsAsked}
use Rattle.iso_engine.specs.Ready.{IsAlike}
use Rattle.iso_engine.specs.Wrote.{led, taken}

-- The goal's request was answered after all entries, and by each view by which the engine may be read from then on the reply leads to
-- a state. As IsAnswered, but that the lists of clauses that are left are those of the view.
pub record IsStepAnswered (t : Told) (e : Search) (place : Place) (rest : ℕ) (n : Names) (u : Told) (to : Setting → State) : Type 0 where
  pub before : History
  pub update : Option Kind
  pub asked : IsAsked t before update u
  pub request : Request
  pub reply : Reply
  pub served : served_now t.engine t.goals before request ≡ answers reply update
  pub asking :
      (s : Setting) (h : ℕ)
      → IsView s.view
      → IsAlike n u s.view
      → (next : Reply → State) × (taken s e place rest h ≡ resolution.asks request next) × (next reply ≡ to s)

-- The goal asked for nothing.
pub record IsStepAlone (n : Names) (e : Search) (place : Place) (rest : ℕ) (d : Search) (o : Outcome) : Type 0 where
  pub leads : (s : Setting) (h : ℕ) → IsView s.view → worlds.Holds n s.view.names → taken s e place rest h ≡ resolution.goes (led s e place rest d o)
  pub after : IsAfter e d o

-- The same where what is run has this name, or thread_exit/1 leaves it.
pub record IsStepAloneAs (keep : Option Chars) (n : Names) (e : Search) (place : Place) (rest : ℕ) (d : Search) (o : Outcome) : Type 0 where
  pub leads :
      (s : Setting) (h : ℕ) → IsView s.view → worlds.Holds n s.view.names → s.stays ≡ keep → taken s e place rest h ≡ resolution.goes (led s e place rest d o)
  pub after : IsAfter e d o

-- The search raises this error term in the predicate of the goal.
abbrev pub step_refused : Setting → Search → Place → ℕ → Search → Tree → Names → State
step_refused s e place rest d error n =
    state_of s.view d (throwing (error_ball (term_by (worlds.text_of n) error) (proc_of (reads s.view e.store place))) (node_of s.view e rest).goals) s.output

-- An inference can be made, and the text is one of what is handed of the reply to the goal's request after entries of others.
pub record IsStepAsked (m : Names) (t : Told) (e : Search) (place : Place) (c : Chars) : Type 0 where
  pub request : Request
  pub asking : (s : Setting) (rest h : ℕ) → IsView s.view → worlds.Holds m s.view.names → (next : Reply → State) × (taken s e place rest h ≡ resolution.asks request next)
  pub before : History
  pub follows : Follows t.engine t.history before
  pub handed : IsInReply t before request c
