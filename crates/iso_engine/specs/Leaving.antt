-- Goals of thread_exit/1, and what they lead to.
use Rattle.std.specs.Prelude.{◌≡◌, ℕ, suc, List, ◌∷◌, Option, Some, None}
use Rattle.pl_term.specs.Tree.{Chars, Tree, comp}
use Rattle.pl_term.specs.Tree as trees
use Rattle.pl_model.specs.Control.{construct, exits}
use Rattle.pl_model.specs.Resolution as resolution
use Rattle.pl_model.specs.Resolution.{Node, Pending, State, ended, exited, goes, running}
use Rattle.atom_api.specs.FixedNames.{thread_exit_name}
use Rattle.atom_api.specs.Names.{Names}
use Rattle.term_store.specs.declared.words.Place.{Place}
use Rattle.term_store.specs.Contents.{Contents, Holds, term_at}
use Rattle.term_store.specs.Heap.{atom_name}
use Rattle.world_api.specs.Told.{Told}
use Rattle.world_api.specs.declared.visit.Procedure.{Procedure}
use Rattle.iso_search.specs.declared.search.Search.{Search}
use Rattle.iso_search.specs.Outcomes.{Setting}
use Rattle.iso_search.specs.Reading.{IsView}
use Rattle.iso_search.specs.Searching.{state_of}
use Rattle.iso_search.specs.Spelling.{spelled, text_of}
use Rattle.iso_engine.specs.declared.engine.Engine.{Engine}
use Rattle.iso_engine.specs.declared.state.leaving.Leaving.{Leaving}
use Rattle.iso_engine.specs.declared.state.leaving.Leaving.TheVariants.{Leaves, Ran}
use Rattle.iso_engine.specs.GoalSteps.{IsStepAloneAs}
use Rattle.iso_engine.specs.Standing.{doing_of, staying}
use Rattle.iso_engine.specs.Views.{view_of}
use Rattle.iso_engine.specs.Wrote.{taken}

abbrev pub exit_procedure : Procedure
exit_procedure = record { name = thread_exit_name; arity = 1 }

-- The goal at the place is one of thread_exit/1 with this term.
pub record IsExitAt (s : Contents) (goal term : Place) : Type 0 where
  pub holds : Holds s goal
  pub inside : Holds s term
  pub means : term_at s goal ≡ comp (atom_name thread_exit_name) (term_at s term) trees.none

-- The atom has the name of what is run, where it has one.
abbrev pub IsStayingAs : Names → Option Chars → Option ℕ → Type 0
IsStayingAs n None None = Unit {0}
IsStayingAs n (Some c) (Some a) = n a ≡ Some c
IsStayingAs n keep o = ⊥

-- The search ends with this term.
abbrev pub left_state : Setting → Search → Tree → State
left_state s d ball = state_of s.view d (ended (exited (spelled (text_of s.view.names) ball))) s.output

-- What is run is left with a copy of the term; or what has this name is not left.
abbrev pub IsExitDone : Option Chars → Names → Search → Place → ℕ → Search → Leaving → Type 0
IsExitDone keep n e goal rest d (Leaves ball) =
    (d ≡ record e { inferences = suc e.inferences })
    × ((s : Setting) (h : ℕ) → IsView s.view → s.stays ≡ keep → taken s e goal rest h ≡ goes (left_state s d ball))
IsExitDone keep n e goal rest d (Ran o) = IsStepAloneAs keep n e goal rest d o

-- The engine's next step is of thread_exit/1, and the text is the name of what is not left.
pub record IsExitText (m : Names) (t : Told) (e : Engine) (c : Chars) : Type 0 where
  pub goal : Tree
  pub term : Tree
  pub cut : ℕ
  pub later : List Pending
  pub node : Node
  pub runs : doing_of (view_of m t) e.search e.doing ≡ running node
  pub first : node.goals ≡ resolution.goal goal cut ∷ later
  pub exit_is : construct goal ≡ exits term
  pub named : staying e.stays ≡ Some c
