-- Goals of built-in predicates that are functions of their arguments, and what they lead to.
use Rattle.std.specs.Prelude.{◌≡◌, ℕ, List, ◌∷◌, Option, Some, None}
use Rattle.std.specs.List.{Contains}
use Rattle.pl_term.specs.Tree.{Chars, Tree}
use Rattle.pl_model.specs.Builtins.{row}
use Rattle.pl_model.specs.BuiltinRows as rows
use Rattle.pl_model.specs.Predicates.{proc_of}
use Rattle.pl_model.specs.Resolution.{Node, Pending, goes, running}
use Rattle.pl_model.specs.Resolution as resolution
use Rattle.pl_model.specs.Terms.{arguments}
use Rattle.pl_model.specs.Control.{construct, name_of, other, take_up}
use Rattle.atom_api.specs.Names.{Names}
use Rattle.builtin_rows.specs.Given.{given, given_texts}
use Rattle.builtin_rows.specs.declared.row.Row.{Row}
use Rattle.builtin_rows.specs.declared.row.Row.TheVariants.{NeedsAtoms as RefusedFull, Retry as RefusedAgain, Worn as RefusedWorn}
use Rattle.term_store.specs.Contents.{Contents}
use Rattle.world_api.specs.Texts.{Holds}
use Rattle.world_api.specs.Told.{Told}
use Rattle.iso_search.specs.declared.search.Search.{Search}
use Rattle.iso_search.specs.declared.outcome.Outcome.{Outcome}
use Rattle.iso_search.specs.Outcomes.{IsAfter, Setting, limits_in, result_in, state_in}
use Rattle.iso_search.specs.Reading.{IsView, View, reads}
use Rattle.iso_search.specs.Searching.{IsWhole, node_of}
use Rattle.iso_engine.specs.declared.builtin.RowGoal.{RowGoal}
use Rattle.iso_engine.specs.declared.engine.Engine.{Engine}
use Rattle.world_api.specs.declared.unserved.Unserved.{Unserved}
use Rattle.world_api.specs.declared.unserved.Unserved.TheVariants.{NeedsAtoms, Retry, Worn}
use Rattle.iso_engine.specs.Builtins.{IsRowGoal}
use Rattle.iso_engine.specs.Views.{view_of}
use Rattle.iso_engine.specs.Standing.{doing_of}

-- The goal is no control construct, however it is read.
pub record IsRowAt (s : Contents) (r : RowGoal) : Type 0 where
  pub goal_is : IsRowGoal s r
  pub other_is : (v : View) → IsView v → construct (reads v s r.place) ≡ other

-- By every view in which the atoms have their texts, the step of the definition leads to where the outcome leads.
pub record LeadsTo (n : Names) (e : Search) (r : RowGoal) (rest : ℕ) (f : Search) (o : Outcome) : Type 0 where
  pub whole : IsWhole f
  pub after : IsAfter e f o
  pub step : (t : Setting) (cut : ℕ) → IsView t.view → Holds n t.view.names
      → let k = node_of t.view e rest in let g = reads t.view e.store r.place in
      goes (result_in t f k (proc_of g) o) ≡ take_up (limits_in t e) (state_in t e) k g cut (construct g)

-- Why the goal is to be tried again where an atom of the row was refused.
abbrev pub refusal_of : Row → Option Unserved
refusal_of (RefusedFull p) = Some (NeedsAtoms p)
refusal_of (RefusedAgain c) = Some (Retry c)
refusal_of (RefusedWorn w) = Some (Worn w)
refusal_of r = None

-- The text is one of what the row of the goal gives.
pub record IsGivenText (g : Tree) (next used budget : ℕ) (c : Chars) : Type 0 where
  pub means : rows.Row
  pub row_is : row (name_of g) (arguments g) next ≡ Some means
  pub given_is : Contains (given_texts (given (proc_of g) (arguments g) next used budget means)) c

-- The engine's next step is of a built-in predicate that is a function of its arguments, and the text is one of what it gives.
pub record IsRowText (m : Names) (t : Told) (e : Engine) (c : Chars) : Type 0 where
  pub goal : Tree
  pub cut : ℕ
  pub later : List Pending
  pub node : Node
  pub runs : doing_of (view_of m t) e.search e.doing ≡ running node
  pub first : node.goals ≡ resolution.goal goal cut ∷ later
  pub other_is : construct goal ≡ other
  pub given : IsGivenText goal e.search.next_variable e.search.store.used e.search.store.budget c
