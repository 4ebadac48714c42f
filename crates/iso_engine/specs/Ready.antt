-- What holds of an engine between two steps.
use Rattle.std.specs.Prelude.{◌≡◌, ◌≤◌, ℕ, false, length, Option}
use Rattle.std.specs.List.{Contains}
use Rattle.pl_term.specs.Tree.{Chars, Tree}
use Rattle.pl_model.specs.Resolution.{solution_count, goes}
use Rattle.pl_model.specs.Control.{step}
use Rattle.atom_api.specs.Names.{Names}
use Rattle.world_api.specs.Texts.{Holds}
use Rattle.world_api.specs.Told.{Told}
use Rattle.iso_search.specs.declared.search.Search.{Search}
use Rattle.iso_search.specs.Outcomes.{Setting, limits_in}
use Rattle.iso_search.specs.Reading.{IsView, View}
use Rattle.iso_search.specs.Searching.{IsWhole, choices_of}
use Rattle.iso_engine.specs.Lists.{IsOpen}
use Rattle.iso_engine.specs.declared.doing.Doing.{Doing}
use Rattle.iso_engine.specs.declared.doing.Doing.TheVariants.{Running, Failing}
use Rattle.iso_engine.specs.declared.engine.Engine.{Engine}
use Rattle.iso_engine.specs.Views.{view_of}
use Rattle.iso_engine.specs.Following.{is_integer}
use Rattle.iso_engine.specs.Standing.{doing_of, state_at}

-- The list of the goal's clauses at the generation may be gone on with after the place: the generation is one of the engine's
-- visits, and the clause with the place is in the list. No integer has clauses.
pub record MayGoOn (t : Told) (goal : Tree) (g place : ℕ) : Type 0 where
  pub callable : is_integer goal ≡ false
  pub listed : IsOpen t goal g place

-- The list of the goal's clauses at the generation may be begun with: the generation is one of the engine's visits.
pub record MayBegin (t : Told) (goal : Tree) (g : ℕ) : Type 0 where
  pub own : Contains t.gens g
  pub within : g ≤ length t.history

-- A view by which the engine may be read from then on: what is held has only grown, the lists that may be begun with are the same,
-- and of those that may be gone on with the same clauses are left. Of all others any clauses are left.
pub record IsAlike (m : Names) (t : Told) (v : View) : Type 0 where
  pub holds : Holds m v.names
  pub all : (goal : Tree) (g : ℕ) → MayBegin t goal g → v.all goal g ≡ (view_of m t).all goal g
  pub left : (goal : Tree) (g place : ℕ) → MayGoOn t goal g place → v.left goal g place ≡ (view_of m t).left goal g place

-- By each such view it stands for the same state. So each atom that it names is held, and each of its choice points of clauses
-- may be gone on with.
abbrev pub IsStable : Names → Told → Search → Doing → Type 0
IsStable m t e d =
    (v : View) → IsView v → IsAlike m t v
    → (choices_of v e ≡ choices_of (view_of m t) e) × (doing_of v e d ≡ doing_of (view_of m t) e d)

pub record IsReady (m : Names) (t : Told) (e : Engine) : Type 0 where
  pub whole : IsWhole e.search
  pub stable : IsStable m t e.search e.doing

-- A step leads from the one to the other, however they are read, where so many solutions are wanted and were given.
abbrev pub Steps : ℕ → ℕ → Search → Doing → Search → Doing → Type 0
Steps wanted given e d f x =
    (t : Setting) → IsView t.view → t.solutions ≡ wanted → solution_count t.output ≡ given
    → step (limits_in t e) (state_at t.view e d t.output) ≡ goes (state_at t.view f x t.output)

-- The same by the views by which an engine that holds and was told this may be read from then on.
abbrev pub StepsFrom : Names → Told → ℕ → ℕ → Search → Doing → Search → Doing → Type 0
StepsFrom m t wanted given e d f x =
    (r : Setting) → IsView r.view → IsAlike m t r.view → r.solutions ≡ wanted → solution_count r.output ≡ given
    → step (limits_in r e) (state_at r.view e d r.output) ≡ goes (state_at r.view f x r.output)

-- The same where what is run has this name, or thread_exit/1 leaves it.
abbrev pub StepsAs : Option Chars → Names → Told → ℕ → ℕ → Search → Doing → Search → Doing → Type 0
StepsAs keep m t wanted given e d f x =
    (r : Setting) → IsView r.view → IsAlike m t r.view → r.stays ≡ keep → r.solutions ≡ wanted → solution_count r.output ≡ given
    → step (limits_in r e) (state_at r.view e d r.output) ≡ goes (state_at r.view f x r.output)

-- Neither tasks are done nor a failure is followed.
abbrev pub IsApart : Doing → Type 0
IsApart (Running list) = ⊥
IsApart Failing = ⊥
IsApart _ = Unit {0}
