-- How the states of a search follow each other.
use Rattle.std.specs.Prelude.{◌≡◌, ℤ, Bool, true, false}
use Rattle.pl_term.specs.Tree.{Tree, int}
use Rattle.pl_model.specs.History.{Proc}
use Rattle.pl_model.specs.Predicates.{proc_of}
use Rattle.pl_model.specs.Resolution.{goes}
use Rattle.pl_model.specs.Control.{step}
use Rattle.term_store.specs.declared.words.Place.{Place}
use Rattle.term_store.specs.Contents.{Contents, Holds, term_at}
use Rattle.term_store.specs.Heap.{atom_name}
use Rattle.world_api.specs.declared.visit.Procedure.{Procedure}
use Rattle.iso_search.specs.declared.outcome.Outcome.{Outcome}
use Rattle.iso_search.specs.declared.outcome.Outcome.TheVariants.{Run, Fail, Raise, Throw, Erase, Halt}
use Rattle.iso_search.specs.declared.search.Search.{Search}
use Rattle.iso_search.specs.Errors.{IsFaultIn}
use Rattle.iso_search.specs.Outcomes.{Setting, limits_in}
use Rattle.iso_search.specs.Reading.{IsView, View, reads}
use Rattle.iso_search.specs.Spelling.{text_of}
use Rattle.iso_engine.specs.declared.doing.Doing.{Doing}
use Rattle.iso_engine.specs.Standing.{state_at}

-- The one is the state to which a step leads from the other, however they are read.
abbrev pub StepsTo : Search → Doing → Search → Doing → Type 0
StepsTo e d f x =
    (t : Setting) → IsView t.view → step (limits_in t e) (state_at t.view e d t.output) ≡ goes (state_at t.view f x t.output)

-- What is raised or thrown is of the store.
abbrev pub IsPlaced : Contents → Outcome → Type 0
IsPlaced s (Run list) = Unit {0}
IsPlaced s Fail = Unit {0}
IsPlaced s (Raise f) = IsFaultIn s f
IsPlaced s (Throw w) = Holds s w
IsPlaced s (Erase place list) = Unit {0}
IsPlaced s (Halt k) = Unit {0}

-- The predicate, as it is read.
abbrev pub proc_in : View → Procedure → Proc
proc_in v p = record { name = text_of v.names (atom_name p.name); arity = p.arity }

-- The goal has this predicate.
abbrev pub HasProcedure : Contents → Place → Procedure → Type 0
HasProcedure s goal p = (t : Setting) → IsView t.view → proc_of (reads t.view s goal) ≡ proc_in t.view p

abbrev pub is_integer : Tree → Bool
is_integer (int i) = true
is_integer _ = false

abbrev pub IsInteger : Contents → Place → Type 0
IsInteger s goal = (i : ℤ) × (term_at s goal ≡ int i)
