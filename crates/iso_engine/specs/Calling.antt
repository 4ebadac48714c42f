-- Calls of the program's clauses.
use Rattle.std.specs.Prelude.{◌≡◌, Bool, true, false}
use Rattle.pl_term.specs.Tree.{Tree}
use Rattle.pl_model.specs.Balls.{error_ball}
use Rattle.pl_model.specs.Control.{construct, other}
use Rattle.term_store.specs.declared.words.Place.{Place}
use Rattle.term_store.specs.Contents.{Contents, Holds}
use Rattle.term_store.specs.Heap.{atom_name}
use Rattle.world_api.specs.declared.visit.Procedure.{Procedure}
use Rattle.iso_search.specs.declared.construct.Construct.{Construct}
use Rattle.iso_search.specs.declared.construct.Construct.TheVariants.{Conjunction, Cuts, Other, Succeeds}
use Rattle.iso_search.specs.Reading.{IsView, View, reads}
use Rattle.iso_search.specs.Spelling.{spelled, text_of}
use Rattle.iso_engine.specs.Following.{HasProcedure, IsInteger}
use Rattle.iso_engine.specs.Builtins.{IsNoBuiltin}

-- A goal that is no control construct, and no step of the search of its own.
abbrev pub is_other_kind : Construct → Bool
is_other_kind Other = true
is_other_kind _ = false

-- A goal that only has further tasks done, or drops choice points.
abbrev pub is_passing_kind : Construct → Bool
is_passing_kind Succeeds = true
is_passing_kind Cuts = true
is_passing_kind (Conjunction g h) = true
is_passing_kind _ = false

-- The goal calls the program's clauses: it is no control construct, and no built-in predicate.
pub record IsCall (g : Tree) : Type 0 where
  pub construct_is : construct g ≡ other
  pub no_builtin : IsNoBuiltin g

-- The goal at the place has this predicate, and calls the program's clauses.
pub record IsCallAt (s : Contents) (goal : Place) (p : Procedure) : Type 0 where
  pub holds : Holds s goal
  pub callable : IsInteger s goal → ⊥
  pub procedure : HasProcedure s goal p
  pub calls : (v : View) → IsView v → IsCall (reads v s goal)

-- The ball of an error term in a predicate, however they are read.
abbrev pub IsErrorBall : Tree → Procedure → Tree → Type 0
IsErrorBall error p ball =
    (v : View) → IsView v
    → spelled (text_of v.names) ball
    ≡ error_ball (spelled (text_of v.names) error) (record { name = text_of v.names (atom_name p.name); arity = p.arity })
