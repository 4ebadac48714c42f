-- Goals that write.
use Rattle.std.specs.Prelude.{◌≡◌, Bool, true, false}
use Rattle.pl_model.specs.Control.{construct}
use Rattle.term_store.specs.declared.words.Place.{Place}
use Rattle.term_store.specs.Contents.{Contents, Holds}
use Rattle.world_api.specs.declared.visit.Procedure.{Procedure}
use Rattle.iso_search.specs.declared.construct.Construct.{Construct}
use Rattle.iso_search.specs.declared.construct.Construct.TheVariants.{Writes, WritesQuoted, WritesCanonical, WritesNewline, Puts}
use Rattle.iso_search.specs.Reading.{IsView, View, reads}
use Rattle.iso_engine.specs.OutputGoals.{is_output}
use Rattle.iso_engine.specs.Following.{HasProcedure}

abbrev pub is_write_kind : Construct → Bool
is_write_kind (Writes t) = true
is_write_kind (WritesQuoted t) = true
is_write_kind (WritesCanonical t) = true
is_write_kind WritesNewline = true
is_write_kind (Puts t) = true
is_write_kind _ = false

-- The goal at the place has this predicate, and writes.
pub record IsWriteAt (s : Contents) (goal : Place) (p : Procedure) : Type 0 where
  pub holds : Holds s goal
  pub procedure : HasProcedure s goal p
  pub writes : (v : View) → IsView v → is_output (construct (reads v s goal)) ≡ true
