-- Terms that are checked before they are called.
use Rattle.std.specs.Prelude.{Result, Ok, Err}
use Rattle.pl_term.specs.Tree.{Tree}
use Rattle.term_store.specs.declared.words.Place.{Place}
use Rattle.term_store.specs.Contents.{Contents, Holds}
use Rattle.iso_search.specs.declared.calls.Checked.{Checked}
use Rattle.iso_search.specs.declared.calls.Checked.TheVariants.{Goal, Refused}
use Rattle.iso_search.specs.Errors.{IsFaultIn}
use Rattle.iso_search.specs.Outcomes.{fault_term}

abbrev pub goal_or_error : (Place → Tree) → Checked → Result Tree Tree
goal_or_error r (Goal p) = Ok (r p)
goal_or_error r (Refused f) = Err (fault_term r f)

abbrev pub IsCheckedIn : Contents → Checked → Type 0
IsCheckedIn s (Goal p) = Holds s p
IsCheckedIn s (Refused f) = IsFaultIn s f
