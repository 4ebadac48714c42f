-- What a section has to say of an engine for its text to be the one in the report of a run.
use Rattle.std.specs.Prelude.{◌≡◌, Bool, true, false, Option, Some, None}
use Rattle.pl_term.specs.Tree.{Tree}
use Rattle.pl_model.specs.declared.ends.How.{How}
use Rattle.pl_model.specs.declared.ends.How.TheVariants.{Solved}
use Rattle.run_model.specs.declared.ends.GoalHow.{GoalHow}
use Rattle.run_model.specs.declared.ends.GoalHow.TheVariants.{Ended, Waits}

-- It ended so, or it waits.
abbrev pub Tells : Option GoalHow → Option (How Tree) → Type 0
Tells (Some (Ended how)) (Some end) = how ≡ end
Tells (Some (Waits on)) None = Unit {0}
Tells _ _ = ⊥

-- The solutions that were wanted were given only where the search ended so.
abbrev pub IsEnough : Bool → Option (How Tree) → Type 0
IsEnough false end = Unit {0}
IsEnough true (Some Solved) = Unit {0}
IsEnough true _ = ⊥
