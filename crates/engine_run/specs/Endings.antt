-- How an engine's search has ended.
use Rattle.std.specs.Prelude.{◌≡◌, List, Option, Some, None}
use Rattle.pl_term.specs.Tree.{Tree}
use Rattle.pl_model.specs.Resolution.{Ending, ended, Output}
use Rattle.run_model.specs.Lawful.{EndsSo}
use Rattle.atom_api.specs.Names.{Names}
use Rattle.pl_model.specs.declared.ends.How.{How}
use Rattle.pl_model.specs.declared.ends.How.TheVariants.{AtomSpace}
use Rattle.world_api.specs.Told.{Told}
use Rattle.iso_engine.specs.declared.engine.Engine.{Engine}
use Rattle.iso_engine.specs.Views.{view_of}
use Rattle.iso_engine.specs.Standing.{state_now}
use Rattle.engine_run.specs.declared.runner.Turn.{Turn}
use Rattle.engine_run.specs.declared.runner.Turn.TheVariants.{Goes, Ended}

-- The state for which the engine stands has ended so.
abbrev pub HasEndedAs : Names → Engine → How Tree → Type 0
HasEndedAs m e how = (t : Told) (written : List Output) → (ending : Ending) × ((state_now (view_of m t) e written).doing ≡ ended ending) × EndsSo ending how

-- Want of atoms is no end of a search.
abbrev pub IsEndOfSearch : How Tree → Type 0
IsEndOfSearch (AtomSpace r) = ⊥
IsEndOfSearch how = Unit {0}

-- The search of the engine has ended so, if it has.
abbrev pub EndedSo : Names → Engine → Option (How Tree) → Type 0
EndedSo m e None = Unit {0}
EndedSo m e (Some how) = HasEndedAs m e how × IsEndOfSearch how

-- No engine ends for want of atoms in a turn.
abbrev pub IsEndOfTurn : Turn → Type 0
IsEndOfTurn Goes = Unit {0}
IsEndOfTurn (Ended how) = IsEndOfSearch how
