-- A step that is made at once.
use Rattle.std.specs.Prelude.{◌≡◌, []}
use Rattle.atom_api.specs.Names.{Names}
use Rattle.world_api.specs.Told.{Told}
use Rattle.iso_search.specs.declared.failure.Back.{Back}
use Rattle.iso_engine.specs.declared.engine.Engine.{Engine}
use Rattle.iso_engine.specs.declared.quick.Quick.{Quick}
use Rattle.iso_engine.specs.declared.quick.Quick.TheVariants.{Went}
use Rattle.iso_engine.specs.Advancing.{Advances}
use Rattle.iso_engine.specs.Ready.{Steps}
use Rattle.iso_engine.specs.Retrying.{IsPutBack, IsTried}

-- It was made, and nothing was written in it, or the engine stands where it stood.
abbrev pub IsQuick : Names → Told → Engine → Names → Told → Engine → Quick → Type 0
IsQuick m t e n u f Went = Advances 1 m t e n u f []
IsQuick m t e n u f _ = Advances 0 m t e n u f [] × (f.search.inferences ≡ e.search.inferences)

-- The first task of a list was passed, and nothing was written in the step, or nothing has changed.
abbrev pub IsPassed : Engine → Engine → Quick → Type 0
IsPassed e f Went = Steps e.solution_limit e.solutions_found e.search e.doing f.search f.doing
IsPassed e f _ = f ≡ e

-- The next clause was tried, or the choice point is there again.
abbrev pub IsGoneAtOnce : Told → Engine → Back → Names → Told → Engine → Quick → Type 0
IsGoneAtOnce t e b n u f Went = IsTried t e b n u f
IsGoneAtOnce t e b n u f _ = IsPutBack t e b u f
