-- What a runner keeps in use of the atoms and of the clauses.
use Rattle.std.specs.Prelude.{ℕ, List, [], ◌++◌}
use Rattle.iso_engine.specs.Live.{engine_atoms, engine_generations}
use Rattle.engine_run.specs.declared.runner.Runner.{Runner}
use Rattle.engine_run.specs.declared.runner.Stage.{Stage}
use Rattle.engine_run.specs.declared.runner.Stage.TheVariants.{Asks, Directs, Searches, Over}

-- The atoms that the search at hand names.
abbrev pub stage_atoms : Stage → List ℕ
stage_atoms Asks = []
stage_atoms (Directs e) = engine_atoms e
stage_atoms (Searches e) = engine_atoms e
stage_atoms Over = []

-- With those that the script names.
abbrev pub runner_atoms : {S : Type 0} → (S → List ℕ) → Runner S → List ℕ
runner_atoms names r = names r.script ++ stage_atoms r.stage

-- The generations of which the search at hand may ask for clauses.
abbrev pub stage_generations : Stage → List ℕ
stage_generations Asks = []
stage_generations (Directs e) = engine_generations e
stage_generations (Searches e) = engine_generations e
stage_generations Over = []
