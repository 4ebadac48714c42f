-- What is told of a run by the fronts of its engines.
use Rattle.std.specs.Prelude.{ℕ, List, [], ◌∷◌}
use Rattle.pl_model.specs.History.{History}
use Rattle.run_model.specs.Lawful.{Told}
use Rattle.pl_history.specs.Fronts.{own_generations}
use Rattle.toplevel.specs.declared.front.EngineFront.{EngineFront}
use Rattle.toplevel.specs.declared.front.Front.{Front}

-- The history that the engines have seen: the front of the first one has it.
abbrev pub seen_by : List EngineFront → History
seen_by [] = []
seen_by (e ∷ es) = e.front.seen

-- Each engine with the generations of its requests.
abbrev pub generations_by : List EngineFront → List (ℕ × List ℕ)
generations_by [] = []
generations_by (e ∷ es) = (e.number, own_generations e.front.lives) ∷ generations_by es

abbrev pub told_by : Front → Told
told_by f = record { history = seen_by f.engines.items; generations = generations_by f.engines.items }
