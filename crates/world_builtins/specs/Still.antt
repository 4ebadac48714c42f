-- A world in which nothing happens but the visits of one engine, for tests.
use Rattle.std.specs.Prelude.{ℕ, [], replicate}
use Rattle.world_api.specs.Told.{Told}

-- What is told of it after so many visits.
abbrev pub still : ℕ → Told
still visits = record { engine = 1; goals = 0; history = []; gens = replicate visits 0 }
