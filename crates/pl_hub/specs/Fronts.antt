-- The front of an engine that runs: what it is told of the shared state.
use Rattle.std.specs.Prelude.{◌≡◌, ◌≤◌, ℕ, List, [], ◌∷◌, ◌++◌, true, length}
use Rattle.std.specs.List.{All, Contains}
use Rattle.atomic_table.specs.Seated.{TableId}
use Rattle.pl_model.specs.History.{Entry, History, mine}
use Rattle.pl_history.specs.Fronts.{FrontState, Life, begun_by, own_engine, own_generations, own_runs, own_updates}
use Rattle.world_api.specs.Told.{Told}

-- WHAT AN ENGINE IS TOLD by its front, in a run of a command with this number of goals
abbrev pub told_of : ℕ → FrontState → Told
told_of goals f = record { engine = own_engine f.lives; goals = goals; history = f.seen; gens = own_generations f.lives }

-- THE FRONT IS OF THE HISTORY'S TABLE, and its own engine is the one with the number, which runs: its updates are those that it has in what the front has seen, and its visits stood within it
pub record IsOwn (t : TableId) (e : ℕ) (f : FrontState) : Type 0 where
  pub table : f.table ≡ t
  pub engine : own_engine f.lives ≡ e
  pub runs : own_runs f.lives ≡ true
  pub updates : own_updates f.lives ≡ mine f.seen e
  pub within : (g : ℕ) → Contains (own_generations f.lives) g → g ≤ length f.seen

-- THE HUB'S FRONT at the start, when engine 1 has been handed over
abbrev pub is_begun : TableId → FrontState
is_begun t = record { table = t; seen = []; lives = [] }

-- AN ENGINE THAT HAS DONE NOTHING YET
abbrev pub idle : ℕ → Life
idle n = record { engine = n; updates = []; generations = [] }

-- the engines that the entries begin, in their order
abbrev pub begun_in : History → List Life
begun_in [] = []
begun_in (x ∷ xs) = begun_by x.kind ++ begun_in xs

-- THE HISTORY HAS GAINED ENTRIES of this engine alone, or none: the hub's front carries the engines that they begin besides those that it carried
pub record Grows (e : ℕ) (old new : FrontState) : Type 0 where
  pub later : History
  pub own : All (λ (x : Entry). x.engine ≡ e) later
  pub grown : new.seen ≡ old.seen ++ later
  pub carried : new.lives ≡ old.lives ++ begun_in later
