-- What an engine searches for, and its search as a part of an execution.
use Rattle.std.specs.Prelude.{ℕ}
use Rattle.pl_model.specs.Resolution.{Limits, State}
use Rattle.run_model.specs.Execution.{Job, Execution, Rest, directing, searching, directive_limits}
use Rattle.run_model.specs.Progress.{Seen}
use Rattle.world_api.specs.Told.{Told}

-- What an engine searches for: the solutions of its goal, or one of the directive of the item at a place, after which
-- consulting goes on so.
pub data Part : Type 0 where
  of_goal : Part
  of_directive : ℕ → Rest → Part

abbrev pub limits_of : Job → Part → Limits
limits_of job of_goal = job.limits
limits_of job (of_directive place rest) = directive_limits job

abbrev pub with_search : Execution → Part → State → Execution
with_search x of_goal s = record x { activity = searching s }
with_search x (of_directive place rest) s = record x { activity = directing place rest s }

abbrev pub seen_in : Told → Execution → Seen
seen_in t x = record { execution = x; history = t.history; gens = t.gens }
