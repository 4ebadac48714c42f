use Rattle.hub_threads.specs.Held.{is_goal_of}
use Rattle.hub_threads.proofs.Searched.{Passed}
use Rattle.hub_threads.proofs.held.searches.goal_at.Given as goal

abbrev pub invariant-loop-i : goal.invariant-loop-i
invariant-loop-i g l = Passed (is_goal_of l.n) l.goals l.i
