use Rattle.pl_model.specs.Threads.{is_queue}
use Rattle.hub_threads.proofs.Searched.{Passed}
use Rattle.hub_threads.proofs.held.searches.queue_at.Given as goal

abbrev pub invariant-loop-i : goal.invariant-loop-i
invariant-loop-i g l = Passed (is_queue l.n) l.queues l.i
