use Rattle.hub_threads.specs.Goals.{is_within}
use Rattle.hub_threads.proofs.Searched.{Passed}
use Rattle.hub_threads.proofs.held.searches.thread_within.Given as goal

abbrev pub invariant-loop-i : goal.invariant-loop-i
invariant-loop-i g l = Passed (λ t. is_within l.first l.last t.number) l.threads l.i
