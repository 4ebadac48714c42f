use Rattle.hub_threads.proofs.Searched.{Passed}
use Rattle.hub_threads.proofs.held.queue.first_unifying.Given as goal

abbrev pub invariant-loop-i : goal.invariant-loop-i
invariant-loop-i g l = Passed (λ m. g.M.Kept.unified l.pattern m.content) l.messages l.i
