use Rattle.hub_threads.specs.Held.{is_sent_at}
use Rattle.hub_threads.proofs.Searched.{Passed}
use Rattle.hub_threads.proofs.held.searches.message_at.Given as goal

abbrev pub invariant-loop-i : goal.invariant-loop-i
invariant-loop-i g l = Passed (is_sent_at l.place) l.messages l.i
