use Rattle.hub_threads.specs.Goals.{is_within}
use Rattle.hub_threads.proofs.Searched.{Passed}
use Rattle.hub_threads.proofs.held.searches.number_within.Given as goal

abbrev pub invariant-loop-i : goal.invariant-loop-i
invariant-loop-i l = Passed (is_within l.first l.last) l.numbers l.i
