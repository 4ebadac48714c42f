use Rattle.hub_threads.proofs.Below.{opening_below, stays_below}
use Rattle.hub_threads.proofs.held.weights.numbers_stay_below.Goals as goal

pub returns-clause-opening : goal.returns-clause-opening
returns-clause-opening g c = opening_below

pub returns-clause-changes : goal.returns-clause-changes
returns-clause-changes g c = λ count k h b. stays_below count k h b
