use Rattle.std.proofs.Common.{refl}
use Rattle.hub_threads.proofs.Weighing.{keeps_all}
use Rattle.hub_threads.proofs.held.weights.terms_are_kept.Goals as goal

pub returns-clause-opening : goal.returns-clause-opening
returns-clause-opening g c = λ w. refl

pub returns-clause-changes : goal.returns-clause-changes
returns-clause-changes g c = λ w h s. keeps_all w h s
