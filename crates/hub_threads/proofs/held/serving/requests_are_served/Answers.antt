use Rattle.hub_threads.proofs.Served.{served}
use Rattle.hub_threads.proofs.held.serving.requests_are_served.Goals as goal

pub returns : goal.returns
returns g c = λ term t s is. served term t s is
