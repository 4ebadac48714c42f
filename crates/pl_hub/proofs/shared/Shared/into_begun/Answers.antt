use Rattle.std.proofs.Common.{◌≡◌, subst}
use Rattle.pl_history.specs.Fronts.{FrontState}
use Rattle.pl_hub.specs.Called.{called_in}
use Rattle.pl_hub.proofs.shared.Shared.into_begun.Goals as goal

pub returns : goal.returns
returns g c = subst (λ (f : FrontState). c.self.inside.begun.items ≡ called_in f.seen) c.self.view_is c.self.invariant.called
