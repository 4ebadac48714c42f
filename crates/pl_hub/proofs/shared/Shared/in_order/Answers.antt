use Rattle.std.proofs.Common.{subst}
use Rattle.pl_history.specs.Fronts.{FrontState}
use Rattle.pl_hub.specs.Order.{IsInOrder}
use Rattle.pl_hub.proofs.shared.Shared.in_order.Goals as goal

pub returns : goal.returns
returns g c = subst (λ (f : FrontState). IsInOrder g.K.Naming.goals f.seen) c.self.view_is c.self.invariant.order
