use Rattle.std.proofs.Common.{◌≡◌, subst, ◌∙◌}
use Rattle.pl_history.specs.Fronts.{FrontState}
use Rattle.pl_hub.specs.Called.{called_in}
use Rattle.pl_hub.proofs.shared.Shared.begun.Goals as goal

pub returns : goal.returns
returns g c = subst (λ (f : FrontState). c.as_slice.result.now ≡ called_in f.seen) c.self.view_is (c.as_slice.ensures.value ∙ c.self.invariant.called)
