use Rattle.std.proofs.Common.{◌≡◌, ap, length, subst, ◌∙◌}
use Rattle.pl_history.specs.Fronts.{FrontState}
use Rattle.pl_model.specs.Flags.{Flags}
use Rattle.pl_model.specs.SharedState.{state_at}
use Rattle.std.specs.Arc.{arc_value}
use Rattle.pl_hub.proofs.shared.Shared.standing.Goals as goal

pub returns-clause-operators : goal.returns-clause-operators
returns-clause-operators g c =
    subst (λ (f : FrontState). arc_value c.in_ok-operators.operators ≡ (state_at g.K.Naming.goals f.seen (length f.seen)).operators) c.self.view_is (c.in_ok-operators.ensures ∙ c.self.invariant.database.operators)

pub returns-clause-quotes : goal.returns-clause-quotes
returns-clause-quotes g c =
    subst (λ (f : FrontState). c.flags.result.double_quotes ≡ (state_at g.K.Naming.goals f.seen (length f.seen)).flags.double_quotes) c.self.view_is (ap (λ (x : Flags). x.double_quotes) (c.flags.ensures ∙ c.self.invariant.database.flags))
