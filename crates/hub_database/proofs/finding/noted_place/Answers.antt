use Rattle.std.proofs.Common.{Some, ap, sym, ◌∙◌}
use Rattle.pl_model.specs.Database.{is_system}
use Rattle.hub_database.proofs.Fronts.{some_weaker}
use Rattle.hub_database.proofs.finding.noted_place.Goals as goal

pub returns-clause-there : goal.returns-clause-there
returns-clause-there g c = some_weaker c.index_of.result (λ i e. e ∙ ap (λ p. Some p) (c.is_spelled.ensures.spelled c.if-not-is_spelled.false)) c.index_of.ensures.there

pub returns-clause-program : goal.returns-clause-program
returns-clause-program g c =
    some_weaker c.index_of.result
    (λ i e. ap is_system (sym (c.is_spelled.ensures.spelled c.if-not-is_spelled.false)) ∙ ap is_system c.predicate-spelled.ensures ∙ c.is_open.ensures) c.index_of.ensures.there
