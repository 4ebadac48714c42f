use Rattle.std.proofs.Common.{sym, ap, ◌∙◌}
use Rattle.std.specs.Prelude.{is_some}
use Rattle.std.specs.List.{slice_get}
use Rattle.hub_database.proofs.ErasedClauses.{known_mapped}
use Rattle.hub_database.proofs.Fronts.{some_weaker}
use Rattle.hub_database.proofs.finding.stands_at.Goals as goal

pub returns-clause-there : goal.returns-clause-there
returns-clause-there c = λ yes f d s.
    some_weaker (slice_get c.args.db.now.parts c.args.i) (λ x e. ap (λ o. is_some o) (sym e) ∙ (sym (known_mapped c.access_at.result) ∙ (sym c.is_some.ensures ∙ yes))) (c.access_at.ensures f d s)
