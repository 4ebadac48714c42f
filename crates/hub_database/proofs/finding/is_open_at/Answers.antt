use Rattle.std.proofs.Common.{sym, ◌∙◌}
use Rattle.std.specs.List.{slice_get}
use Rattle.hub_database.proofs.Fronts.{some_weaker}
use Rattle.hub_database.proofs.finding.is_open_at.Goals as goal

pub returns-clause-there : goal.returns-clause-there
returns-clause-there c = λ yes f d s.
    some_weaker (slice_get c.args.db.now.parts c.args.i) (λ x e. sym e ∙ c.is_dynamic.ensures yes) (c.access_at.ensures f d s)
