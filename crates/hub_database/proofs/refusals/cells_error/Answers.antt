use Rattle.std.specs.Prelude.{codes}
use Rattle.hub_database.proofs.Errors.{database_fixed, resource_told}
use Rattle.hub_database.proofs.refusals.cells_error.Goals as goal

pub returns : goal.returns
returns c = resource_told c.resource_error.result 72 (codes "database") database_fixed c.resource_error.ensures.says c.resource_error.ensures.named
