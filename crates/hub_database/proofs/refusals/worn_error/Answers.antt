use Rattle.std.specs.Prelude.{codes}
use Rattle.hub_database.proofs.Errors.{generations_fixed, resource_told}
use Rattle.hub_database.proofs.refusals.worn_error.Goals as goal

pub returns : goal.returns
returns c = resource_told c.resource_error.result 99 (codes "generations") generations_fixed c.resource_error.ensures.says c.resource_error.ensures.named
