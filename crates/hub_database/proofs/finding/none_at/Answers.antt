use Rattle.std.proofs.Common.{refl}
use Rattle.hub_database.proofs.finding.none_at.Goals as goal

pub returns-clause-none : goal.returns-clause-none
returns-clause-none c = (refl, c.is_headed_so.ensures c.if-not-is_headed_so.false)
