use Rattle.hub_database.proofs.Elsewhere.{database_elsewhere}
use Rattle.hub_database.proofs.laws.other_updates_leave_it.Goals as goal

pub returns : goal.returns
returns c = database_elsewhere
