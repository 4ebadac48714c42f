use Rattle.hub_threads.proofs.OtherUpdates.{database_leaves}
use Rattle.hub_threads.proofs.laws.database_updates_leave_them.Goals as goal

pub returns : goal.returns
returns c = λ k q count goals e h u is stands. database_leaves k q count goals e h u is stands
