use Rattle.std.proofs.Common.{subst}
use Rattle.hub_threads.specs.Held.{IsSound}
use Rattle.hub_threads.proofs.held.queues.Queues.is_sound.Goals as goal

pub returns : goal.returns
returns g c = subst IsSound c.self.view_is c.self.invariant
