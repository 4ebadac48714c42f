use Rattle.hub_threads.proofs.OtherUpdates.{readings_leave}
use Rattle.hub_threads.proofs.laws.readings_leave_them.Goals as goal

pub returns : goal.returns
returns c = λ k l count goals h same stands. readings_leave k l c.args.queues.now count goals h c.is_sound.ensures same stands
