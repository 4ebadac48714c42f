use Rattle.pl_model.specs.Threads.{thread_named}
use Rattle.hub_threads.proofs.FoundQueues.{no_thread_is}
use Rattle.hub_threads.proofs.finding.found_thread.Goals as goal

pub returns-in-None : goal.returns-in-None
returns-in-None c = no_thread_is _ (thread_named c.args.queues.now.state c.args.name) c.in-None.ensures
