use Rattle.pl_model.specs.Threads.{queue_named}
use Rattle.hub_threads.proofs.FoundQueues.{no_queue_is}
use Rattle.hub_threads.proofs.finding.found_queue.Goals as goal

pub returns-else-has_queue : goal.returns-else-has_queue
returns-else-has_queue c = no_queue_is (queue_named c.args.queues.now.state c.args.name) c.has_queue.result c.has_queue.ensures c.if-has_queue.false
