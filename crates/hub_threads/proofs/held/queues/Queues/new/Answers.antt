use Rattle.std.proofs.Common.{refl}
use Rattle.hub_threads.proofs.MainAlias.{main_text}
use Rattle.hub_threads.proofs.held.queues.Queues.new.Goals as goal

pub returns : goal.returns
returns g c = rw (c.in_ok-push.ensures.items, c.in_ok-push-2.ensures.items, c.in_ok-push-3.ensures.items, c.new-aliases.ensures.items, c.new-queues.ensures.items, c.new-threads.ensures.items, c.new-2.ensures.items, c.new-3.ensures.items, c.new.ensures, c.in_ok-main.ensures, main_text) refl
