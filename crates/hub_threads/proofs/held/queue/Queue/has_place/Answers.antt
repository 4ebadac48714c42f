use Rattle.std.proofs.Common.{◌∙◌, ap}
use Rattle.hub_threads.proofs.Free.{held_by}
use Rattle.hub_threads.proofs.held.queue.Queue.has_place.Goals as goal

pub returns : goal.returns
returns g c =
    held_by (λ m. m.place) c.args.place _ c.args.self.now.messages c.message_at.result c.is_some.result c.message_at.ensures c.is_some.ensures
    (c.as_slice.ensures.value ∙ ap (λ q. q.messages) c.self.view_is)
