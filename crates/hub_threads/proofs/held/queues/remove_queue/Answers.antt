use Rattle.std.proofs.Common.{ap, refl, subst, ◌∙◌, find}
use Rattle.pl_model.specs.Threads.{is_queue}
use Rattle.hub_threads.specs.Held.{contents}
use Rattle.hub_threads.specs.Located.{IsAt}
use Rattle.hub_threads.proofs.Located.{located_item}
use Rattle.hub_threads.proofs.held.queues.remove_queue.Goals as goal

pub returns-in_ok-room-in-Some-clause-removed : goal.returns-in_ok-room-in-Some-clause-removed
returns-in_ok-room-in-Some-clause-removed g c =
    let at = subst (λ l. IsAt (find (is_queue c.args.n) l) l c.in-Some.i) c.as_slice.ensures.value c.in-Some.ensures
    in let queue = c.remove-queue.ensures.value ∙ located_item _ _ c.in-Some.i _ at
    in rw at.found_is (
      c.into_contents.ensures ∙ ap (λ q. contents q.messages) queue,
      (c.in-Some.i, record { before = at.before; item = at.item; after = at.after; whole = at.whole; index = at.index; found_is = refl }, c.remove-queue.ensures.items),
    )
