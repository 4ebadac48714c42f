use Rattle.std.proofs.Common.{ap, refl, sym, subst, ◌∙◌}
use Rattle.pl_model.specs.Threads.{queue_named}
use Rattle.hub_threads.specs.Held.{contents}
use Rattle.hub_threads.specs.Located.{IsAt}
use Rattle.hub_threads.proofs.Located.{located_item}
use Rattle.hub_threads.proofs.Answered.{drop_own, drop_free}
use Rattle.hub_threads.proofs.Changes.{dropped_sound, dropped_state}
use Rattle.hub_threads.proofs.held.queues.Queues.drop_queue.Goals as goal

pub returns-then-is_own-clause-refused : goal.returns-then-is_own-clause-refused
returns-then-is_own-clause-refused g c =
    let at = subst (λ l. IsAt (queue_named c.args.self.now.state c.args.q.now) l c.in-Some.i) (sym (ap (λ h. h.state.queues) c.self.view_is)) c.in-Some.ensures
    in let own = ap (λ q. q.is_own) (sym (c.index.ensures ∙ located_item _ _ c.in-Some.i _ at)) ∙ sym c.is_own.ensures ∙ c.if-is_own.true
    in rw (drop_own c.args.self.now.state c.args.q.now at.item at.found_is own) refl

pub returns-then-is_own-clause-dropped : goal.returns-then-is_own-clause-dropped
returns-then-is_own-clause-dropped g c =
    let at = subst (λ l. IsAt (queue_named c.args.self.now.state c.args.q.now) l c.in-Some.i) (sym (ap (λ h. h.state.queues) c.self.view_is)) c.in-Some.ensures
    in let own = ap (λ q. q.is_own) (sym (c.index.ensures ∙ located_item _ _ c.in-Some.i _ at)) ∙ sym c.is_own.ensures ∙ c.if-is_own.true
    in rw (drop_own c.args.self.now.state c.args.q.now at.item at.found_is own) tt

pub invariant_of-self : goal.invariant_of-self
invariant_of-self g c =
    let at = subst (λ l. IsAt (queue_named c.args.self.now.state c.args.q.now) l c.in-Some.i) (sym (ap (λ h. h.state.queues) c.self.view_is)) c.in-Some.ensures
    in dropped_sound _ _ _ _ _ _ _ _ c.in-Some.i c.number.result at c.remove-queue.ensures.items c.take_alias.ensures c.self.invariant

pub returns-in_ok-room-in-Some-clause-dropped : goal.returns-in_ok-room-in-Some-clause-dropped
returns-in_ok-room-in-Some-clause-dropped g c =
    let at = subst (λ l. IsAt (queue_named c.args.self.now.state c.args.q.now) l c.in-Some.i) (sym (ap (λ h. h.state.queues) c.self.view_is)) c.in-Some.ensures
    in let queue = c.remove-queue.ensures.value ∙ located_item _ _ c.in-Some.i _ at
    in let own = ap (λ q. q.is_own) (sym (c.index.ensures ∙ located_item _ _ c.in-Some.i _ at)) ∙ sym c.is_own.ensures ∙ c.if-is_own.false
    in rw (drop_free c.args.self.now.state c.args.q.now at.item at.found_is own)
    (rw at.found_is (
      c.into_contents.ensures ∙ ap (λ q. contents q.messages) queue,
      dropped_state c.args.self.now _ _ _ _ _ _ _ _ c.in-Some.i c.number.result c.self.view_is at c.remove-queue.ensures.items (c.number.ensures ∙ ap (λ q. q.number) queue) c.take_alias.ensures c.self.invariant,
    ))
