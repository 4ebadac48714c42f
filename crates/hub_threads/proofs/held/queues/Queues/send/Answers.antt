use Rattle.std.proofs.Common.{◌≡◌, false, ap, sym, subst, ◌∙◌}
use Rattle.pl_model.specs.Threads.{queue_named}
use Rattle.hub_threads.specs.Distinct.{has_number}
use Rattle.hub_threads.specs.Held.{places}
use Rattle.hub_threads.specs.Located.{IsAt}
use Rattle.hub_threads.proofs.Located.{located_item}
use Rattle.hub_threads.proofs.Answered.{pushed_sound, pushed_answer, pushed_unchanged, was_pushed, was_left}
use Rattle.hub_threads.proofs.held.queues.Queues.send.Goals as goal

pub invariant_of-self : goal.invariant_of-self
invariant_of-self g c =
    let at = subst (λ l. IsAt (queue_named c.args.self.now.state c.args.q.now) l c.in-Some.i) (sym (ap (λ h. h.state.queues) c.self.view_is)) c.in-Some.ensures
    in let old = c.index_mut.ensures.value ∙ located_item _ _ c.in-Some.i _ at
    in pushed_sound c.push.result _ _ _ _ _ _ c.in-Some.i c.args.place c.args.m c.push.new.self at
    (was_pushed c.push.result c.push.new.self c.index_mut.result.now at.item _ old c.push.ensures.pushed)
    (was_left c.push.result c.push.new.self c.index_mut.result.now at.item old c.push.ensures.unchanged)
    (subst (λ l. has_number c.args.place (places l) ≡ false) (sym (ap (λ h. h.state.queues) c.self.view_is)) c.requires)
    c.self.invariant

pub returns-in-Some-clause-sent : goal.returns-in-Some-clause-sent
returns-in-Some-clause-sent g c =
    let at = subst (λ l. IsAt (queue_named c.args.self.now.state c.args.q.now) l c.in-Some.i) (sym (ap (λ h. h.state.queues) c.self.view_is)) c.in-Some.ensures
    in let old = c.index_mut.ensures.value ∙ located_item _ _ c.in-Some.i _ at
    in rw at.found_is
    (pushed_answer c.push.result c.refused.result c.args.self.now _ _ _ _ _ _ c.in-Some.i c.args.place c.args.m c.push.new.self
    c.refused.ensures c.push.ensures.refused c.self.view_is at
    (was_pushed c.push.result c.push.new.self c.index_mut.result.now at.item _ old c.push.ensures.pushed)
    c.self.invariant)

pub returns-in-Some-clause-unchanged : goal.returns-in-Some-clause-unchanged
returns-in-Some-clause-unchanged g c =
    let at = subst (λ l. IsAt (queue_named c.args.self.now.state c.args.q.now) l c.in-Some.i) (sym (ap (λ h. h.state.queues) c.self.view_is)) c.in-Some.ensures
    in let old = c.index_mut.ensures.value ∙ located_item _ _ c.in-Some.i _ at
    in pushed_unchanged c.push.result c.refused.result c.args.self.now _ _ _ _ _ _ c.in-Some.i c.push.new.self
    c.refused.ensures c.self.view_is at
    (was_left c.push.result c.push.new.self c.index_mut.result.now at.item old c.push.ensures.unchanged)
