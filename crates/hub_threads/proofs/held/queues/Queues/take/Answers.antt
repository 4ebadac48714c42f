use Rattle.std.proofs.Common.{ap, sym, subst, ◌∙◌}
use Rattle.pl_model.specs.Threads.{queue_named}
use Rattle.hub_threads.specs.Located.{IsAt}
use Rattle.hub_threads.proofs.Located.{located_item}
use Rattle.hub_threads.proofs.Answered.{took_sound, took_answer, took_unchanged}
use Rattle.hub_threads.proofs.held.queues.Queues.take.Goals as goal

pub invariant_of-self : goal.invariant_of-self
invariant_of-self g c =
    let at = subst (λ l. IsAt (queue_named c.args.self.now.state c.args.q.now) l c.in-Some.i) (sym (ap (λ h. h.state.queues) c.self.view_is)) c.in-Some.ensures
    in let old = c.index_mut.ensures.value ∙ located_item _ _ c.in-Some.i _ at
    in took_sound c.take_first.result (g.M.Kept.unified c.args.pattern.now) _ _ _ _ _ _ c.in-Some.i c.take_first.new.self c.index_mut.result.now at old
    c.take_first.ensures.taken c.take_first.ensures.unchanged c.self.invariant

pub returns-in-Some-clause-taken : goal.returns-in-Some-clause-taken
returns-in-Some-clause-taken g c =
    let at = subst (λ l. IsAt (queue_named c.args.self.now.state c.args.q.now) l c.in-Some.i) (sym (ap (λ h. h.state.queues) c.self.view_is)) c.in-Some.ensures
    in let old = c.index_mut.ensures.value ∙ located_item _ _ c.in-Some.i _ at
    in rw at.found_is
    (took_answer c.take_first.result c.taken.result (g.M.Kept.unified c.args.pattern.now) c.args.self.now _ _ _ _ _ _ c.in-Some.i c.take_first.new.self c.index_mut.result.now
    c.taken.ensures c.self.view_is at old c.take_first.ensures.taken c.self.invariant)

pub returns-in-Some-clause-unchanged : goal.returns-in-Some-clause-unchanged
returns-in-Some-clause-unchanged g c =
    let at = subst (λ l. IsAt (queue_named c.args.self.now.state c.args.q.now) l c.in-Some.i) (sym (ap (λ h. h.state.queues) c.self.view_is)) c.in-Some.ensures
    in let old = c.index_mut.ensures.value ∙ located_item _ _ c.in-Some.i _ at
    in took_unchanged c.take_first.result c.taken.result c.args.self.now _ _ _ _ _ _ c.in-Some.i c.take_first.new.self c.index_mut.result.now
    c.taken.ensures c.self.view_is at old c.take_first.ensures.unchanged
