use Rattle.std.proofs.Common.{arith, sym, ◌∙◌}
use Rattle.hub_threads.specs.Distinct.{has_number}
use Rattle.hub_threads.specs.Held.{message_places}
use Rattle.hub_threads.proofs.Searched.{found_at, passed_next, passed_all, none_any, some_any}
use Rattle.hub_threads.proofs.Free.{any_place}
use Rattle.hub_threads.proofs.held.searches.has_place.Goals as goal

pub returns-then-has_place : goal.returns-then-has_place
returns-then-has_place g c =
    let at = found_at (λ q. has_number c.args.place (message_places q.messages)) c.args.queues.now c.loop-i.i c.index-queues-i.result (omega (arith, c.loop-i-test.true)) c.index-queues-i.is c.loop-i.invariant (sym c.has_place.ensures ∙ c.if-has_place.true)
    in sym (sym (any_place c.args.place c.args.queues.now) ∙ some_any (λ q. has_number c.args.place (message_places q.messages)) c.args.queues.now at.item at.found_is)

pub loop-i-preserved : goal.loop-i-preserved
loop-i-preserved g c =
    passed_next (λ q. has_number c.args.place (message_places q.messages)) c.args.queues.now c.loop-i.i c.index-queues-i.result (omega (arith, c.loop-i-test.true)) c.index-queues-i.is c.loop-i.invariant (sym c.has_place.ensures ∙ c.if-has_place.false)

pub returns : goal.returns
returns g c =
    sym (sym (any_place c.args.place c.args.queues.now)
    ∙ none_any (λ q. has_number c.args.place (message_places q.messages)) c.args.queues.now
    (passed_all (λ q. has_number c.args.place (message_places q.messages)) c.args.queues.now c.loop-i.i (omega (arith, c.loop-i-test.false)) c.loop-i.invariant))
