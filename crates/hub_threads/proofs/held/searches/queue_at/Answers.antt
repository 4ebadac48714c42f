use Rattle.std.proofs.Common.{arith, sym, ◌∙◌}
use Rattle.hub_threads.proofs.Searched.{number_found, number_passed}
use Rattle.hub_threads.proofs.held.searches.queue_at.Goals as goal

pub returns-then-number-n : goal.returns-then-number-n
returns-then-number-n g c =
    number_found (λ x. x.number) c.args.n c.args.queues.now c.loop-i.i c.index-queues-i.result (omega (arith, c.loop-i-test.true)) c.index-queues-i.is c.loop-i.invariant (sym c.number.ensures ∙ c.if-number-n.true)

pub loop-i-preserved : goal.loop-i-preserved
loop-i-preserved g c =
    number_passed (λ x. x.number) c.args.n c.args.queues.now c.loop-i.i c.index-queues-i.result (omega (arith, c.loop-i-test.true)) c.index-queues-i.is c.loop-i.invariant (λ e. c.if-number-n.false (c.number.ensures ∙ e))
