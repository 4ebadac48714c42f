use Rattle.std.proofs.Common.{arith, ap, sym, ◌∙◌}
use Rattle.hub_threads.proofs.Searched.{number_found, number_passed}
use Rattle.hub_threads.proofs.held.searches.message_at.Goals as goal

pub returns-then-messages-i : goal.returns-then-messages-i
returns-then-messages-i g c =
    number_found (λ x. x.place) c.args.place c.args.messages.now c.loop-i.i c.index-messages-i.result (omega (arith, c.loop-i-test.true)) c.index-messages-i.is c.loop-i.invariant (ap (λ x. x.place) c.index-messages-i.is ∙ c.if-messages-i.true)

pub loop-i-preserved : goal.loop-i-preserved
loop-i-preserved g c =
    number_passed (λ x. x.place) c.args.place c.args.messages.now c.loop-i.i c.index-messages-i.result (omega (arith, c.loop-i-test.true)) c.index-messages-i.is c.loop-i.invariant (λ e. c.if-messages-i.false (sym (ap (λ x. x.place) c.index-messages-i.is) ∙ e))
