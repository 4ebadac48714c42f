use Rattle.std.proofs.Common.{arith, ap, sym, ◌∙◌}
use Rattle.hub_threads.proofs.Searched.{found_at, passed_next}
use Rattle.hub_threads.proofs.held.queue.first_unifying.Goals as goal

pub returns-then-branch : goal.returns-then-branch
returns-then-branch g c =
    found_at (λ m. g.M.Kept.unified c.args.pattern.now m.content) c.args.messages.now c.loop-i.i c.index-messages-i.result (omega (arith, c.loop-i-test.true)) c.index-messages-i.is c.loop-i.invariant (ap (λ m. g.M.Kept.unified c.args.pattern.now m.content) c.index-messages-i.is ∙ sym c.in_ok-unifies.ensures ∙ c.if-branch.true)

pub loop-i-preserved : goal.loop-i-preserved
loop-i-preserved g c =
    passed_next (λ m. g.M.Kept.unified c.args.pattern.now m.content) c.args.messages.now c.loop-i.i c.index-messages-i.result (omega (arith, c.loop-i-test.true)) c.index-messages-i.is c.loop-i.invariant (ap (λ m. g.M.Kept.unified c.args.pattern.now m.content) c.index-messages-i.is ∙ sym c.in_ok-unifies.ensures ∙ c.if-branch.false)
