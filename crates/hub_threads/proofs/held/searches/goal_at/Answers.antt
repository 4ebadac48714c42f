use Rattle.std.proofs.Common.{arith, ap, sym, ◌∙◌}
use Rattle.hub_threads.proofs.Searched.{number_found, number_passed}
use Rattle.hub_threads.proofs.held.searches.goal_at.Goals as goal

pub returns-then-goals-i : goal.returns-then-goals-i
returns-then-goals-i g c =
    number_found (λ x. x.0) c.args.n c.args.goals.now c.loop-i.i c.index-goals-i.result (omega (arith, c.loop-i-test.true)) c.index-goals-i.is c.loop-i.invariant (ap (λ x. x.0) c.index-goals-i.is ∙ c.if-goals-i.true)

pub loop-i-preserved : goal.loop-i-preserved
loop-i-preserved g c =
    number_passed (λ x. x.0) c.args.n c.args.goals.now c.loop-i.i c.index-goals-i.result (omega (arith, c.loop-i-test.true)) c.index-goals-i.is c.loop-i.invariant (λ e. c.if-goals-i.false (sym (ap (λ x. x.0) c.index-goals-i.is) ∙ e))
