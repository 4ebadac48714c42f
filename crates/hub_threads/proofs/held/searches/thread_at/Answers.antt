use Rattle.std.proofs.Common.{arith, ap, sym, ◌∙◌}
use Rattle.hub_threads.proofs.Searched.{number_found, number_passed}
use Rattle.hub_threads.proofs.held.searches.thread_at.Goals as goal

pub returns-then-threads-i : goal.returns-then-threads-i
returns-then-threads-i g c =
    number_found (λ x. x.number) c.args.n c.args.threads.now c.loop-i.i c.index-threads-i.result (omega (arith, c.loop-i-test.true)) c.index-threads-i.is c.loop-i.invariant (ap (λ x. x.number) c.index-threads-i.is ∙ c.if-threads-i.true)

pub loop-i-preserved : goal.loop-i-preserved
loop-i-preserved g c =
    number_passed (λ x. x.number) c.args.n c.args.threads.now c.loop-i.i c.index-threads-i.result (omega (arith, c.loop-i-test.true)) c.index-threads-i.is c.loop-i.invariant (λ e. c.if-threads-i.false (sym (ap (λ x. x.number) c.index-threads-i.is) ∙ e))
