use Rattle.std.proofs.Common.{arith, ap, sym, ◌∙◌}
use Rattle.hub_threads.proofs.Searched.{number_found, number_passed}
use Rattle.hub_threads.proofs.held.searches.named_at.Goals as goal

pub returns-then-aliases-i : goal.returns-then-aliases-i
returns-then-aliases-i c =
    number_found (λ x. x.1) c.args.n c.args.aliases.now c.loop-i.i c.index-aliases-i.result (omega (arith, c.loop-i-test.true)) c.index-aliases-i.is c.loop-i.invariant (ap (λ x. x.1) c.index-aliases-i.is ∙ c.if-aliases-i.true)

pub loop-i-preserved : goal.loop-i-preserved
loop-i-preserved c =
    number_passed (λ x. x.1) c.args.n c.args.aliases.now c.loop-i.i c.index-aliases-i.result (omega (arith, c.loop-i-test.true)) c.index-aliases-i.is c.loop-i.invariant (λ e. c.if-aliases-i.false (sym (ap (λ x. x.1) c.index-aliases-i.is) ∙ e))
