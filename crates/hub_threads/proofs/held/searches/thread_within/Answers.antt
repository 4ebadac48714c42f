use Rattle.std.proofs.Common.{ap, arith, sym, ◌∙◌}
use Rattle.hub_threads.specs.Goals.{is_within}
use Rattle.hub_threads.proofs.Searched.{passed_all, passed_next}
use Rattle.hub_threads.proofs.Within.{between, no_thread, one_thread}
use Rattle.hub_threads.proofs.held.searches.thread_within.Goals as goal

pub loop-i-preserved : goal.loop-i-preserved
loop-i-preserved g c =
    passed_next (λ t. is_within c.args.first c.args.last t.number) c.args.threads.now c.loop-i.i c.index-threads-i.result (omega (arith, c.loop-i-test.true)) c.index-threads-i.is c.loop-i.invariant (ap (λ t. is_within c.args.first c.args.last t.number) c.index-threads-i.is ∙ sym c.lies_within.ensures ∙ c.if-lies_within.false)

pub returns-then-lies_within-clause-one : goal.returns-then-lies_within-clause-one
returns-then-lies_within-clause-one g c = λ hit.
    let t = c.index-threads-i.result in
    let lies = between c.args.first c.args.last t.number (ap (λ t. is_within c.args.first c.args.last t.number) c.index-threads-i.is ∙ sym c.lies_within.ensures ∙ c.if-lies_within.true) in
    (t.number, lies.0, lies.1, one_thread c.args.threads.now c.loop-i.i t (omega (arith, c.loop-i-test.true)) c.index-threads-i.is)

pub returns-clause-none : goal.returns-clause-none
returns-clause-none g c = λ none m above below.
    no_thread c.args.first c.args.last m above below c.args.threads.now
    (passed_all (λ t. is_within c.args.first c.args.last t.number) c.args.threads.now c.loop-i.i (omega (arith, c.loop-i-test.false)) c.loop-i.invariant)
