use Rattle.std.proofs.Common.{ap, ◌∙◌}
use Rattle.pl_history.specs.Fronts.{FrontState, own_engine}
use Rattle.pl_sched.proofs.LedgerLaws.{numbers_next}
use Rattle.pl_sched.proofs.ledger.numbers_of.Goals as goal

pub loop-engine-preserved : goal.loop-engine-preserved
loop-engine-preserved g c =
    numbers_next c.loop-engine.numbers c.insert.new.self c.number.result c.args.done.now c.loop-engine.engine-index c.engine-item.result c.loop-engine-test.true
    (c.number.ensures ∙ ap (λ (f : FrontState). own_engine f.lives) c.engine-item.is) c.in_ok-insert.ensures.updates c.loop-engine.invariant
