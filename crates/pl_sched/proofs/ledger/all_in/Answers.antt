use Rattle.std.proofs.Common.{sym, ◌∙◌}
use Rattle.pl_sched.proofs.LedgerLaws.{in_next}
use Rattle.pl_sched.proofs.ledger.all_in.Goals as goal

pub loop-number-preserved : goal.loop-number-preserved
loop-number-preserved c =
    in_next c.args.numbers.now c.args.started.now c.loop-number.number-index 0 c.loop-number-test.true (sym c.contains.ensures ∙ c.if-not-contains.false) c.loop-number.invariant
