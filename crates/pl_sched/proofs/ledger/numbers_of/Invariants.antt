use Rattle.std.proofs.Common.{take}
use Rattle.pl_sched.proofs.LedgerLaws.{AreNumbers}
use Rattle.pl_sched.proofs.ledger.numbers_of.Given as goal

abbrev pub invariant-loop-engine : goal.invariant-loop-engine
invariant-loop-engine g l = AreNumbers l.numbers (take l.engine-index l.done)
