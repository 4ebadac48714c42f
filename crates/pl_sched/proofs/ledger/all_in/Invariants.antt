use Rattle.std.proofs.Common.{take}
use Rattle.pl_sched.proofs.LedgerLaws.{AreIn}
use Rattle.pl_sched.proofs.ledger.all_in.Given as goal

abbrev pub invariant-loop-number : goal.invariant-loop-number
invariant-loop-number l = AreIn l.numbers (take l.number-index l.started)
