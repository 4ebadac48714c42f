use Rattle.engine_run.proofs.Completions.{completes_ended, completes_waiting}
use Rattle.engine_run.proofs.complete.completes.Goals as goal

pub returns-clause-ended : goal.returns-clause-ended
returns-clause-ended c = completes_ended

pub returns-clause-waits : goal.returns-clause-waits
returns-clause-waits c = completes_waiting
