use Rattle.run_model.proofs.LawfulAlone.{alone_end_in, alone_no_end}
use Rattle.run_model.proofs.executions.ends_alone.Goals as goal

pub returns-clause-ended : goal.returns-clause-ended
returns-clause-ended c = alone_end_in

pub returns-clause-waits : goal.returns-clause-waits
returns-clause-waits c = alone_no_end
