use Rattle.run_model.proofs.LawfulAlone.{alone_end, alone_atoms, alone_wait}
use Rattle.run_model.proofs.executions.completes_alone.Goals as goal

pub returns-clause-ended : goal.returns-clause-ended
returns-clause-ended c = alone_end

pub returns-clause-atoms : goal.returns-clause-atoms
returns-clause-atoms c = alone_atoms

pub returns-clause-waits : goal.returns-clause-waits
returns-clause-waits c = alone_wait
