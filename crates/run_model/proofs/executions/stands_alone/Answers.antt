use Rattle.run_model.proofs.LoneFinal.{lone_final_end, lone_final_atoms, lone_final_wait}
use Rattle.run_model.proofs.executions.stands_alone.Goals as goal

pub returns-clause-ended : goal.returns-clause-ended
returns-clause-ended c = lone_final_end

pub returns-clause-atoms : goal.returns-clause-atoms
returns-clause-atoms c = lone_final_atoms

pub returns-clause-waits : goal.returns-clause-waits
returns-clause-waits c = lone_final_wait
