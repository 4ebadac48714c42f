use Rattle.run_model.proofs.Progress.{reached_state}
use Rattle.run_model.proofs.executions.stands_at_the_execution.Goals as goal

pub returns : goal.returns
returns c = reached_state
