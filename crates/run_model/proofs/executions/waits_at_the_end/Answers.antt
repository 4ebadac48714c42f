use Rattle.run_model.proofs.Progress.{reached_wait}
use Rattle.run_model.proofs.executions.waits_at_the_end.Goals as goal

pub returns : goal.returns
returns c = reached_wait
