use Rattle.run_model.proofs.Progress.{reached_asks}
use Rattle.run_model.proofs.executions.requests_reached.Goals as goal

pub returns : goal.returns
returns c = reached_asks
