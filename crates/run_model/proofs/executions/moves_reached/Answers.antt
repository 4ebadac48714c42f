use Rattle.run_model.proofs.Progress.{reached_goes}
use Rattle.run_model.proofs.executions.moves_reached.Goals as goal

pub returns : goal.returns
returns c = reached_goes
