use Rattle.run_model.proofs.Progress.{reached_later}
use Rattle.run_model.proofs.executions.others_leave_reached.Goals as goal

pub returns : goal.returns
returns c = reached_later
