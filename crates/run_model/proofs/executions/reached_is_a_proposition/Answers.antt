use Rattle.run_model.proofs.ReachedSets.{reached_prop}
use Rattle.run_model.proofs.executions.reached_is_a_proposition.Goals as goal

pub returns : goal.returns
returns c = reached_prop
