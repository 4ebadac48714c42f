use Rattle.pl_history.proofs.Keeps.{reached_kept}
use Rattle.pl_history.proofs.laws.every_history.Goals as goal

pub returns : goal.returns
returns c = reached_kept
