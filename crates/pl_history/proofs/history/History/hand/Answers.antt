use Rattle.pl_history.proofs.Lives.{picked_one}
use Rattle.pl_history.proofs.history.History.hand.Goals as goal

pub returns-clause-own : goal.returns-clause-own
returns-clause-own c = picked_one c.args.engine _ c.requires.carried
