use Rattle.pl_model.proofs.UnifyEnough.{turns_enough}
use Rattle.pl_model.proofs.unification.turns_are_enough.Goals as goal

pub returns : goal.returns
returns c = turns_enough
