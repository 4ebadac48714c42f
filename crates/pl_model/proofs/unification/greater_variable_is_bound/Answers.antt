use Rattle.pl_model.proofs.UnifyLaws.{greater_bound}
use Rattle.pl_model.proofs.unification.greater_variable_is_bound.Goals as goal

pub returns : goal.returns
returns c = greater_bound
