use Rattle.pl_model.proofs.UnifyLaws.{own_variables, variables_gone, variables_within}
use Rattle.pl_model.proofs.unification.bound_variables_are_gone.Goals as goal

pub returns-clause-own : goal.returns-clause-own
returns-clause-own c = own_variables

pub returns-clause-gone : goal.returns-clause-gone
returns-clause-gone c = variables_gone

pub returns-clause-within : goal.returns-clause-within
returns-clause-within c = variables_within
