use Rattle.pl_model.proofs.UnifyLaws.{most_general, no_unifier}
use Rattle.pl_model.proofs.unification.unifier_is_most_general.Goals as goal

pub returns-clause-unifies : goal.returns-clause-unifies
returns-clause-unifies c = most_general

pub returns-clause-fails : goal.returns-clause-fails
returns-clause-fails c = no_unifier
