use Rattle.pl_model.proofs.UnifyLaws.{equal_when_bound}
use Rattle.pl_model.proofs.unification.unified_terms_are_equal.Goals as goal

pub returns : goal.returns
returns c = equal_when_bound
