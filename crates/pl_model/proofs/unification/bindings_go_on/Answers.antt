use Rattle.pl_model.proofs.UnifyMore.{solve_all-more, bound-more}
use Rattle.pl_model.proofs.unification.bindings_go_on.Goals as goal

pub returns-clause-solved : goal.returns-clause-solved
returns-clause-solved c = solve_all-more

pub returns-clause-bound : goal.returns-clause-bound
returns-clause-bound c = bound-more
