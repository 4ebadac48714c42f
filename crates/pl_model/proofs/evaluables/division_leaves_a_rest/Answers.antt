use Rattle.std.proofs.lemmas.Int.{quot-rem}
use Rattle.pl_model.proofs.FloorDivision.{whole, smaller, positive, negative}
use Rattle.pl_model.proofs.evaluables.division_leaves_a_rest.Goals as goal

pub returns-clause-toward_zero : goal.returns-clause-toward_zero
returns-clause-toward_zero c = quot-rem

pub returns-clause-smaller : goal.returns-clause-smaller
returns-clause-smaller c = smaller

pub returns-clause-downward : goal.returns-clause-downward
returns-clause-downward c = whole

pub returns-clause-positive : goal.returns-clause-positive
returns-clause-positive c = positive

pub returns-clause-negative : goal.returns-clause-negative
returns-clause-negative c = negative
