use Rattle.pl_model.proofs.NumbersGiven.{numbers_given}
use Rattle.pl_model.proofs.shared.numbers_are_new.Goals as goal

pub returns : goal.returns
returns c = numbers_given
