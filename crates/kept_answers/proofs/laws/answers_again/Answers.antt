use Rattle.kept_answers.proofs.Keeping.{gives}
use Rattle.kept_answers.proofs.laws.answers_again.Goals as goal

pub returns : goal.returns
returns c = λ goals h a f n naming kept. gives goals h a.procedure a.first a.after f n naming kept
