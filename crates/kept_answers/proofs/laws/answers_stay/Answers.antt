use Rattle.kept_answers.proofs.Staying.{all_kept_on, all_stay}
use Rattle.kept_answers.proofs.laws.answers_stay.Goals as goal

pub returns-clause-history : goal.returns-clause-history
returns-clause-history c = all_stay

pub returns-clause-names : goal.returns-clause-names
returns-clause-names c = λ goals h n m ss holds all. all_kept_on goals h n m holds ss all
