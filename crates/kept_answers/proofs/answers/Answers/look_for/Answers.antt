use Rattle.kept_answers.proofs.answers.Answers.look_for.Goals as goal

pub returns : goal.returns
returns c = record { sound = λ goals h n all. c.widen.ensures.sound goals h n }
