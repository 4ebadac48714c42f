use Rattle.kept_answers.proofs.answers.Answers.widen.Goals as goal

pub returns : goal.returns
returns c = record { sound = λ goals h n. c.fill.ensures.sound goals h n (c.clear.ensures.sound goals h n) }
