use Rattle.kept_answers.proofs.answers.Answers.has_room.Goals as goal

pub returns : goal.returns
returns c = record { sound = λ goals h n all. c.fill.ensures.sound goals h n all }
