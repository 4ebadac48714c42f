use Rattle.kept_answers.proofs.answers.Answers.is_again.Goals as goal

pub returns-then-is_marked : goal.returns-then-is_marked
returns-then-is_marked c = record { sound = λ goals h n all. c.is_marked.ensures.sound goals h n (c.has_room.ensures.sound goals h n all) }

pub returns : goal.returns
returns c = record { sound = λ goals h n all. c.look_for.ensures.sound goals h n (c.is_marked.ensures.sound goals h n (c.has_room.ensures.sound goals h n all)) }
