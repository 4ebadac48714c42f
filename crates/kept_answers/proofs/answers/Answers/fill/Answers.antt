use Rattle.std.proofs.lemmas.List.Elements.{All-same}
use Rattle.kept_answers.specs.Answered.{IsSound}
use Rattle.kept_answers.proofs.answers.Answers.fill.Goals as goal

pub returns : goal.returns
returns c =
    record {
      sound = λ goals h n all.
          c.free_spaces.ensures.sound goals h n (All-same (IsSound goals h n) c.has_memory.new.spaces.items c.args.self.now.spaces.items c.has_memory.ensures all);
    }
