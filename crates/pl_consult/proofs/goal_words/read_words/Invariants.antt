use Rattle.std.proofs.Common.{◌≡◌, map, take}
use Rattle.run_model.specs.Execution.{word_read}
use Rattle.pl_consult.specs.GoalWords.{words_of}
use Rattle.pl_consult.proofs.goal_words.read_words.Given as goal

abbrev pub invariant-loop-word : goal.invariant-loop-word
invariant-loop-word l = words_of l.all.items ≡ map (word_read l.operators l.quotes) (take l.word-index l.words)
