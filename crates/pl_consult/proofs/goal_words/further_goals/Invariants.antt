use Rattle.std.proofs.Common.{◌≡◌, ◌++◌, suc, drop}
use Rattle.run_model.specs.Execution.{further_goals, numbered_goals}
use Rattle.pl_consult.specs.GoalWords.{words_of}
use Rattle.pl_consult.proofs.goal_words.further_goals.Given as goal

abbrev pub invariant-loop-i : goal.invariant-loop-i
invariant-loop-i l = l.goals.items ++ numbered_goals (suc l.i) (words_of (drop l.i l.words)) ≡ further_goals (words_of l.words)
