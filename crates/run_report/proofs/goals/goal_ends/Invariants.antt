use Rattle.std.proofs.Common.{◌≡◌, ◌++◌, suc, drop}
use Rattle.pl_consult.specs.GoalWords.{refusals_of, words_of}
use Rattle.run_report.specs.Parts.{ends_over}
use Rattle.run_report.proofs.goals.goal_ends.Given as goal

abbrev pub invariant-loop-i : goal.invariant-loop-i
invariant-loop-i l =
    l.ends.items ++ ends_over l.engines (refusals_of l.refused) (suc l.i) (words_of (drop l.i l.words)) ≡ ends_over l.engines (refusals_of l.refused) 1 (words_of l.words)
