use Rattle.std.proofs.Common.{◌≡◌, drop}
use Rattle.run_model.specs.Report.{refusal_of as refusal_with}
use Rattle.pl_consult.specs.GoalWords.{refusals_of}
use Rattle.run_report.proofs.lookups.refused_in.Given as goal

abbrev pub invariant-loop-goal : goal.invariant-loop-goal
invariant-loop-goal l = refusal_with (refusals_of (drop l.goal-index l.refused)) l.number ≡ refusal_with (refusals_of l.refused) l.number
