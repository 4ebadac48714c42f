use Rattle.std.proofs.Common.{◌≡◌, drop}
use Rattle.run_model.specs.Ends.{all_solved}
use Rattle.run_report.proofs.ends.all_solved.Given as goal

abbrev pub invariant-loop-end : goal.invariant-loop-end
invariant-loop-end l = all_solved (drop l.end-index l.ends) ≡ all_solved l.ends
