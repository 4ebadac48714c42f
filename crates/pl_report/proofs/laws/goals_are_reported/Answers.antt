use Rattle.pl_report.proofs.ReportLaws.{goal_reported}
use Rattle.pl_report.proofs.laws.goals_are_reported.Goals as goal

pub returns : goal.returns
returns c word enough names x how ops end is ok = goal_reported word enough names x how ops end is ok
