use Rattle.pl_report.proofs.ReportLaws.{refusal_reported}
use Rattle.pl_report.proofs.laws.refusals_are_reported.Goals as goal

pub returns : goal.returns
returns c word r = refusal_reported word r
