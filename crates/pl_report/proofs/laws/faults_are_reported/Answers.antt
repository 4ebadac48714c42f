use Rattle.pl_report.proofs.ReportLaws.{fault_reported}
use Rattle.pl_report.proofs.laws.faults_are_reported.Goals as goal

pub returns : goal.returns
returns c word kind at ops = fault_reported word kind at ops
