use Rattle.pl_report.proofs.ReportLaws.{thread_reported}
use Rattle.pl_report.proofs.laws.threads_are_reported.Goals as goal

pub returns : goal.returns
returns c b x how ops end is = thread_reported b x how ops end is
