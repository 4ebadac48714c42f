use Rattle.pl_report.proofs.AddsLemmas.{on_ok}
use Rattle.pl_report.proofs.BindingLemmas.{none_bound}
use Rattle.pl_report.proofs.solutions.begin_solution.Goals as goal

pub returns : goal.returns
returns c t ops ts spelled = on_ok c.close.result (none_bound t ops ts spelled) c.close.ensures
