use Rattle.pl_report.proofs.LineLemmas.{line_ended}
use Rattle.pl_report.proofs.solutions.end_solution.Goals as goal

pub returns : goal.returns
returns c t ops ts ns h = line_ended t (c.in_ok-put_end.ensures t ops ts ns h) c.in_ok-end_line.ensures
