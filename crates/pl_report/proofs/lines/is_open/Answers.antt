use Rattle.pl_report.proofs.Endings.{open_got, open_none}
use Rattle.pl_report.proofs.lines.is_open.Goals as goal

pub returns-in-Some : goal.returns-in-Some
returns-in-Some c = open_got c.args.bytes.now c.in-Some.b c.in-Some.ensures

pub returns-in-None : goal.returns-in-None
returns-in-None c = open_none c.args.bytes.now c.in-None.ensures
