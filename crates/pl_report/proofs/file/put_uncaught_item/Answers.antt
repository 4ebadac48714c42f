use Rattle.pl_report.proofs.LineLemmas.{line_put, item_put}
use Rattle.pl_report.proofs.file.put_uncaught_item.Goals as goal

pub returns : goal.returns
returns c t spelled = line_put t spelled c.in_ok-close.ensures (item_put c.args.name.now c.args.at c.in_ok-put_place.ensures c.in_ok-put_named.ensures) c.in_ok-end_line.ensures
