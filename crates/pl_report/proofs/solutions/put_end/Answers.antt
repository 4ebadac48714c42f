use Rattle.pl_report.proofs.AddsLemmas.{on_ok}
use Rattle.pl_report.proofs.BindingLemmas.{none_ends, some_ends}
use Rattle.pl_report.proofs.solutions.put_end.Goals as goal

pub returns-then-some : goal.returns-then-some
returns-then-some c t ops ts ns h = on_ok c.put_stop.result (some_ends t ops ts ns c.args.some c.if-some.true h) c.put_stop.ensures

pub returns : goal.returns
returns c t ops ts ns h = on_ok c.put_words.result (none_ends t ops ts ns c.args.some c.if-some.false h) c.put_words.ensures
