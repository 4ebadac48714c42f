use Rattle.pl_report.proofs.AddsLemmas.{adds_then}
use Rattle.pl_report.proofs.solutions.put_equals.Goals as goal

pub returns : goal.returns
returns c = adds_then c.in_ok-put.ensures c.in_ok-put_words.ensures
