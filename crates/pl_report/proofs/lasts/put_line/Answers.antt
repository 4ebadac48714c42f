use Rattle.pl_report.proofs.AddsLemmas.{adds_then, adds_newline}
use Rattle.pl_report.proofs.lasts.put_line.Goals as goal

pub returns : goal.returns
returns c = adds_then c.in_ok-put_words.ensures (adds_newline c.in_ok-end_line.ensures)
