use Rattle.pl_report.proofs.AddsLemmas.{adds_then}
use Rattle.pl_report.proofs.LineLemmas.{line_put}
use Rattle.pl_report.proofs.file.put_too_large.Goals as goal

pub returns : goal.returns
returns c t spelled = line_put t spelled c.in_ok-close.ensures (adds_then c.in_ok-put.ensures c.in_ok-put_words.ensures) c.in_ok-end_line.ensures
