use Rattle.pl_report.proofs.AddsLemmas.{adds_then, adds_newline}
use Rattle.pl_report.proofs.Endings.{adds_stop}
use Rattle.pl_report.proofs.lasts.put_ball.Goals as goal

pub returns : goal.returns
returns c =
    adds_then
    (adds_stop tt (adds_then c.in_ok-put_words.ensures c.in_ok-put_named.ensures) c.in_ok-put_stop.ensures)
    (adds_newline c.in_ok-end_line.ensures)
