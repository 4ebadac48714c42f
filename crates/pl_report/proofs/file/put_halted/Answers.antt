use Rattle.pl_report.proofs.AddsLemmas.{adds_then}
use Rattle.pl_report.proofs.file.put_halted.Goals as goal

pub returns : goal.returns
returns c = adds_then c.in_ok-put_words.ensures (adds_then c.in_ok-put_number.ensures c.in_ok-put_words-2.ensures)
