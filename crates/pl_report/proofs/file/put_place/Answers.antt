use Rattle.pl_report.proofs.AddsLemmas.{adds_then}
use Rattle.pl_report.proofs.file.put_place.Goals as goal

pub returns : goal.returns
returns c =
    adds_then
    c.in_ok-put.ensures
    (adds_then c.in_ok-put_words.ensures (adds_then c.in_ok-put_number.ensures c.in_ok-put_words-2.ensures))
