use Rattle.pl_report.proofs.AddsLemmas.{adds_then, adds_newline}
use Rattle.pl_report.proofs.lasts.put_word_fault.Goals as goal

pub returns : goal.returns
returns c =
    adds_then
    (adds_then
    c.in_ok-put_words.ensures
    (adds_then
    c.in_ok-put_kind.ensures
    (adds_then c.in_ok-put_words-2.ensures (adds_then c.in_ok-put_number.ensures c.in_ok-put_words-3.ensures))))
    (adds_newline c.in_ok-end_line.ensures)
