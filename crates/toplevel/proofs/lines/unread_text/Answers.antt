use Rattle.pl_report.proofs.AddsLemmas.{adds_then}
use Rattle.toplevel.proofs.lines.unread_text.Goals as goal

pub returns : goal.returns
returns c =
    let all = adds_then c.in_ok-put_words.ensures (adds_then c.in_ok-put.ensures c.in_ok-put_words-2.ensures) in
    rw c.new-line.ensures.items at all.added
