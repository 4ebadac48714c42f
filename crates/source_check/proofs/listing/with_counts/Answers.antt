use Rattle.pl_report.proofs.AddsLemmas.{adds_then}
use Rattle.source_check.proofs.Lines.{counts_added}
use Rattle.source_check.proofs.listing.with_counts.Goals as goal

pub returns : goal.returns
returns c name d s =
    counts_added name c.args.checker d _ s
    (adds_then
    c.in_ok-put_number.ensures
    (adds_then c.in_ok-put_words.ensures
    (adds_then c.in_ok-put_number-2.ensures
    (adds_then c.in_ok-put_words-2.ensures (adds_then c.in_ok-put_number-3.ensures c.in_ok-put_words-3.ensures)))))
