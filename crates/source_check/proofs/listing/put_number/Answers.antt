use Rattle.std.proofs.Common.{◌++◌, ◌∙◌, ap}
use Rattle.pl_report.proofs.AddsLemmas.{adds_digits}
use Rattle.source_check.proofs.listing.put_number.Goals as goal

pub returns : goal.returns
returns c =
    adds_digits
    _
    _
    _
    (λ i. rw (← c.format.ensures.text) (c.format.ensures.ascii i))
    (c.in_ok-extend_from_slice.ensures.items
    ∙ ap (λ x. c.args.out.now.items ++ x) (c.as_bytes.ensures.value ∙ c.format.ensures.text))
