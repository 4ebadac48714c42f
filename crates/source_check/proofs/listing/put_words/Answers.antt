use Rattle.std.proofs.Common.{◌++◌, ◌∙◌, ap}
use Rattle.pl_report.proofs.AddsLemmas.{adds_ascii}
use Rattle.source_check.proofs.listing.put_words.Goals as goal

pub returns : goal.returns
returns c = adds_ascii _ _ _ c.requires (c.in_ok-extend_from_slice.ensures.items ∙ ap (λ x. c.args.out.now.items ++ x) c.as_bytes.ensures.value)
