use Rattle.std.proofs.Common.{◌∙◌, ap, List, ℕ}
use Rattle.std.specs.Prelude.{encode_utf8_all}
use Rattle.source_check.specs.Listings.{faults_in, listing}
use Rattle.toplevel.proofs.RunLemmas.{file_bytes}
use Rattle.toplevel.proofs.listed.listing_of.Goals as goal

pub returns-clause-listing : goal.returns-clause-listing
returns-clause-listing g c =
    let b = file_bytes _ c.in_ok-bytes.bytes c.in_ok-bytes.ensures.within c.in_ok-bytes.ensures.bytes in
    let read = c.as_slice.ensures ∙ b.first in (
      b.bytes,
      (
        b.are_read,
        record {
          text_is = c.in_ok-listing.ensures.text ∙ ap (λ (bs : List ℕ). encode_utf8_all (listing c.args.file.now bs)) read;
          faults_are = c.in_ok-listing.ensures.faults ∙ ap faults_in read;
        },
      ),
    )
