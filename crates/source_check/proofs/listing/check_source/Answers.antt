use Rattle.source_check.specs.Listings.{file_checked, listing, faults_in}
use Rattle.source_check.proofs.listing.check_source.Goals as goal

pub returns-clause-text : goal.returns-clause-text
unfolding listing
returns-clause-text c = c.in_ok-text.ensures c.args.name.now (file_checked c.args.bytes.now) c.in_ok-checker.ensures

pub returns-clause-faults : goal.returns-clause-faults
unfolding faults_in
returns-clause-faults c = c.in_ok-checker.ensures.faults
