use Rattle.std.proofs.Common.{◌∙◌}
use Rattle.counted_terms.proofs.Listing.{naming_is}
use Rattle.counted_terms.proofs.term.CountedTerm.new.Goals as goal

pub invariant_of-result : goal.invariant_of-result
invariant_of-result c = λ k. c.in_ok-atoms.ensures k ∙ naming_is k c.nodes.result.now c.args.term c.nodes.ensures.spelled
