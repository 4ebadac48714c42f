use Rattle.std.proofs.Common.{ap, subst, arith}
use Rattle.term_store.specs.Fit.{Fit}
use Rattle.iso_search.proofs.VariableCounts.{variables_within}
use Rattle.iso_search.proofs.search.Search.is_too_large.Goals as goal

pub returns-clause-numbers : goal.returns-clause-numbers
returns-clause-numbers c large =
    let e = c.args.self.now in
    let fit = subst Fit (ap (λ s. s.heap) c.mark-here.ensures.here) c.mark-here.ensures.mark.fit in
    let few = variables_within e.store c.args.place e.next_variable fit c.requires.place c.requires.whole.above in
    omega (arith, few, c.if-self-gt-MOST_DOUBLED.false)
