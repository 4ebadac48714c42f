use Rattle.std.proofs.Common.{ap, arith}
use Rattle.term_store.proofs.store.Store.new.Goals as goal

pub invariant_of-result : goal.invariant_of-result
invariant_of-result c = (c.new.ensures.fit, omega arith)

pub returns : goal.returns
returns c = ap (λ h. record { heap = h; used = 0; budget = c.args.budget }) c.new.ensures.blank
