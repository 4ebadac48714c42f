use Rattle.shared_builtins.proofs.ClauseTerms.{fault_of_clause}
use Rattle.shared_builtins.proofs.clauses.clause_fault.Goals as goal

pub returns-clause-fault : goal.returns-clause-fault
returns-clause-fault c m tells held =
    let s = c.args.store.now in
    let ps = c.parts_at-parts.result in
    let read = c.parts_at-parts.ensures.read m tells.naming held in
    fault_of_clause m s c.body_at.new.store c.args.term ps c.body_at.ensures.grows c.parts_at-parts.ensures.inside c.requires read c.in_ok-body.body c.fault_in.result
    c.fault_in.ensures (c.in_ok-body.ensures.body m tells read.head_held read.body_held)
