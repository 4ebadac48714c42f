use Rattle.std.proofs.Common.{subst}
use Rattle.iso_search.proofs.Converting.{grows_again}
use Rattle.shared_builtins.specs.Clauses.{IsBodyOf}
use Rattle.shared_builtins.proofs.ClauseTerms.{head_held, kept_as, refused_clause, term_held}
use Rattle.shared_builtins.proofs.clauses.made_clause.Goals as goal

pub kept_clause-requires-clause-term : goal.kept_clause-requires-clause-term
kept_clause-requires-clause-term c = c.body_at.ensures.grows.stays.adds.places c.args.term c.requires

pub kept_clause-requires-clause-head : goal.kept_clause-requires-clause-head
kept_clause-requires-clause-head c = c.body_at.ensures.grows.stays.adds.places c.parts_at-parts.result.head c.parts_at-parts.ensures.inside.head_holds

pub returns-in_err-clause-in-Goal-clause-grows : goal.returns-in_err-clause-in-Goal-clause-grows
returns-in_err-clause-in-Goal-clause-grows c = grows_again c.args.store.now c.body_at.new.store c.kept_clause.new.store c.body_at.ensures.grows c.kept_clause.ensures.grows

pub returns-in_ok-clause-in-Goal-clause-grows : goal.returns-in_ok-clause-in-Goal-clause-grows
returns-in_ok-clause-in-Goal-clause-grows c = grows_again c.args.store.now c.body_at.new.store c.kept_clause.new.store c.body_at.ensures.grows c.kept_clause.ensures.grows

pub returns-in_ok-clause-in-Goal-clause-clause : goal.returns-in_ok-clause-in-Goal-clause-clause
returns-in_ok-clause-in-Goal-clause-clause c m tells held =
    let s = c.args.store.now in
    let t = c.body_at.new.store in
    let ps = c.parts_at-parts.result in
    let grown = c.body_at.ensures.grows in
    let inside = c.parts_at-parts.ensures.inside in
    let read = c.parts_at-parts.ensures.read m tells.naming held in
    let body = subst (IsBodyOf m s ps t) c.in-Goal.is (c.in_ok-body.ensures.body m tells read.head_held read.body_held) in
    kept_as m s t c.args.term ps grown inside c.requires read c.in-Goal.goal c.in_ok-clause-in-Goal.clause body
    (c.in_ok-clause-in-Goal.ensures.kept m tells.naming (term_held m s t c.args.term ps grown inside c.requires read held)
    (head_held m s t c.args.term ps grown inside c.requires read) body.1)

pub returns-in-Refused-clause-clause : goal.returns-in-Refused-clause-clause
returns-in-Refused-clause-clause c m tells held =
    let s = c.args.store.now in
    let t = c.body_at.new.store in
    let ps = c.parts_at-parts.result in
    let read = c.parts_at-parts.ensures.read m tells.naming held in
    refused_clause m s t c.args.term ps c.body_at.ensures.grows c.parts_at-parts.ensures.inside c.requires read c.in-Refused.fault
    (subst (IsBodyOf m s ps t) c.in-Refused.is (c.in_ok-body.ensures.body m tells read.head_held read.body_held))
