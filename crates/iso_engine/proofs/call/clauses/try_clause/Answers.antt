use Rattle.std.proofs.Common.{◌≡◌, length, ap, subst, arith}
use Rattle.pl_term.specs.Tree.{Tree}
use Rattle.pl_model.specs.History.{body_part}
use Rattle.pl_model.specs.Control.{clause_unified, pattern, tried_by}
use Rattle.pl_model.specs.Terms.{raised_by}
use Rattle.pl_model.specs.Unify.{unify}
use Rattle.term_store.specs.NumberedNames.{term_by}
use Rattle.world_api.specs.Texts.{text_of}
use Rattle.world_api.specs.Visits.{clause_in}
use Rattle.iso_search.specs.declared.search.Search.{Search}
use Rattle.iso_search.specs.Choices.{purpose_of}
use Rattle.iso_search.specs.Outcomes.{result_in, state_in}
use Rattle.iso_search.specs.Reading.{reads}
use Rattle.iso_search.specs.Searching.{node_of}
use Rattle.iso_search.proofs.After.{after_behind, spent}
use Rattle.iso_engine.proofs.Resolving.{at_any_other, tried_resolved, tried_spent}
use Rattle.iso_engine.proofs.call.clauses.try_clause.Goals as goal

pub returns-in-Some-clause-step : goal.returns-in-Some-clause-step
returns-in-Some-clause-step c t d view is at =
    let e = c.args.search.now in
    tried_spent t view (purpose_of c.args.purpose) e c.take.new.self c.args.rest c.args.height c.args.place c.variables.result c.cells-cells.result (reads t.view e.store c.args.goal) d c.args.clause.now
    c.in-Some.fault is at c.variables.ensures c.cells-cells.ensures (c.in-Some.ensures.step t)

pub returns-in-Some-clause-after : goal.returns-in-Some-clause-after
returns-in-Some-clause-after c =
    spent c.args.search.now c.take.new.self c.in-Some.fault c.in-Some.ensures.refused c.in-Some.ensures.budgets

pub returns-in_ok-outcome-in-None-clause-step : goal.returns-in_ok-outcome-in-None-clause-step
returns-in_ok-outcome-in-None-clause-step c t k view is at =
    let v = t.view in
    let e = c.args.search.now in
    let d = c.take.new.self in
    let f = c.apply_clause.new.search in
    let q = purpose_of c.args.purpose in
    let o = c.in_ok-outcome-in-None.outcome in
    let g = reads v e.store c.args.goal in
    let u = term_by (text_of v.names) c.args.clause.now in
    let same : reads v d.store c.args.goal ≡ g = ap (λ (x : Search). reads v x.store c.args.goal) c.in-None.ensures.kept in
    let ran =
    subst (λ (h : Tree). result_in t f (node_of v d c.args.rest) (tried_by q h) o
    ≡ clause_unified q (state_in t d) (node_of v d c.args.rest) c.args.height c.args.place (raised_by e.next_variable (body_part u)) (unify h (raised_by e.next_variable (pattern q (clause_in u)))))
    same (c.in_ok-outcome-in-None.ensures.step t view) in
    tried_resolved t view q e d f c.args.rest c.args.height c.args.place c.variables.result c.cells-cells.result g k c.args.clause.now o is at
    c.variables.ensures c.cells-cells.ensures (c.in-None.ensures.step t) ran (node_of v e c.args.rest)
    (at_any_other t f q (node_of v d c.args.rest) (node_of v d c.args.rest) (node_of v e c.args.rest) (tried_by q g) o (state_in t d) c.args.height c.args.place
    (raised_by e.next_variable (body_part u)) (unify g (raised_by e.next_variable (pattern q (clause_in u)))) ran)

pub returns-in_ok-outcome-in-None-clause-after : goal.returns-in_ok-outcome-in-None-clause-after
returns-in_ok-outcome-in-None-clause-after c =
    let e = c.args.search.now in
    let d = c.take.new.self in
    let kept = c.in-None.ensures.kept in
    let frames : length d.frames.items ≡ length e.frames.items = ap (λ (x : Search). length x.frames.items) kept in
    after_behind e d c.apply_clause.new.search c.in_ok-outcome-in-None.outcome (omega (arith, frames)) (ap (λ (x : Search). x.budgets) kept)
    (λ v j le. ap (λ (x : Search). (node_of v x j).goals) kept) c.in_ok-outcome-in-None.ensures.after
