use Rattle.std.proofs.Common.{◌≡◌, sym, subst}
use Rattle.pl_model.specs.History.{body_part}
use Rattle.pl_model.specs.Control.{clause_unified, pattern, tried_by}
use Rattle.pl_model.specs.Terms.{raised_by}
use Rattle.pl_model.specs.Unify.{unify}
use Rattle.term_store.specs.NumberedNames.{term_by}
use Rattle.world_api.specs.Texts.{text_of}
use Rattle.world_api.specs.Visits.{clause_in}
use Rattle.iso_search.specs.declared.choices.Purpose.{Purpose}
use Rattle.iso_search.specs.Choices.{purpose_of}
use Rattle.iso_search.specs.Outcomes.{result_in, state_in}
use Rattle.iso_search.specs.Reading.{reads}
use Rattle.iso_search.specs.Searching.{node_of}
use Rattle.iso_engine.proofs.call.clauses.apply_clause.Goals as goal

pub returns-in_ok-outcome-in-Resolving-clause-step : goal.returns-in_ok-outcome-in-Resolving-clause-step
returns-in_ok-outcome-in-Resolving-clause-step c t view =
    let v = t.view in
    let e = c.args.search.now in
    let n = node_of v e c.args.rest in
    let g = reads v e.store c.args.goal in
    let u = term_by (text_of v.names) c.args.clause.now in
    let from = c.args.from in
    let body = raised_by from (body_part u) in
    let k = c.in_ok-outcome-in-Resolving in
    subst
    (λ (x : Purpose). let p = purpose_of x in result_in t c.resolve.new.search n (tried_by p g) k.outcome
    ≡ clause_unified p (state_in t e) n c.args.height c.args.place body (unify g (raised_by from (pattern p (clause_in u)))))
    (sym c.in-Resolving.is) (k.ensures.step t c.args.place view)

pub returns-in_ok-outcome-in_default-clause-step : goal.returns-in_ok-outcome-in_default-clause-step
returns-in_ok-outcome-in_default-clause-step c t view = c.in_ok-outcome-in_default.ensures.step t c.args.height view
