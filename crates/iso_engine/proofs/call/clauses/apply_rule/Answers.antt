use Rattle.std.proofs.Common.{◌≡◌, sym, subst, ◌∙◌}
use Rattle.pl_model.specs.BodyChecks.{rule}
use Rattle.pl_model.specs.History.{body_part, head_part}
use Rattle.pl_model.specs.Control.{clause_unified, pattern, tried_by}
use Rattle.pl_model.specs.Resolution.{inspecting, retracting}
use Rattle.pl_model.specs.Terms.{raised_by}
use Rattle.pl_model.specs.Unify.{unify}
use Rattle.term_store.specs.NumberedNames.{term_by}
use Rattle.world_api.specs.Texts.{text_of}
use Rattle.world_api.specs.Visits.{clause_in}
use Rattle.iso_search.specs.declared.choices.Purpose.{Purpose}
use Rattle.iso_search.specs.declared.outcome.Outcome.{Outcome}
use Rattle.iso_search.specs.Choices.{purpose_of}
use Rattle.iso_search.specs.Outcomes.{IsAfter, result_in, state_in}
use Rattle.iso_search.specs.Reading.{reads}
use Rattle.iso_search.specs.Searching.{node_of}
use Rattle.iso_engine.proofs.Resolving.{erased_inside, unified_erased, unified_looked}
use Rattle.iso_engine.proofs.call.clauses.apply_rule.Goals as goal

pub unreachable-requires : goal.unreachable-requires
unreachable-requires c = c.requires.looks c.in-Resolving.is

pub returns-in_ok-outcome-in-Inspecting-clause-step : goal.returns-in_ok-outcome-in-Inspecting-clause-step
returns-in_ok-outcome-in-Inspecting-clause-step c t height view =
    let v = t.view in
    let e = c.args.search.now in
    let n = node_of v e c.args.rest in
    let g = reads v e.store c.args.goal in
    let u = term_by (text_of v.names) c.args.clause.now in
    let from = c.args.from in
    let body = raised_by from (body_part u) in
    let r = unify g (raised_by from (rule (head_part u) (body_part u))) in
    let k = c.in_ok-outcome-in-Inspecting in
    subst
    (λ (x : Purpose). let p = purpose_of x in result_in t c.match_rule.new.search n (tried_by p g) k.outcome
    ≡ clause_unified p (state_in t e) n height c.args.place body (unify g (raised_by from (pattern p (clause_in u)))))
    (sym c.in-Inspecting.is)
    (k.ensures.step t (tried_by inspecting g) view ∙ unified_looked (state_in t e) n height c.args.place body r)

pub returns-in_ok-outcome-in-Retracting-clause-step : goal.returns-in_ok-outcome-in-Retracting-clause-step
returns-in_ok-outcome-in-Retracting-clause-step c t height view =
    let v = t.view in
    let e = c.args.search.now in
    let n = node_of v e c.args.rest in
    let g = reads v e.store c.args.goal in
    let u = term_by (text_of v.names) c.args.clause.now in
    let from = c.args.from in
    let body = raised_by from (body_part u) in
    let r = unify g (raised_by from (rule (head_part u) (body_part u))) in
    let k = c.in_ok-outcome-in-Retracting in
    let f = c.match_rule-in-Retracting.new.search in
    let p = tried_by retracting g in
    subst
    (λ (x : Purpose). let p = purpose_of x in result_in t f n (tried_by p g) c.erased_by.result
    ≡ clause_unified p (state_in t e) n height c.args.place body (unify g (raised_by from (pattern p (clause_in u)))))
    (sym c.in-Retracting.is)
    (subst (λ (o : Outcome). result_in t f n p o ≡ clause_unified retracting (state_in t e) n height c.args.place body r) (sym c.erased_by.ensures)
    (unified_erased t f n n p k.outcome (state_in t e) height c.args.place body r (k.ensures.step t p view)))

pub returns-in_ok-outcome-in-Retracting-clause-after : goal.returns-in_ok-outcome-in-Retracting-clause-after
returns-in_ok-outcome-in-Retracting-clause-after c =
    let e = c.args.search.now in
    let k = c.in_ok-outcome-in-Retracting in
    let f = c.match_rule-in-Retracting.new.search in
    subst (IsAfter e f) (sym c.erased_by.ensures)
    (record { budgets = k.ensures.after.budgets; inside = erased_inside e f c.args.place k.outcome k.ensures.after.inside })
