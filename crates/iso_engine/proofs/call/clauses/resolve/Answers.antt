use Rattle.std.proofs.Common.{ap₂, ◌∙◌}
use Rattle.pl_model.specs.Control.{clause_unified}
use Rattle.pl_model.specs.Predicates.{proc_of}
use Rattle.pl_model.specs.Resolution.{resolving}
use Rattle.pl_model.specs.Unify.{unify}
use Rattle.term_store.proofs.KeptTerms.{stored_names}
use Rattle.iso_search.specs.Outcomes.{state_in}
use Rattle.iso_search.specs.Reading.{reads}
use Rattle.iso_search.specs.Searching.{node_of}
use Rattle.iso_engine.proofs.Copies.{raised_body, raised_head}
use Rattle.iso_engine.proofs.call.clauses.resolve.Goals as goal

pub returns-clause-step : goal.returns-clause-step
returns-clause-step c t place view =
    let v = t.view in
    let e = c.args.search.now in
    let clause = c.args.clause.now in
    let over = stored_names clause c.nodes-nodes.result.now c.nodes-nodes.ensures.spelled in
    c.in_ok-outcome.ensures.step t (proc_of (reads v e.store c.args.goal)) place view
    ∙ ap₂ (λ b h. clause_unified resolving (state_in t e) (node_of v e c.args.rest) c.args.height place b (unify (reads v e.store c.args.goal) h))
    (raised_body v view c.args.from clause over) (raised_head v view c.args.from clause over)
