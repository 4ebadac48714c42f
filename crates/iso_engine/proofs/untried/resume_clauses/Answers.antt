use Rattle.std.proofs.Common.{ap}
use Rattle.iso_search.specs.declared.search.Search.{Search}
use Rattle.iso_search.proofs.Resuming.{back_clauses}
use Rattle.iso_engine.proofs.untried.resume_clauses.Goals as goal

pub returns-clause-step : goal.returns-clause-step
returns-clause-step c t fails =
    let kept = c.backtrack.ensures.kept in
    back_clauses t c.args.search.now c.backtrack.new.self c.in-Some.k.next c.in-Some.k.alternative (c.in-Some.ensures.back t.view)
    (ap (λ (s : Search). s.next_variable) kept) (ap (λ (s : Search). s.inferences) kept) (ap (λ (s : Search). s.budgets) kept)
    c.in-Clauses.purpose c.in-Clauses.goal c.in-Clauses.generation c.in-Clauses.place c.in-Clauses.is
