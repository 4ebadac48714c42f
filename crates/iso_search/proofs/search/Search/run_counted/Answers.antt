use Rattle.std.proofs.Common.{sym, ap, ◌∙◌}
use Rattle.pl_model.specs.Predicates.{proc_of}
use Rattle.iso_search.specs.Constructs.{construction}
use Rattle.iso_search.specs.Goals.{flat, run_counted}
use Rattle.iso_search.specs.Outcomes.{limits_in, state_in}
use Rattle.iso_search.specs.Reading.{reads}
use Rattle.iso_search.specs.Searching.{node_of}
use Rattle.iso_search.proofs.search.Search.run_counted.Goals as goal

pub returns-in_ok-outcome-in-Repeats-clause-step : goal.returns-in_ok-outcome-in-Repeats-clause-step
returns-in_ok-outcome-in-Repeats-clause-step c t view =
    let e = c.args.self.now in
    let g = reads t.view e.store c.args.goal in
    c.in_ok-outcome-in-Repeats.ensures.step t (proc_of g)
    ∙ sym (ap (λ k. run_counted (limits_in t e) (state_in t e) (node_of t.view e c.args.rest) g (construction t.view e.store (flat k))) c.in-Repeats.is)

pub returns-in_ok-outcome-in-Calls-clause-step : goal.returns-in_ok-outcome-in-Calls-clause-step
returns-in_ok-outcome-in-Calls-clause-step c t view =
    let e = c.args.self.now in
    let g = reads t.view e.store c.args.goal in
    c.in_ok-outcome-in-Calls.ensures.step t g view
    ∙ sym (ap (λ k. run_counted (limits_in t e) (state_in t e) (node_of t.view e c.args.rest) g (construction t.view e.store (flat k))) c.in-Calls.is)

pub returns-in_ok-outcome-in-NotProvable-clause-step : goal.returns-in_ok-outcome-in-NotProvable-clause-step
returns-in_ok-outcome-in-NotProvable-clause-step c t view =
    let e = c.args.self.now in
    let g = reads t.view e.store c.args.goal in
    c.in_ok-outcome-in-NotProvable.ensures.step t (proc_of g) view
    ∙ sym (ap (λ k. run_counted (limits_in t e) (state_in t e) (node_of t.view e c.args.rest) g (construction t.view e.store (flat k))) c.in-NotProvable.is)

pub returns-in_ok-outcome-in-Once-clause-step : goal.returns-in_ok-outcome-in-Once-clause-step
returns-in_ok-outcome-in-Once-clause-step c t view =
    let e = c.args.self.now in
    let g = reads t.view e.store c.args.goal in
    c.in_ok-outcome-in-Once.ensures.step t (proc_of g) view
    ∙ sym (ap (λ k. run_counted (limits_in t e) (state_in t e) (node_of t.view e c.args.rest) g (construction t.view e.store (flat k))) c.in-Once.is)

pub returns-in_ok-outcome-in-Catches-clause-step : goal.returns-in_ok-outcome-in-Catches-clause-step
returns-in_ok-outcome-in-Catches-clause-step c t view =
    let e = c.args.self.now in
    let g = reads t.view e.store c.args.goal in
    c.in_ok-outcome-in-Catches.ensures.step t (proc_of g) view
    ∙ sym (ap (λ k. run_counted (limits_in t e) (state_in t e) (node_of t.view e c.args.rest) g (construction t.view e.store (flat k))) c.in-Catches.is)

pub returns-in_ok-outcome-in-FindsAll-clause-step : goal.returns-in_ok-outcome-in-FindsAll-clause-step
returns-in_ok-outcome-in-FindsAll-clause-step c t view =
    let e = c.args.self.now in
    let g = reads t.view e.store c.args.goal in
    c.in_ok-outcome-in-FindsAll.ensures.step t g view
    ∙ sym (ap (λ k. run_counted (limits_in t e) (state_in t e) (node_of t.view e c.args.rest) g (construction t.view e.store (flat k))) c.in-FindsAll.is)
