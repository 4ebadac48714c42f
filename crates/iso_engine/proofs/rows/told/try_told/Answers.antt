use Rattle.std.proofs.Common.{[]}
use Rattle.pl_model.specs.Control.{unified}
use Rattle.pl_model.specs.Resolution.{Node, State}
use Rattle.pl_model.specs.Terms.{arguments}
use Rattle.pl_model.specs.Unify.{solve_all}
use Rattle.iso_search.specs.Reading.{reads}
use Rattle.iso_search.specs.Told.{line_answer}
use Rattle.std.proofs.Common.{◌≡◌, ◌∙◌, length, ap, arith}
use Rattle.iso_search.specs.declared.search.Search.{Search}
use Rattle.iso_search.specs.Searching.{node_of}
use Rattle.iso_search.proofs.After.{after_behind}
use Rattle.iso_engine.proofs.ToldLaws.{tried_is, tried_ran}
use Rattle.iso_engine.proofs.rows.told.try_told.Goals as goal

pub returns-in_ok-outcome-in-None-clause-step : goal.returns-in_ok-outcome-in-None-clause-step
returns-in_ok-outcome-in-None-clause-step c t p view =
    tried_ran t c.args.search.now c.take.new.self c.unify_told.new.search p c.args.goal c.args.line c.args.rest c.cells_of-cells.result c.in_ok-outcome-in-None.outcome
    c.cells_of-cells.ensures c.in-None.ensures.kept (c.in-None.ensures.step t) (c.in_ok-outcome-in-None.ensures.step t p view)

pub returns-in_ok-outcome-in-None-clause-after : goal.returns-in_ok-outcome-in-None-clause-after
returns-in_ok-outcome-in-None-clause-after c =
    let e = c.args.search.now in
    let d = c.take.new.self in
    let kept = c.in-None.ensures.kept in
    let frames : length d.frames.items ≡ length e.frames.items = ap (λ (x : Search). length x.frames.items) kept in
    after_behind e d c.unify_told.new.search c.in_ok-outcome-in-None.outcome (omega (arith, frames)) (ap (λ (x : Search). x.budgets) kept)
    (λ v j le. ap (λ (x : Search). (node_of v x j).goals) kept) c.in_ok-outcome-in-None.ensures.after

pub returns-in-Some-clause-step : goal.returns-in-Some-clause-step
returns-in-Some-clause-step c t p view =
    let r = reads t.view c.args.search.now.store in
    let ts = arguments (r c.args.goal) in
    c.in-Some.ensures.step t c.args.rest p (λ (s : State) (n : Node). unified s n (solve_all [] ts (line_answer t.view.names c.args.line).terms))
    ∙ tried_is t c.args.search.now c.args.rest p ts c.args.line c.cells_of-cells.result c.cells_of-cells.ensures
