use Rattle.std.proofs.Common.{◌≡◌, ap, subst, ◌∙◌, length, arith}
use Rattle.pl_term.specs.Tree.{Tree}
use Rattle.pl_model.specs.Resolution.{Node, State, Next}
use Rattle.pl_model.specs.Control.{costing, take_up}
use Rattle.iso_search.specs.Budgeting.{after_inference}
use Rattle.iso_search.specs.Constructs.{construction}
use Rattle.iso_search.specs.Outcomes.{limits_in, state_in}
use Rattle.iso_search.specs.Reading.{reads}
use Rattle.iso_search.specs.Searching.{node_of}
use Rattle.iso_search.proofs.Taking.{counted_out, counted_run}
use Rattle.iso_search.specs.declared.search.Search.{Search}
use Rattle.iso_search.proofs.After.{after_behind}
use Rattle.iso_search.proofs.search.Search.take_up_counted.Goals as goal

pub returns-then-not-infer-clause-step : goal.returns-then-not-infer-clause-step
returns-then-not-infer-clause-step c t cut view =
    let v = t.view in
    let e = c.args.self.now in
    let x = c.infer.new.self in
    let n = node_of v e c.args.rest in
    let g = reads v e.store c.args.goal in
    let spent =
    subst (λ b. (m : Node) (u : Tree) (next : State → Next) → after_inference t x m u next b ≡ costing (limits_in t e) (state_in t e) m u next)
    c.if-not-infer.true (c.infer.ensures.step t) in
    counted_out t e x c.in-Some.counted cut n g spent
    ∙ ap (λ k. take_up (limits_in t e) (state_in t e) n g cut (construction v e.store k)) c.in-Some.ensures

pub returns-clause-step : goal.returns-clause-step
returns-clause-step c t cut view =
    let v = t.view in
    let e = c.args.self.now in
    let x = c.infer.new.self in
    let n = node_of v e c.args.rest in
    let g = reads v e.store c.args.goal in
    let made =
    subst (λ b. (m : Node) (u : Tree) (next : State → Next) → after_inference t x m u next b ≡ costing (limits_in t e) (state_in t e) m u next)
    c.if-not-infer.false (c.infer.ensures.step t) in
    counted_run t e x c.run_counted.new.self c.in-Some.counted cut c.args.rest c.args.goal c.in_ok-outcome.outcome c.infer.ensures.kept made
    (c.in_ok-outcome.ensures.step t view)
    ∙ ap (λ k. take_up (limits_in t e) (state_in t e) n g cut (construction v e.store k)) c.in-Some.ensures

pub returns-clause-after : goal.returns-clause-after
returns-clause-after c =
    let e = c.args.self.now in
    let x = c.infer.new.self in
    let kept = c.infer.ensures.kept in
    let same : length x.frames.items ≡ length e.frames.items = ap (λ (y : Search). length y.frames.items) kept in
    after_behind e x c.run_counted.new.self c.in_ok-outcome.outcome (omega (arith, same)) (ap (λ (y : Search). y.budgets) kept)
    (λ v j le. ap (λ (y : Search). (node_of v y j).goals) kept) c.in_ok-outcome.ensures.after
