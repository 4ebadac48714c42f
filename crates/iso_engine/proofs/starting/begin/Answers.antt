use Rattle.std.proofs.Common.{◌≡◌, sym, ap, subst, ◌∙◌, arith}
use Rattle.pl_model.specs.BodyChecks.{body_of}
use Rattle.iso_search.specs.declared.search.Search.{Search}
use Rattle.iso_search.specs.declared.outcome.Outcome.TheVariants.{Raise}
use Rattle.iso_search.specs.Calling.{goal_or_error, IsCheckedIn}
use Rattle.iso_search.specs.Outcomes.{fault_term, limits_in, result_in, state_in}
use Rattle.iso_search.specs.Reading.{reads}
use Rattle.iso_search.specs.Searching.{choices_of, node_of}
use Rattle.pl_model.specs.Resolution.{Node, State}
use Rattle.pl_model.specs.History.{Proc}
use Rattle.pl_model.specs.Control.{taking}
use Rattle.std.specs.Prelude.{ℕ}
use Rattle.iso_search.proofs.Calling.{call_refused, call_run, call_spent}
use Rattle.iso_search.proofs.Over.{length_choices}
use Rattle.iso_search.proofs.After.{budget_inside}
use Rattle.iso_engine.proofs.starting.begin.Goals as goal

pub returns-in-Refused-clause-step : goal.returns-in-Refused-clause-step
returns-in-Refused-clause-step c t p view =
    let v = t.view in
    let b = c.args.search.now in
    let d = c.check_body.new.self in
    let whole = c.args.place in
    let cells = c.args.cells in
    let g = c.check_body.ensures.grows.stays in
    let is = subst (λ k. goal_or_error (reads v d.store) k ≡ body_of (reads v b.store whole)) c.in-Refused.is (c.in_ok-checked.ensures.checked v view) in
    ap (λ (y : Search). result_in t y (node_of v b 0) p (Raise c.in-Refused.fault)) c.check_body.ensures.kept
    ∙ call_refused t b d d d.store g c.requires.whole 0 cells p whole c.in-Refused.fault is

pub returns-in-Some-clause-step : goal.returns-in-Some-clause-step
returns-in-Some-clause-step c t p view =
    let v = t.view in
    let b = c.args.search.now in
    let e = c.check_body.new.self in
    let d = c.take.new.self in
    let whole = c.args.place in
    let cells = c.args.cells in
    let g = c.check_body.ensures.grows.stays in
    let is = subst (λ k. goal_or_error (reads v e.store) k ≡ body_of (reads v b.store whole)) c.in-Goal.is (c.in_ok-checked.ensures.checked v view) in
    let taken =
    subst (λ (y : Search). (list : ℕ) (q : Proc) (next : State → Node → State)
    → result_in t d (node_of v y list) q (Raise c.in-Some.fault) ≡ taking (limits_in t y) (state_in t y) (node_of v y list) q 0 cells next)
    c.check_body.ensures.kept (c.in-Some.ensures.step t) in
    call_spent t b d d e.store g c.requires.whole 0 cells p whole c.in-Some.fault c.in-Goal.goal is taken

pub returns-in_ok-list-in-None-clause-step : goal.returns-in_ok-list-in-None-clause-step
returns-in_ok-list-in-None-clause-step c t p view =
    let v = t.view in
    let b = c.args.search.now in
    let e = c.check_body.new.self in
    let d = c.take.new.self in
    let f = c.push.new.self in
    let whole = c.args.place in
    let cells = c.args.cells in
    let g = c.check_body.ensures.grows.stays in
    let same : Search = record b { store = e.store } in
    let kept = c.check_body.ensures.kept in
    let is = subst (λ k. goal_or_error (reads v e.store) k ≡ body_of (reads v b.store whole)) c.in-Goal.is (c.in_ok-checked.ensures.checked v view) in
    let taken =
    subst (λ (y : Search). (list : ℕ) (q : Proc) (next : State → Node → State)
    → next (state_in t d) (node_of v d list) ≡ taking (limits_in t y) (state_in t y) (node_of v y list) q 0 cells next)
    kept (c.in-None.ensures.step t) in
    let pushed = c.in_ok-list-in-None.ensures in
    call_run t b d f e.store g c.requires.whole 0 cells p whole c.in-Goal.goal c.len-height.result c.in_ok-list-in-None.list is taken
    (subst (λ (y : Search). d ≡ record y { store = record y.store { used = d.store.used }; next_variable = d.next_variable }) kept c.in-None.ensures.kept)
    (c.in-None.ensures.choices v ∙ ap (choices_of v) kept)
    (omega (arith, c.len-height.ensures, d.choices.ok.0, length_choices v d))
    (pushed.node v) (pushed.choices v) (ap (λ (s : Search). s.next_variable) pushed.kept) (ap (λ (s : Search). s.inferences) pushed.kept)

pub returns-in-Refused-clause-placed : goal.returns-in-Refused-clause-placed
returns-in-Refused-clause-placed c = subst (IsCheckedIn c.check_body.new.self.store) c.in-Refused.is c.in_ok-checked.ensures.inside

pub returns-in-Some-clause-placed : goal.returns-in-Some-clause-placed
returns-in-Some-clause-placed c = budget_inside c.take.new.self.store c.in-Some.fault c.in-Some.ensures.budgets

pub returns-in-Refused-clause-kind : goal.returns-in-Refused-clause-kind
returns-in-Refused-clause-kind c v view =
    let d = c.check_body.new.self in
    let is = subst (λ k. goal_or_error (reads v d.store) k ≡ body_of (reads v c.args.search.now.store c.args.place)) c.in-Refused.is (c.in_ok-checked.ensures.checked v view) in
    (fault_term (reads v d.store) c.in-Refused.fault, sym is)

pub returns-in-Some-clause-kind : goal.returns-in-Some-clause-kind
returns-in-Some-clause-kind c v view =
    let d = c.check_body.new.self in
    let is = subst (λ k. goal_or_error (reads v d.store) k ≡ body_of (reads v c.args.search.now.store c.args.place)) c.in-Goal.is (c.in_ok-checked.ensures.checked v view) in
    (reads v d.store c.in-Goal.goal, sym is)

pub returns-in_ok-list-in-None-clause-kind : goal.returns-in_ok-list-in-None-clause-kind
returns-in_ok-list-in-None-clause-kind c v view =
    let d = c.check_body.new.self in
    let is = subst (λ k. goal_or_error (reads v d.store) k ≡ body_of (reads v c.args.search.now.store c.args.place)) c.in-Goal.is (c.in_ok-checked.ensures.checked v view) in
    (reads v d.store c.in-Goal.goal, sym is)
