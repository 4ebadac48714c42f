use Rattle.std.proofs.Common.{ap, ◌∙◌}
use Rattle.pl_model.specs.Resolution.{State, throwing}
use Rattle.iso_search.specs.declared.search.Search.{Search}
use Rattle.iso_search.specs.Outcomes.{state_in}
use Rattle.iso_search.specs.Searching.{node_of}
use Rattle.iso_search.specs.Spelling.{spelled, text_of}
use Rattle.iso_search.proofs.search.Search.throw_ball.Goals as goal

pub returns-in_default-back_to_catch-clause-step : goal.returns-in_default-back_to_catch-clause-step
returns-in_default-back_to_catch-clause-step c t view =
    let v = t.view in
    let f = c.back_to_catch.new.self in
    let exit = c.in-Some.exit in
    let ball = spelled (text_of v.names) c.args.ball in
    let none = c.in_default-back_to_catch.ensures in
    ap (λ (y : Search). let s : State = record (state_in t f) { doing = throwing ball (node_of v y exit.rest).goals } in s) none.kept
    ∙ none.step t ball exit.rest c.in-Some.ensures.inside
    ∙ c.in-Some.ensures.step t ball

pub returns-clause-step : goal.returns-clause-step
returns-clause-step c t view =
    let ball = spelled (text_of t.view.names) c.args.ball in
    c.in_ok-thrown.ensures.step t view
    ∙ c.in-Some-back_to_catch.ensures.step t ball c.in-Some.exit.rest c.in-Some.ensures.inside
    ∙ c.in-Some.ensures.step t ball
