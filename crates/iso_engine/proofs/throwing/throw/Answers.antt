use Rattle.std.proofs.Common.{sym, ap, ◌∙◌}
use Rattle.iso_search.specs.Outcomes.{Setting}
use Rattle.iso_search.specs.Thrown.{thrown_state}
use Rattle.iso_engine.specs.declared.doing.Doing.TheVariants.{Running, Throwing, Ended}
use Rattle.iso_engine.specs.declared.doing.End.TheVariants.{Threw}
use Rattle.iso_engine.specs.Standing.{doing_of, state_at}
use Rattle.iso_engine.proofs.Followed.{thrown_to}
use Rattle.iso_engine.proofs.throwing.throw.Goals as goal

pub returns-in-Run-clause-step : goal.returns-in-Run-clause-step
returns-in-Run-clause-step c t view =
    let e = c.args.search.now in
    let f = c.throw_ball.new.self in
    let r : Setting = record t { doing = doing_of t.view e (Throwing c.args.ball c.args.outer) } in
    thrown_to t e c.args.ball c.args.outer (state_at t.view f (Running c.in-Run.list) t.output)
    (sym (ap (thrown_state r f) c.in-Run.is) ∙ c.in_ok-thrown.ensures.step r view)

pub returns-in-Throw-clause-step : goal.returns-in-Throw-clause-step
returns-in-Throw-clause-step c t view =
    let e = c.args.search.now in
    let f = c.throw_ball.new.self in
    let r : Setting = record t { doing = doing_of t.view e (Throwing c.args.ball c.args.outer) } in
    thrown_to t e c.args.ball c.args.outer (state_at t.view f (Throwing c.in-Throw.again c.in-Throw.rest) t.output)
    (sym (ap (thrown_state r f) c.in-Throw.is) ∙ c.in_ok-thrown.ensures.step r view)

pub returns-in-Uncaught-clause-step : goal.returns-in-Uncaught-clause-step
returns-in-Uncaught-clause-step c t view =
    let e = c.args.search.now in
    let f = c.throw_ball.new.self in
    let r : Setting = record t { doing = doing_of t.view e (Throwing c.args.ball c.args.outer) } in
    thrown_to t e c.args.ball c.args.outer (state_at t.view f (Ended (Threw c.in-Uncaught.last)) t.output)
    (sym (ap (thrown_state r f) c.in-Uncaught.is) ∙ c.in_ok-thrown.ensures.step r view)
