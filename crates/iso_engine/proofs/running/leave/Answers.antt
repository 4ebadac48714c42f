use Rattle.std.proofs.Common.{◌∷◌, ap, ◌∙◌}
use Rattle.iso_search.specs.Frames.{tasks}
use Rattle.iso_engine.proofs.Followed.{commit_done, leave_done, refute_done}
use Rattle.iso_engine.proofs.running.leave.Goals as goal

pub returns-in-Commit-clause-step : goal.returns-in-Commit-clause-step
returns-in-Commit-clause-step c list is t view =
    let e = c.args.search.now in
    commit_done t e c.cut_to.new.self list c.args.frame.continuation c.in-Commit.height c.cut_to.ensures.kept (c.cut_to.ensures.choices t.view)
    (is ∙ ap (λ x. x ∷ tasks e.frames.items c.args.frame.continuation) c.in-Commit.is)

pub returns-in-Refute-clause-step : goal.returns-in-Refute-clause-step
returns-in-Refute-clause-step c list is t view =
    let e = c.args.search.now in
    refute_done t e c.cut_to-in-Refute.new.self list c.args.frame.continuation c.in-Refute.height c.cut_to-in-Refute.ensures.kept (c.cut_to-in-Refute.ensures.choices t.view)
    (is ∙ ap (λ x. x ∷ tasks e.frames.items c.args.frame.continuation) c.in-Refute.is)

pub returns-in-Leave-clause-step : goal.returns-in-Leave-clause-step
returns-in-Leave-clause-step c list is t view =
    let e = c.args.search.now in
    leave_done t e list c.args.frame.continuation c.in-Leave.field-0 (is ∙ ap (λ x. x ∷ tasks e.frames.items c.args.frame.continuation) c.in-Leave.is)
