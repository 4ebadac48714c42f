use Rattle.std.proofs.Common.{◌≡◌, ◌∷◌, ap, subst, ◌∙◌}
use Rattle.iso_search.specs.Choices.{IsTaskIn}
use Rattle.iso_search.specs.Frames.{tasks}
use Rattle.iso_engine.proofs.Tasking.{task_inside}
use Rattle.iso_engine.proofs.call.direct.first_call.Goals as goal

pub direct_call-requires : goal.direct_call-requires
direct_call-requires c =
    let e = c.args.search.now in
    let f = c.in_ok-frame.frame in
    let first = subst (λ l. tasks l c.args.list ≡ f.task ∷ tasks l f.continuation) c.deref.ensures.value c.in_ok-frame.ensures.0 in
    subst (IsTaskIn e.store) c.in-Goal.is
    (task_inside e.store e.frames.items c.requires.base.words c.requires.base.linked c.args.list f.task (tasks e.frames.items f.continuation) first)

pub returns-clause-first : goal.returns-clause-first
returns-clause-first c =
    let e = c.args.search.now in
    let f = c.in_ok-frame.frame in
    let first = subst (λ l. tasks l c.args.list ≡ f.task ∷ tasks l f.continuation) c.deref.ensures.value c.in_ok-frame.ensures.0 in
    (c.in-Goal.field-1, first ∙ ap (λ x. x ∷ tasks e.frames.items f.continuation) c.in-Goal.is)

pub returns-clause-goal : goal.returns-clause-goal
returns-clause-goal c =
    let e = c.args.search.now in
    let f = c.in_ok-frame.frame in
    let first = subst (λ l. tasks l c.args.list ≡ f.task ∷ tasks l f.continuation) c.deref.ensures.value c.in_ok-frame.ensures.0 in
    subst (IsTaskIn e.store) c.in-Goal.is
    (task_inside e.store e.frames.items c.requires.base.words c.requires.base.linked c.args.list f.task (tasks e.frames.items f.continuation) first)
