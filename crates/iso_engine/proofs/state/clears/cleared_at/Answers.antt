use Rattle.std.proofs.Common.{◌≡◌, ◌∷◌, ap, subst, ◌∙◌}
use Rattle.iso_search.specs.Choices.{IsTaskIn}
use Rattle.iso_search.specs.Frames.{tasks}
use Rattle.iso_engine.proofs.Tasking.{task_inside}
use Rattle.iso_engine.proofs.state.clears.cleared_at.Goals as goal

pub argument_of-requires : goal.argument_of-requires
argument_of-requires c =
    let e = c.args.search.now in
    let f = c.in-Some.frame in
    let first = subst (λ l. tasks l c.args.list ≡ f.task ∷ tasks l f.continuation) c.deref.ensures.value c.in-Some.ensures.0 in
    subst (IsTaskIn e.store) c.in-Goal.is
    (task_inside e.store e.frames.items c.requires.base.words c.requires.base.linked c.args.list f.task (tasks e.frames.items f.continuation) first)

pub returns-in-Some-argument_of-clause-clears : goal.returns-in-Some-argument_of-clause-clears
returns-in-Some-argument_of-clause-clears c =
    let e = c.args.search.now in
    let f = c.in-Some.frame in
    let first = subst (λ l. tasks l c.args.list ≡ f.task ∷ tasks l f.continuation) c.deref.ensures.value c.in-Some.ensures.0 in
    let inside = subst (IsTaskIn e.store) c.in-Goal.is
    (task_inside e.store e.frames.items c.requires.base.words c.requires.base.linked c.args.list f.task (tasks e.frames.items f.continuation) first) in
    let h = c.in-Some-argument_of.ensures in
    record {
      goal = c.in-Goal.goal;
      cut = c.in-Goal.field-1;
      first = first ∙ ap (λ x. x ∷ tasks e.frames.items f.continuation) c.in-Goal.is;
      at = record { holds = inside; inside = h.0; means = h.1 };
    }
