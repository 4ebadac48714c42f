use Rattle.std.proofs.Common.{◌≡◌, ◌∷◌, refl, ap, sym, subst, ◌∙◌}
use Rattle.iso_search.specs.declared.frames.Task.TheVariants.{Goal}
use Rattle.iso_search.specs.Choices.{IsTaskIn}
use Rattle.iso_search.specs.Frames.{tasks}
use Rattle.iso_engine.specs.declared.doing.Doing.TheVariants.{Running}
use Rattle.iso_engine.specs.declared.engine.Engine.{Engine}
use Rattle.iso_engine.specs.declared.running.Did.TheVariants.{Next}
use Rattle.iso_engine.specs.Ready.{Steps}
use Rattle.iso_engine.proofs.Tasking.{task_inside, task_steps}
use Rattle.iso_engine.proofs.engine.Engine.pass_first.Goals as goal

pub passing_at-requires : goal.passing_at-requires
passing_at-requires c =
    let e = c.args.self.now.search in
    let f = c.in-Some.frame in
    let first = subst (λ l. tasks l c.args.list ≡ f.task ∷ tasks l f.continuation) c.deref.ensures.value c.in-Some.ensures.0 in
    subst (IsTaskIn e.store) c.in-Goal.is
    (task_inside e.store e.frames.items c.requires.whole.base.words c.requires.whole.base.linked c.args.list f.task (tasks e.frames.items f.continuation) first)

pub pass-requires-clause-goal : goal.pass-requires-clause-goal
pass-requires-clause-goal c =
    let e = c.args.self.now.search in
    let f = c.in-Some.frame in
    let first = subst (λ l. tasks l c.args.list ≡ f.task ∷ tasks l f.continuation) c.deref.ensures.value c.in-Some.ensures.0 in
    subst (IsTaskIn e.store) c.in-Goal.is
    (task_inside e.store e.frames.items c.requires.whole.base.words c.requires.whole.base.linked c.args.list f.task (tasks e.frames.items f.continuation) first)

pub returns-then-passes-clause-passed : goal.returns-then-passes-clause-passed
returns-then-passes-clause-passed c =
    let e = c.args.self.now in
    let f = c.in-Some.frame in
    let first = subst (λ l. tasks l c.args.list ≡ f.task ∷ tasks l f.continuation) c.deref.ensures.value c.in-Some.ensures.0 ∙ ap (λ x. x ∷ tasks e.search.frames.items f.continuation) c.in-Goal.is in
    let next = c.in_ok-next in
    let g = c.pass.new.search in
    let d = Running next.next in
    let steps = task_steps e.solution_limit e.solutions_found e.search g e.doing d c.args.list (Goal c.in-Goal.goal c.in-Goal.cut) f.continuation (Next d) c.requires.list first next.ensures.done refl in
    subst (λ (z : Engine). Steps e.solution_limit e.solutions_found e.search e.doing z.search z.doing) (sym c.run_next.ensures) steps
