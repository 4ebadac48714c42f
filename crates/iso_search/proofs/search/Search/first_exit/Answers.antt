use Rattle.std.proofs.Common.{◌≡◌, [], ◌∷◌, map, Option, None, MatchOption, ap, ◌∙◌, subst}
use Rattle.iso_search.specs.declared.frames.Frame.{Frame}
use Rattle.iso_search.specs.Frames.{tasks}
use Rattle.iso_search.specs.Outcomes.{limits_in, state_in}
use Rattle.iso_search.specs.Reading.{pending, reads}
use Rattle.iso_search.proofs.Catching.{passed_by, thrown_at_end, thrown_at_exit}
use Rattle.iso_search.proofs.search.Search.first_exit.Goals as goal

when_none : (P : Type 0) (Q : Frame → Type 0) (o : Option Frame) → MatchOption o P Q → o ≡ None → P
when_none P Q o m e = let n = subst (λ x. MatchOption x P Q) e m in n

pub loop-frame-preserved : goal.loop-frame-preserved
loop-frame-preserved c t ball =
    let e = c.args.self.now in
    let fs = e.frames.items in
    let f = c.in-Some.frame in
    let first : tasks fs c.loop-frame.at ≡ f.task ∷ tasks fs f.continuation =
    subst (λ l. tasks l c.loop-frame.at ≡ f.task ∷ tasks l f.continuation) c.deref.ensures.value c.in-Some.ensures.0 in
    passed_by (limits_in t e) (state_in t e) ball (reads t.view e.store) (tasks fs c.loop-frame.at) (tasks fs f.continuation) f.task first c.in_default-task.not-Leave
    ∙ c.loop-frame.invariant t ball

pub returns-in-Leave-clause-step : goal.returns-in-Leave-clause-step
returns-in-Leave-clause-step c t ball =
    let e = c.args.self.now in
    let fs = e.frames.items in
    let f = c.in-Some.frame in
    let first : tasks fs c.loop-frame.at ≡ f.task ∷ tasks fs f.continuation =
    subst (λ l. tasks l c.loop-frame.at ≡ f.task ∷ tasks l f.continuation) c.deref.ensures.value c.in-Some.ensures.0 in
    thrown_at_exit (limits_in t e) (state_in t e) ball (reads t.view e.store) (tasks fs c.loop-frame.at) (tasks fs f.continuation) c.in-Leave.height f.task first c.in-Leave.is
    ∙ c.loop-frame.invariant t ball

pub returns-clause-step : goal.returns-clause-step
returns-clause-step c t ball =
    let e = c.args.self.now in
    let fs = e.frames.items in
    let nothing : tasks c.deref.result.now c.loop-frame.at ≡ [] = when_none _ _ c.first_task.result c.first_task.ensures c.in_default.is in
    thrown_at_end (limits_in t e) (state_in t e) ball (map (pending (reads t.view e.store)) (tasks fs c.loop-frame.at))
    (ap (map (pending (reads t.view e.store))) (subst (λ l. tasks l c.loop-frame.at ≡ []) c.deref.ensures.value nothing))
    ∙ c.loop-frame.invariant t ball
