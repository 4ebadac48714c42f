use Rattle.std.proofs.Common.{◌≡◌, suc, ◌∷◌, [], ◌++◌, length, ap, ◌∙◌, arith, length-append}
use Rattle.iso_search.specs.declared.frames.Frame.{Frame}
use Rattle.iso_search.specs.Frames.{tasks}
use Rattle.iso_search.proofs.Stacked.{tasks-append, tasks-push}
use Rattle.iso_search.proofs.frames.push_task.Goals as goal

pub returns-clause-list : goal.returns-clause-list
returns-clause-list c =
    let fs = c.args.frames.now.items in
    let f : Frame = record { task = c.args.task; continuation = c.args.next } in
    let e : c.put_behind.new.frames.items ≡ fs ++ f ∷ [] = c.in_ok-put_behind.ensures.longer in
    let long : c.len.result ≡ suc (length fs) = omega (arith, c.len.ensures, c.put_behind.new.frames.ok.0, ap length e, length-append fs (f ∷ [])) in (
      ap (λ l. tasks l c.len.result) e ∙ ap (tasks (fs ++ f ∷ [])) long ∙ tasks-push fs f,
      omega (arith, ap length e, length-append fs (f ∷ [])),
    )

pub returns-clause-others : goal.returns-clause-others
returns-clause-others c j le =
    let f : Frame = record { task = c.args.task; continuation = c.args.next } in
    ap (λ l. tasks l j) c.in_ok-put_behind.ensures.longer ∙ tasks-append c.args.frames.now.items (f ∷ []) j le
