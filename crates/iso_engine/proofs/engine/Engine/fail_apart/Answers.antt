use Rattle.std.proofs.Common.{◌≡◌, [], ◌++◌, None, refl, sym, ap, subst, ◌∙◌, append-nil}
use Rattle.std.proofs.lemmas.Result.{IfOk-weaker}
use Rattle.atom_api.specs.Names.{Names}
use Rattle.world_api.specs.Told.{Told}
use Rattle.iso_search.specs.declared.failure.Back.TheVariants.{Answers, Exhausted, Fail, Found, Retry, Run, Told as ToldBack}
use Rattle.iso_search.specs.declared.search.Search.{Search}
use Rattle.iso_search.specs.Failures.{IsTaken, back_result}
use Rattle.iso_engine.specs.declared.doing.Doing.TheVariants.{Ended, Failing, Running}
use Rattle.iso_engine.specs.declared.doing.End.TheVariants.{NoMore}
use Rattle.iso_engine.specs.declared.engine.Engine.{Engine}
use Rattle.iso_engine.specs.Ready.{IsReady}
use Rattle.iso_engine.specs.Retrying.{IsGoneOn}
use Rattle.iso_engine.specs.Slices.{IsStepped}
use Rattle.iso_engine.specs.Spending.{IsSpent}
use Rattle.iso_engine.specs.Unserved.{as_stopped, stopped_refusals}
use Rattle.iso_engine.proofs.Failed.{IsStepAfter, failed_after, found_steps, retried_end}
use Rattle.iso_engine.proofs.Followed.{fails_to}
use Rattle.iso_engine.proofs.Interning.{line_asks_for, nothing_asked, retry_asks_for}
use Rattle.iso_engine.proofs.Opening.{line_held, newest_held, newest_open}
use Rattle.iso_engine.proofs.Solutions.{view_is}
use Rattle.iso_engine.proofs.Stability.{advance_step, spent_by, step_ready}
use Rattle.iso_engine.proofs.engine.Engine.fail_apart.Goals as goal

pub retry-requires-clause-held : goal.retry-requires-clause-held
retry-requires-clause-held g c =
    let e = c.args.self.now in
    let a = c.args.atoms.now in
    let m = g.W.A.Atoms.held a in
    let t = g.W.World.told c.args.world.now in
    let view = view_is m t (g.met.W.A.Atoms.fixed_held a) (g.met.W.A.Atoms.unlike a) (g.met.W.A.Atoms.finite a) in
    let x = c.resume.new.self in
    let r = c.in-Retry in
    let taken = subst (IsTaken e.search x) r.is c.resume.ensures.taken in
    newest_held m t e.search x e.doing r.purpose r.goal r.generation r.place r.next c.requires.ready.stable taken view (g.met.W.A.Atoms.fixed_held a) (g.met.W.A.Atoms.unlike a) (g.met.W.A.Atoms.finite a)

pub retry-requires-clause-open : goal.retry-requires-clause-open
retry-requires-clause-open g c =
    let e = c.args.self.now in
    let a = c.args.atoms.now in
    let m = g.W.A.Atoms.held a in
    let t = g.W.World.told c.args.world.now in
    let view = view_is m t (g.met.W.A.Atoms.fixed_held a) (g.met.W.A.Atoms.unlike a) (g.met.W.A.Atoms.finite a) in
    let x = c.resume.new.self in
    let r = c.in-Retry in
    let taken = subst (IsTaken e.search x) r.is c.resume.ensures.taken in
    newest_open m t e.search x e.doing r.purpose r.goal r.generation r.place r.next c.requires.ready.stable taken view

pub retry_line-requires-clause-held : goal.retry_line-requires-clause-held
retry_line-requires-clause-held g c =
    let e = c.args.self.now in
    let a = c.args.atoms.now in
    let m = g.W.A.Atoms.held a in
    let t = g.W.World.told c.args.world.now in
    let x = c.resume.new.self in
    let r = c.in-Answers in
    line_held m t e.search x e.doing r.goal r.line r.next c.requires.ready.stable (subst (IsTaken e.search x) r.is c.resume.ensures.taken)
    (g.met.W.A.Atoms.fixed_held a) (g.met.W.A.Atoms.unlike a) (g.met.W.A.Atoms.finite a)

pub returns-in_ok-self-in-Found-clause-ready : goal.returns-in_ok-self-in-Found-clause-ready
returns-in_ok-self-in-Found-clause-ready g c =
    let e = c.args.self.now in
    let a = c.args.atoms.now in
    let m = g.W.A.Atoms.held a in
    let t = g.W.World.told c.args.world.now in
    let view = view_is m t (g.met.W.A.Atoms.fixed_held a) (g.met.W.A.Atoms.unlike a) (g.met.W.A.Atoms.finite a) in
    let x = c.resume.new.self in
    let r = c.in-Found in
    let b = Found r.list r.found r.next in
    let k = c.in_ok-self-in-Found in
    let f = c.give_list.new.search in
    let new : Engine = record e { search = f; doing = k.field-0 } in
    let steps = found_steps e.solution_limit e.solutions_found e.search x f e.doing k.field-0 b c.requires.fails
    (λ q h. fails_to q e.search (back_result q x b) h (sym (ap (back_result q x) r.is) ∙ c.resume.ensures.step q h)) k.ensures.stands in
    step_ready m t e new steps k.ensures.whole view c.requires.ready

pub returns-in_ok-self-in-Found-clause-stepped : goal.returns-in_ok-self-in-Found-clause-stepped
returns-in_ok-self-in-Found-clause-stepped g c =
    let e = c.args.self.now in
    let a = c.args.atoms.now in
    let m = g.W.A.Atoms.held a in
    let t = g.W.World.told c.args.world.now in
    let view = view_is m t (g.met.W.A.Atoms.fixed_held a) (g.met.W.A.Atoms.unlike a) (g.met.W.A.Atoms.finite a) in
    let x = c.resume.new.self in
    let r = c.in-Found in
    let b = Found r.list r.found r.next in
    let k = c.in_ok-self-in-Found in
    let f = c.give_list.new.search in
    let new : Engine = record e { search = f; doing = k.field-0 } in
    let steps = found_steps e.solution_limit e.solutions_found e.search x f e.doing k.field-0 b c.requires.fails
    (λ q h. fails_to q e.search (back_result q x b) h (sym (ap (back_result q x) r.is) ∙ c.resume.ensures.step q h)) k.ensures.stands in
    advance_step m t e new steps (k.ensures.budgets ∙ ap (λ (s : Search). s.budgets) c.resume.ensures.kept) refl refl view

pub returns-in_ok-self-in-Found-clause-spent : goal.returns-in_ok-self-in-Found-clause-spent
returns-in_ok-self-in-Found-clause-spent g c =
    let e = c.args.self.now in
    let a = c.args.atoms.now in
    let m = g.W.A.Atoms.held a in
    let t = g.W.World.told c.args.world.now in
    let view = view_is m t (g.met.W.A.Atoms.fixed_held a) (g.met.W.A.Atoms.unlike a) (g.met.W.A.Atoms.finite a) in
    let x = c.resume.new.self in
    let r = c.in-Found in
    let b = Found r.list r.found r.next in
    let k = c.in_ok-self-in-Found in
    let f = c.give_list.new.search in
    spent_by e.solution_limit e.solutions_found e.search e.doing f k.field-0 m t
    (found_steps e.solution_limit e.solutions_found e.search x f e.doing k.field-0 b c.requires.fails
    (λ q h. fails_to q e.search (back_result q x b) h (sym (ap (back_result q x) r.is) ∙ c.resume.ensures.step q h)) k.ensures.stands)
    view

pub returns-in_err-self-in-Found-clause-asked : goal.returns-in_err-self-in-Found-clause-asked
returns-in_err-self-in-Found-clause-asked g c = let asked = g.W.A.Atoms.asked c.args.atoms.now in nothing_asked _ asked asked refl

pub returns-in_ok-self-in-Found-clause-asked : goal.returns-in_ok-self-in-Found-clause-asked
returns-in_ok-self-in-Found-clause-asked g c = let asked = g.W.A.Atoms.asked c.args.atoms.now in nothing_asked _ asked asked refl

pub returns-in-Retry-clause-given : goal.returns-in-Retry-clause-given
returns-in-Retry-clause-given g c =
    let e = c.args.self.now in
    let a = c.retry.new.atoms in
    let m = g.W.A.Atoms.held c.args.atoms.now in
    let n = g.W.A.Atoms.held a in
    let t = g.W.World.told c.args.world.now in
    let u = g.W.World.told c.retry.new.world in
    let view = view_is n u (g.met.W.A.Atoms.fixed_held a) (g.met.W.A.Atoms.unlike a) (g.met.W.A.Atoms.finite a) in
    let x = c.resume.new.self in
    let f = c.retry.new.self in
    let r = c.in-Retry in
    let b = Retry r.purpose r.goal r.generation r.place r.next in
    let end = as_stopped c.retry.result in
    let taken = subst (IsTaken e.search x) r.is c.resume.ensures.taken in
    let step = retried_end m n t u e x f b tt c.retry.ensures.holds view c.requires.ready c.requires.fails c.resume.ensures.kept end
    c.retry.ensures.whole c.retry.ensures.gone taken
    (λ q fails. sym (ap (back_result q x) r.is) ∙ c.resume.ensures.step q fails) in
    IfOk-weaker end (IsStepAfter m t e n u f) (λ o. f.solutions_found ≡ e.solutions_found) (λ o h. h.3) step

pub returns-in-Retry-clause-spent : goal.returns-in-Retry-clause-spent
returns-in-Retry-clause-spent g c =
    let e = c.args.self.now in
    let a = c.retry.new.atoms in
    let m = g.W.A.Atoms.held c.args.atoms.now in
    let n = g.W.A.Atoms.held a in
    let t = g.W.World.told c.args.world.now in
    let u = g.W.World.told c.retry.new.world in
    let view = view_is n u (g.met.W.A.Atoms.fixed_held a) (g.met.W.A.Atoms.unlike a) (g.met.W.A.Atoms.finite a) in
    let x = c.resume.new.self in
    let f = c.retry.new.self in
    let r = c.in-Retry in
    let b = Retry r.purpose r.goal r.generation r.place r.next in
    let end = as_stopped c.retry.result in
    let taken = subst (IsTaken e.search x) r.is c.resume.ensures.taken in
    let step = retried_end m n t u e x f b tt c.retry.ensures.holds view c.requires.ready c.requires.fails c.resume.ensures.kept end
    c.retry.ensures.whole c.retry.ensures.gone taken
    (λ q fails. sym (ap (back_result q x) r.is) ∙ c.resume.ensures.step q fails) in
    IfOk-weaker end (IsStepAfter m t e n u f) (λ o. IsSpent e.search.inferences f.search.inferences) (λ o h. h.2) step

pub returns-in-Retry-clause-ready : goal.returns-in-Retry-clause-ready
returns-in-Retry-clause-ready g c =
    let e = c.args.self.now in
    let a = c.retry.new.atoms in
    let m = g.W.A.Atoms.held c.args.atoms.now in
    let n = g.W.A.Atoms.held a in
    let t = g.W.World.told c.args.world.now in
    let u = g.W.World.told c.retry.new.world in
    let view = view_is n u (g.met.W.A.Atoms.fixed_held a) (g.met.W.A.Atoms.unlike a) (g.met.W.A.Atoms.finite a) in
    let x = c.resume.new.self in
    let f = c.retry.new.self in
    let r = c.in-Retry in
    let b = Retry r.purpose r.goal r.generation r.place r.next in
    let end = as_stopped c.retry.result in
    let taken = subst (IsTaken e.search x) r.is c.resume.ensures.taken in
    let step = retried_end m n t u e x f b tt c.retry.ensures.holds view c.requires.ready c.requires.fails c.resume.ensures.kept end
    c.retry.ensures.whole c.retry.ensures.gone taken
    (λ q fails. sym (ap (back_result q x) r.is) ∙ c.resume.ensures.step q fails) in
    IfOk-weaker end (IsStepAfter m t e n u f) (λ o. IsReady n u f) (λ o h. h.1) step

pub returns-in-Retry-clause-stepped : goal.returns-in-Retry-clause-stepped
returns-in-Retry-clause-stepped g c =
    let e = c.args.self.now in
    let a = c.retry.new.atoms in
    let m = g.W.A.Atoms.held c.args.atoms.now in
    let n = g.W.A.Atoms.held a in
    let t = g.W.World.told c.args.world.now in
    let u = g.W.World.told c.retry.new.world in
    let view = view_is n u (g.met.W.A.Atoms.fixed_held a) (g.met.W.A.Atoms.unlike a) (g.met.W.A.Atoms.finite a) in
    let x = c.resume.new.self in
    let f = c.retry.new.self in
    let r = c.in-Retry in
    let b = Retry r.purpose r.goal r.generation r.place r.next in
    let end = as_stopped c.retry.result in
    let taken = subst (IsTaken e.search x) r.is c.resume.ensures.taken in
    let step = retried_end m n t u e x f b tt c.retry.ensures.holds view c.requires.ready c.requires.fails c.resume.ensures.kept end
    c.retry.ensures.whole c.retry.ensures.gone taken
    (λ q fails. sym (ap (back_result q x) r.is) ∙ c.resume.ensures.step q fails) in
    IfOk-weaker end (IsStepAfter m t e n u f) (λ o. IsStepped m t e o n u f []) (λ o h. h.0) step

pub returns-in-Retry-clause-asked : goal.returns-in-Retry-clause-asked
returns-in-Retry-clause-asked g c =
    let e = c.args.self.now in
    let a = c.args.atoms.now in
    let x = c.resume.new.self in
    let r = c.in-Retry in
    retry_asks_for (g.W.A.Atoms.held a) (g.W.World.told c.args.world.now) e x r.purpose r.goal r.generation r.place r.next c.requires.fails
    (subst (IsTaken e.search x) r.is c.resume.ensures.taken) (g.W.A.Atoms.asked a) (g.W.A.Atoms.asked c.retry.new.atoms) c.retry.ensures.asked

pub returns-in-Answers-clause-given : goal.returns-in-Answers-clause-given
returns-in-Answers-clause-given g c =
    let e = c.args.self.now in
    let a = c.retry_line.new.atoms in
    let m = g.W.A.Atoms.held c.args.atoms.now in
    let n = g.W.A.Atoms.held a in
    let t = g.W.World.told c.args.world.now in
    let u = t in
    let view = view_is n u (g.met.W.A.Atoms.fixed_held a) (g.met.W.A.Atoms.unlike a) (g.met.W.A.Atoms.finite a) in
    let x = c.resume.new.self in
    let f = c.retry_line.new.self in
    let r = c.in-Answers in
    let b = Answers r.goal r.line r.next in
    let end = as_stopped c.retry_line.result in
    let taken = subst (IsTaken e.search x) r.is c.resume.ensures.taken in
    let y : Engine = record e { search = x } in
    let step = retried_end m n t u e x f b tt c.retry_line.ensures.holds view c.requires.ready c.requires.fails c.resume.ensures.kept end
    c.retry_line.ensures.whole (IfOk-weaker end (λ o. (k : Told) → IsGoneOn k y b n k f o) (IsGoneOn t y b n t f) (λ o h. h t) c.retry_line.ensures.gone) taken
    (λ q fails. sym (ap (back_result q x) r.is) ∙ c.resume.ensures.step q fails) in
    IfOk-weaker end (IsStepAfter m t e n u f) (λ o. f.solutions_found ≡ e.solutions_found) (λ o h. h.3) step

pub returns-in-Answers-clause-spent : goal.returns-in-Answers-clause-spent
returns-in-Answers-clause-spent g c =
    let e = c.args.self.now in
    let a = c.retry_line.new.atoms in
    let m = g.W.A.Atoms.held c.args.atoms.now in
    let n = g.W.A.Atoms.held a in
    let t = g.W.World.told c.args.world.now in
    let u = t in
    let view = view_is n u (g.met.W.A.Atoms.fixed_held a) (g.met.W.A.Atoms.unlike a) (g.met.W.A.Atoms.finite a) in
    let x = c.resume.new.self in
    let f = c.retry_line.new.self in
    let r = c.in-Answers in
    let b = Answers r.goal r.line r.next in
    let end = as_stopped c.retry_line.result in
    let taken = subst (IsTaken e.search x) r.is c.resume.ensures.taken in
    let y : Engine = record e { search = x } in
    let step = retried_end m n t u e x f b tt c.retry_line.ensures.holds view c.requires.ready c.requires.fails c.resume.ensures.kept end
    c.retry_line.ensures.whole (IfOk-weaker end (λ o. (k : Told) → IsGoneOn k y b n k f o) (IsGoneOn t y b n t f) (λ o h. h t) c.retry_line.ensures.gone) taken
    (λ q fails. sym (ap (back_result q x) r.is) ∙ c.resume.ensures.step q fails) in
    IfOk-weaker end (IsStepAfter m t e n u f) (λ o. IsSpent e.search.inferences f.search.inferences) (λ o h. h.2) step

pub returns-in-Answers-clause-ready : goal.returns-in-Answers-clause-ready
returns-in-Answers-clause-ready g c =
    let e = c.args.self.now in
    let a = c.retry_line.new.atoms in
    let m = g.W.A.Atoms.held c.args.atoms.now in
    let n = g.W.A.Atoms.held a in
    let t = g.W.World.told c.args.world.now in
    let u = t in
    let view = view_is n u (g.met.W.A.Atoms.fixed_held a) (g.met.W.A.Atoms.unlike a) (g.met.W.A.Atoms.finite a) in
    let x = c.resume.new.self in
    let f = c.retry_line.new.self in
    let r = c.in-Answers in
    let b = Answers r.goal r.line r.next in
    let end = as_stopped c.retry_line.result in
    let taken = subst (IsTaken e.search x) r.is c.resume.ensures.taken in
    let y : Engine = record e { search = x } in
    let step = retried_end m n t u e x f b tt c.retry_line.ensures.holds view c.requires.ready c.requires.fails c.resume.ensures.kept end
    c.retry_line.ensures.whole (IfOk-weaker end (λ o. (k : Told) → IsGoneOn k y b n k f o) (IsGoneOn t y b n t f) (λ o h. h t) c.retry_line.ensures.gone) taken
    (λ q fails. sym (ap (back_result q x) r.is) ∙ c.resume.ensures.step q fails) in
    IfOk-weaker end (IsStepAfter m t e n u f) (λ o. IsReady n u f) (λ o h. h.1) step

pub returns-in-Answers-clause-stepped : goal.returns-in-Answers-clause-stepped
returns-in-Answers-clause-stepped g c =
    let e = c.args.self.now in
    let a = c.retry_line.new.atoms in
    let m = g.W.A.Atoms.held c.args.atoms.now in
    let n = g.W.A.Atoms.held a in
    let t = g.W.World.told c.args.world.now in
    let u = t in
    let view = view_is n u (g.met.W.A.Atoms.fixed_held a) (g.met.W.A.Atoms.unlike a) (g.met.W.A.Atoms.finite a) in
    let x = c.resume.new.self in
    let f = c.retry_line.new.self in
    let r = c.in-Answers in
    let b = Answers r.goal r.line r.next in
    let end = as_stopped c.retry_line.result in
    let taken = subst (IsTaken e.search x) r.is c.resume.ensures.taken in
    let y : Engine = record e { search = x } in
    let step = retried_end m n t u e x f b tt c.retry_line.ensures.holds view c.requires.ready c.requires.fails c.resume.ensures.kept end
    c.retry_line.ensures.whole (IfOk-weaker end (λ o. (k : Told) → IsGoneOn k y b n k f o) (IsGoneOn t y b n t f) (λ o h. h t) c.retry_line.ensures.gone) taken
    (λ q fails. sym (ap (back_result q x) r.is) ∙ c.resume.ensures.step q fails) in
    IfOk-weaker end (IsStepAfter m t e n u f) (λ o. IsStepped m t e o n u f []) (λ o h. h.0) step

pub returns-in-Answers-clause-asked : goal.returns-in-Answers-clause-asked
returns-in-Answers-clause-asked g c =
    let e = c.args.self.now in
    let a = c.args.atoms.now in
    let x = c.resume.new.self in
    let r = c.in-Answers in
    line_asks_for (g.W.A.Atoms.held a) (g.W.World.told c.args.world.now) e x r.goal r.line r.next c.requires.fails
    (subst (IsTaken e.search x) r.is c.resume.ensures.taken) (g.W.A.Atoms.asked a) (g.W.A.Atoms.asked c.retry_line.new.atoms) c.retry_line.ensures.asked

pub returns-in-Told-clause-given : goal.returns-in-Told-clause-given
returns-in-Told-clause-given g c =
    let e = c.args.self.now in
    let a = c.args.atoms.now in
    let m = g.W.A.Atoms.held a in
    let n = m in
    let t = g.W.World.told c.args.world.now in
    let u = t in
    let view = view_is n u (g.met.W.A.Atoms.fixed_held a) (g.met.W.A.Atoms.unlike a) (g.met.W.A.Atoms.finite a) in
    let x = c.resume.new.self in
    let f = c.retry_told.new.self in
    let r = c.in-Told in
    let b = ToldBack r.goal r.lines r.line r.next in
    let end = as_stopped c.retry_told.result in
    let taken = subst (IsTaken e.search x) r.is c.resume.ensures.taken in
    let y : Engine = record e { search = x } in
    let step = retried_end m n t u e x f b tt (λ i y h. h) view c.requires.ready c.requires.fails c.resume.ensures.kept end
    c.retry_told.ensures.whole (IfOk-weaker end (λ o. (w : Names) (k : Told) → IsGoneOn k y b w k f o) (IsGoneOn t y b n t f) (λ o h. h n t) c.retry_told.ensures.gone) taken
    (λ q fails. sym (ap (back_result q x) r.is) ∙ c.resume.ensures.step q fails) in
    IfOk-weaker end (IsStepAfter m t e n u f) (λ o. f.solutions_found ≡ e.solutions_found) (λ o h. h.3) step

pub returns-in-Told-clause-spent : goal.returns-in-Told-clause-spent
returns-in-Told-clause-spent g c =
    let e = c.args.self.now in
    let a = c.args.atoms.now in
    let m = g.W.A.Atoms.held a in
    let n = m in
    let t = g.W.World.told c.args.world.now in
    let u = t in
    let view = view_is n u (g.met.W.A.Atoms.fixed_held a) (g.met.W.A.Atoms.unlike a) (g.met.W.A.Atoms.finite a) in
    let x = c.resume.new.self in
    let f = c.retry_told.new.self in
    let r = c.in-Told in
    let b = ToldBack r.goal r.lines r.line r.next in
    let end = as_stopped c.retry_told.result in
    let taken = subst (IsTaken e.search x) r.is c.resume.ensures.taken in
    let y : Engine = record e { search = x } in
    let step = retried_end m n t u e x f b tt (λ i y h. h) view c.requires.ready c.requires.fails c.resume.ensures.kept end
    c.retry_told.ensures.whole (IfOk-weaker end (λ o. (w : Names) (k : Told) → IsGoneOn k y b w k f o) (IsGoneOn t y b n t f) (λ o h. h n t) c.retry_told.ensures.gone) taken
    (λ q fails. sym (ap (back_result q x) r.is) ∙ c.resume.ensures.step q fails) in
    IfOk-weaker end (IsStepAfter m t e n u f) (λ o. IsSpent e.search.inferences f.search.inferences) (λ o h. h.2) step

pub returns-in-Told-clause-ready : goal.returns-in-Told-clause-ready
returns-in-Told-clause-ready g c =
    let e = c.args.self.now in
    let a = c.args.atoms.now in
    let m = g.W.A.Atoms.held a in
    let n = m in
    let t = g.W.World.told c.args.world.now in
    let u = t in
    let view = view_is n u (g.met.W.A.Atoms.fixed_held a) (g.met.W.A.Atoms.unlike a) (g.met.W.A.Atoms.finite a) in
    let x = c.resume.new.self in
    let f = c.retry_told.new.self in
    let r = c.in-Told in
    let b = ToldBack r.goal r.lines r.line r.next in
    let end = as_stopped c.retry_told.result in
    let taken = subst (IsTaken e.search x) r.is c.resume.ensures.taken in
    let y : Engine = record e { search = x } in
    let step = retried_end m n t u e x f b tt (λ i y h. h) view c.requires.ready c.requires.fails c.resume.ensures.kept end
    c.retry_told.ensures.whole (IfOk-weaker end (λ o. (w : Names) (k : Told) → IsGoneOn k y b w k f o) (IsGoneOn t y b n t f) (λ o h. h n t) c.retry_told.ensures.gone) taken
    (λ q fails. sym (ap (back_result q x) r.is) ∙ c.resume.ensures.step q fails) in
    IfOk-weaker end (IsStepAfter m t e n u f) (λ o. IsReady n u f) (λ o h. h.1) step

pub returns-in-Told-clause-stepped : goal.returns-in-Told-clause-stepped
returns-in-Told-clause-stepped g c =
    let e = c.args.self.now in
    let a = c.args.atoms.now in
    let m = g.W.A.Atoms.held a in
    let n = m in
    let t = g.W.World.told c.args.world.now in
    let u = t in
    let view = view_is n u (g.met.W.A.Atoms.fixed_held a) (g.met.W.A.Atoms.unlike a) (g.met.W.A.Atoms.finite a) in
    let x = c.resume.new.self in
    let f = c.retry_told.new.self in
    let r = c.in-Told in
    let b = ToldBack r.goal r.lines r.line r.next in
    let end = as_stopped c.retry_told.result in
    let taken = subst (IsTaken e.search x) r.is c.resume.ensures.taken in
    let y : Engine = record e { search = x } in
    let step = retried_end m n t u e x f b tt (λ i y h. h) view c.requires.ready c.requires.fails c.resume.ensures.kept end
    c.retry_told.ensures.whole (IfOk-weaker end (λ o. (w : Names) (k : Told) → IsGoneOn k y b w k f o) (IsGoneOn t y b n t f) (λ o h. h n t) c.retry_told.ensures.gone) taken
    (λ q fails. sym (ap (back_result q x) r.is) ∙ c.resume.ensures.step q fails) in
    IfOk-weaker end (IsStepAfter m t e n u f) (λ o. IsStepped m t e o n u f []) (λ o h. h.0) step

pub returns-in-Told-clause-asked : goal.returns-in-Told-clause-asked
returns-in-Told-clause-asked g c = let asked = g.W.A.Atoms.asked c.args.atoms.now in nothing_asked _ asked asked refl

pub returns-in-Exhausted-clause-ready : goal.returns-in-Exhausted-clause-ready
returns-in-Exhausted-clause-ready g c =
    let a = c.args.atoms.now in
    let m = g.W.A.Atoms.held a in
    let t = g.W.World.told c.args.world.now in
    let x = c.resume.new.self in
    let b = Exhausted in
    let after = failed_after m t c.args.self.now x (Ended NoMore) b (view_is m t (g.met.W.A.Atoms.fixed_held a) (g.met.W.A.Atoms.unlike a) (g.met.W.A.Atoms.finite a)) c.requires.ready
    c.requires.fails (ap (λ (s : Search). s.budgets) c.resume.ensures.kept) c.resume.ensures.whole
    (λ q h. sym (ap (back_result q x) c.in-Exhausted.is) ∙ c.resume.ensures.step q h) (λ y q. refl) in
    after.1

pub returns-in-Exhausted-clause-stepped : goal.returns-in-Exhausted-clause-stepped
returns-in-Exhausted-clause-stepped g c =
    let a = c.args.atoms.now in
    let m = g.W.A.Atoms.held a in
    let t = g.W.World.told c.args.world.now in
    let x = c.resume.new.self in
    let b = Exhausted in
    let after = failed_after m t c.args.self.now x (Ended NoMore) b (view_is m t (g.met.W.A.Atoms.fixed_held a) (g.met.W.A.Atoms.unlike a) (g.met.W.A.Atoms.finite a)) c.requires.ready
    c.requires.fails (ap (λ (s : Search). s.budgets) c.resume.ensures.kept) c.resume.ensures.whole
    (λ q h. sym (ap (back_result q x) c.in-Exhausted.is) ∙ c.resume.ensures.step q h) (λ y q. refl) in
    after.0

pub returns-in-Exhausted-clause-asked : goal.returns-in-Exhausted-clause-asked
returns-in-Exhausted-clause-asked g c = let asked = g.W.A.Atoms.asked c.args.atoms.now in nothing_asked _ asked asked refl

pub returns-in-Run-clause-ready : goal.returns-in-Run-clause-ready
returns-in-Run-clause-ready g c =
    let a = c.args.atoms.now in
    let m = g.W.A.Atoms.held a in
    let t = g.W.World.told c.args.world.now in
    let x = c.resume.new.self in
    let b = Run c.in-Run.list in
    let after = failed_after m t c.args.self.now x (Running c.in-Run.list) b (view_is m t (g.met.W.A.Atoms.fixed_held a) (g.met.W.A.Atoms.unlike a) (g.met.W.A.Atoms.finite a)) c.requires.ready
    c.requires.fails (ap (λ (s : Search). s.budgets) c.resume.ensures.kept) c.resume.ensures.whole
    (λ q h. sym (ap (back_result q x) c.in-Run.is) ∙ c.resume.ensures.step q h) (λ y q. refl) in
    after.1

pub returns-in-Run-clause-stepped : goal.returns-in-Run-clause-stepped
returns-in-Run-clause-stepped g c =
    let a = c.args.atoms.now in
    let m = g.W.A.Atoms.held a in
    let t = g.W.World.told c.args.world.now in
    let x = c.resume.new.self in
    let b = Run c.in-Run.list in
    let after = failed_after m t c.args.self.now x (Running c.in-Run.list) b (view_is m t (g.met.W.A.Atoms.fixed_held a) (g.met.W.A.Atoms.unlike a) (g.met.W.A.Atoms.finite a)) c.requires.ready
    c.requires.fails (ap (λ (s : Search). s.budgets) c.resume.ensures.kept) c.resume.ensures.whole
    (λ q h. sym (ap (back_result q x) c.in-Run.is) ∙ c.resume.ensures.step q h) (λ y q. refl) in
    after.0

pub returns-in-Run-clause-asked : goal.returns-in-Run-clause-asked
returns-in-Run-clause-asked g c = let asked = g.W.A.Atoms.asked c.args.atoms.now in nothing_asked _ asked asked refl

pub returns-in-Fail-clause-ready : goal.returns-in-Fail-clause-ready
returns-in-Fail-clause-ready g c =
    let a = c.args.atoms.now in
    let m = g.W.A.Atoms.held a in
    let t = g.W.World.told c.args.world.now in
    let x = c.resume.new.self in
    let b = Fail in
    let after = failed_after m t c.args.self.now x (Failing) b (view_is m t (g.met.W.A.Atoms.fixed_held a) (g.met.W.A.Atoms.unlike a) (g.met.W.A.Atoms.finite a)) c.requires.ready
    c.requires.fails (ap (λ (s : Search). s.budgets) c.resume.ensures.kept) c.resume.ensures.whole
    (λ q h. sym (ap (back_result q x) c.in-Fail.is) ∙ c.resume.ensures.step q h) (λ y q. refl) in
    after.1

pub returns-in-Fail-clause-stepped : goal.returns-in-Fail-clause-stepped
returns-in-Fail-clause-stepped g c =
    let a = c.args.atoms.now in
    let m = g.W.A.Atoms.held a in
    let t = g.W.World.told c.args.world.now in
    let x = c.resume.new.self in
    let b = Fail in
    let after = failed_after m t c.args.self.now x (Failing) b (view_is m t (g.met.W.A.Atoms.fixed_held a) (g.met.W.A.Atoms.unlike a) (g.met.W.A.Atoms.finite a)) c.requires.ready
    c.requires.fails (ap (λ (s : Search). s.budgets) c.resume.ensures.kept) c.resume.ensures.whole
    (λ q h. sym (ap (back_result q x) c.in-Fail.is) ∙ c.resume.ensures.step q h) (λ y q. refl) in
    after.0

pub returns-in-Fail-clause-asked : goal.returns-in-Fail-clause-asked
returns-in-Fail-clause-asked g c = let asked = g.W.A.Atoms.asked c.args.atoms.now in nothing_asked _ asked asked refl

pub returns-in-Told-clause-refusals : goal.returns-in-Told-clause-refusals
returns-in-Told-clause-refusals g c =
    let a = g.W.A.Atoms.refusals c.args.atoms.now in
    IfOk-weaker (as_stopped c.retry_told.result) (λ o. o ≡ None) (λ o. a ≡ a ++ stopped_refusals o)
    (λ o is. sym (append-nil a) ∙ ap (λ x. a ++ stopped_refusals x) (sym is)) c.retry_told.ensures.goes_on
