use Rattle.std.proofs.Common.{◌≡◌, [], inl, refl, ap, subst, sym}
use Rattle.world_api.specs.declared.visit.Procedure.{Procedure}
use Rattle.iso_search.specs.declared.outcome.Fault.TheVariants.{Inferences}
use Rattle.iso_search.specs.declared.outcome.Outcome.{Outcome}
use Rattle.iso_search.specs.declared.outcome.Outcome.TheVariants.{Raise}
use Rattle.iso_search.specs.declared.search.Search.{Search}
use Rattle.iso_engine.specs.Calling.{IsErrorBall}
use Rattle.iso_engine.specs.ClauseLooks.{IsLookDone, predicate_for}
use Rattle.iso_engine.specs.GoalSteps.{IsStepAlone}
use Rattle.iso_engine.specs.Ready.{IsReady}
use Rattle.iso_engine.specs.Slices.{IsStepped}
use Rattle.iso_engine.specs.Spending.{IsSpent}
use Rattle.iso_engine.specs.declared.doing.Doing.TheVariants.{Throwing}
use Rattle.iso_engine.specs.declared.engine.Engine.{Engine}
use Rattle.iso_engine.specs.declared.call.called.Called.{Called}
use Rattle.iso_engine.proofs.LookGoals.{look_procedure}
use Rattle.iso_engine.proofs.GoalsMoved.{goal_names, step_asks_for, ran_moved, refused_moved}
use Rattle.iso_engine.proofs.Refusals.{at_exit, refused_end, refused_list, refused_step, unless_memory}
use Rattle.iso_engine.proofs.RowTaken.{IsFollowedAs}
use Rattle.iso_engine.proofs.Solutions.{view_is}
use Rattle.iso_engine.proofs.TakenBack.{called_back}
use Rattle.iso_engine.proofs.engine.Engine.look.Goals as goal

pub look_goal-requires-clause-held : goal.look_goal-requires-clause-held
look_goal-requires-clause-held g c =
    let e = c.args.self.now in
    let a = c.args.atoms.now in
    let l = c.requires.list in
    goal_names (g.W.A.Atoms.held a) (g.W.World.told c.args.world.now) e c.args.goal.now.place l.0 l.1 c.args.rest l.2 l.3 c.requires.ready (g.met.W.A.Atoms.fixed_held a)
    (g.met.W.A.Atoms.unlike a) (g.met.W.A.Atoms.finite a)

pub returns-in_ok-self-in-Ran-clause-stepped : goal.returns-in_ok-self-in-Ran-clause-stepped
returns-in_ok-self-in-Ran-clause-stepped g c =
    let e = c.args.self.now in
    let a = c.look_goal.new.atoms in
    let m = g.W.A.Atoms.held c.args.atoms.now in
    let n = g.W.A.Atoms.held a in
    let t = g.W.World.told c.args.world.now in
    let u = g.W.World.told c.look_goal.new.world in
    let s = c.look_goal.new.search in
    let view = view_is n u (g.met.W.A.Atoms.fixed_held a) (g.met.W.A.Atoms.unlike a) (g.met.W.A.Atoms.finite a) in
    let l = c.requires.list in
    let k = c.in_ok-called.ensures in
    let f : Engine = record e { search = s; doing = c.in_ok-self-in-Ran.field-0 } in
    let o = c.in-Ran.outcome in
    let led = subst (IsLookDone t e.search c.args.goal.now c.args.rest n u s) c.in-Ran.is k.looked in
    let moved = ran_moved m n t u e f c.args.goal.now.place (predicate_for c.args.goal.now.look) l.0 l.1 c.args.rest l.2 l.3 c.requires.rest (look_procedure e.search.store c.args.goal.now c.requires.looks) c.look_goal.ensures.holds view c.requires.ready
    refl refl k.whole o led (subst (λ (p : Procedure). IsFollowedAs f c.args.rest p o) c.procedure-procedure.ensures c.in_ok-self-in-Ran.ensures) in
    moved.0

pub returns-in_ok-self-in-Ran-clause-ready : goal.returns-in_ok-self-in-Ran-clause-ready
returns-in_ok-self-in-Ran-clause-ready g c =
    let e = c.args.self.now in
    let a = c.look_goal.new.atoms in
    let m = g.W.A.Atoms.held c.args.atoms.now in
    let n = g.W.A.Atoms.held a in
    let t = g.W.World.told c.args.world.now in
    let u = g.W.World.told c.look_goal.new.world in
    let s = c.look_goal.new.search in
    let view = view_is n u (g.met.W.A.Atoms.fixed_held a) (g.met.W.A.Atoms.unlike a) (g.met.W.A.Atoms.finite a) in
    let l = c.requires.list in
    let k = c.in_ok-called.ensures in
    let f : Engine = record e { search = s; doing = c.in_ok-self-in-Ran.field-0 } in
    let o = c.in-Ran.outcome in
    let led = subst (IsLookDone t e.search c.args.goal.now c.args.rest n u s) c.in-Ran.is k.looked in
    let moved = ran_moved m n t u e f c.args.goal.now.place (predicate_for c.args.goal.now.look) l.0 l.1 c.args.rest l.2 l.3 c.requires.rest (look_procedure e.search.store c.args.goal.now c.requires.looks) c.look_goal.ensures.holds view c.requires.ready
    refl refl k.whole o led (subst (λ (p : Procedure). IsFollowedAs f c.args.rest p o) c.procedure-procedure.ensures c.in_ok-self-in-Ran.ensures) in
    moved.1

pub returns-in_ok-self-in-Ran-clause-spent : goal.returns-in_ok-self-in-Ran-clause-spent
returns-in_ok-self-in-Ran-clause-spent g c =
    let e = c.args.self.now in
    let a = c.look_goal.new.atoms in
    let m = g.W.A.Atoms.held c.args.atoms.now in
    let n = g.W.A.Atoms.held a in
    let t = g.W.World.told c.args.world.now in
    let u = g.W.World.told c.look_goal.new.world in
    let s = c.look_goal.new.search in
    let view = view_is n u (g.met.W.A.Atoms.fixed_held a) (g.met.W.A.Atoms.unlike a) (g.met.W.A.Atoms.finite a) in
    let l = c.requires.list in
    let k = c.in_ok-called.ensures in
    let f : Engine = record e { search = s; doing = c.in_ok-self-in-Ran.field-0 } in
    let o = c.in-Ran.outcome in
    let led = subst (IsLookDone t e.search c.args.goal.now c.args.rest n u s) c.in-Ran.is k.looked in
    let moved = ran_moved m n t u e f c.args.goal.now.place (predicate_for c.args.goal.now.look) l.0 l.1 c.args.rest l.2 l.3 c.requires.rest (look_procedure e.search.store c.args.goal.now c.requires.looks) c.look_goal.ensures.holds view c.requires.ready
    refl refl k.whole o led (subst (λ (p : Procedure). IsFollowedAs f c.args.rest p o) c.procedure-procedure.ensures c.in_ok-self-in-Ran.ensures) in
    moved.2

pub returns-in_ok-self-in-Spent-clause-stepped : goal.returns-in_ok-self-in-Spent-clause-stepped
returns-in_ok-self-in-Spent-clause-stepped g c =
    let e = c.args.self.now in
    let a = c.look_goal.new.atoms in
    let m = g.W.A.Atoms.held c.args.atoms.now in
    let n = g.W.A.Atoms.held a in
    let t = g.W.World.told c.args.world.now in
    let u = g.W.World.told c.look_goal.new.world in
    let s = c.look_goal.new.search in
    let view = view_is n u (g.met.W.A.Atoms.fixed_held a) (g.met.W.A.Atoms.unlike a) (g.met.W.A.Atoms.finite a) in
    let l = c.requires.list in
    let k = c.in_ok-called.ensures in
    let f : Engine = record e { search = s; doing = c.in_ok-self-in-Spent.field-0 } in
    let o : Outcome = Raise Inferences in
    let led = subst (IsLookDone t e.search c.args.goal.now c.args.rest n u s) c.in-Spent.is k.looked in
    let alone = subst (λ (y : Search). IsStepAlone n e.search c.args.goal.now.place c.args.rest y o) (sym led.1.0) led.1.1 in
    let moved = ran_moved m n t u e f c.args.goal.now.place (predicate_for c.args.goal.now.look) l.0 l.1 c.args.rest l.2 l.3 c.requires.rest (look_procedure e.search.store c.args.goal.now c.requires.looks) c.look_goal.ensures.holds view c.requires.ready
    refl refl k.whole o (inl (led.0, alone)) (subst (λ (p : Procedure). IsFollowedAs f c.args.rest p o) c.procedure-procedure.ensures c.in_ok-self-in-Spent.ensures) in
    moved.0

pub returns-in_ok-self-in-Spent-clause-ready : goal.returns-in_ok-self-in-Spent-clause-ready
returns-in_ok-self-in-Spent-clause-ready g c =
    let e = c.args.self.now in
    let a = c.look_goal.new.atoms in
    let m = g.W.A.Atoms.held c.args.atoms.now in
    let n = g.W.A.Atoms.held a in
    let t = g.W.World.told c.args.world.now in
    let u = g.W.World.told c.look_goal.new.world in
    let s = c.look_goal.new.search in
    let view = view_is n u (g.met.W.A.Atoms.fixed_held a) (g.met.W.A.Atoms.unlike a) (g.met.W.A.Atoms.finite a) in
    let l = c.requires.list in
    let k = c.in_ok-called.ensures in
    let f : Engine = record e { search = s; doing = c.in_ok-self-in-Spent.field-0 } in
    let o : Outcome = Raise Inferences in
    let led = subst (IsLookDone t e.search c.args.goal.now c.args.rest n u s) c.in-Spent.is k.looked in
    let alone = subst (λ (y : Search). IsStepAlone n e.search c.args.goal.now.place c.args.rest y o) (sym led.1.0) led.1.1 in
    let moved = ran_moved m n t u e f c.args.goal.now.place (predicate_for c.args.goal.now.look) l.0 l.1 c.args.rest l.2 l.3 c.requires.rest (look_procedure e.search.store c.args.goal.now c.requires.looks) c.look_goal.ensures.holds view c.requires.ready
    refl refl k.whole o (inl (led.0, alone)) (subst (λ (p : Procedure). IsFollowedAs f c.args.rest p o) c.procedure-procedure.ensures c.in_ok-self-in-Spent.ensures) in
    moved.1

pub returns-in_ok-self-in-Spent-clause-spent : goal.returns-in_ok-self-in-Spent-clause-spent
returns-in_ok-self-in-Spent-clause-spent g c =
    let e = c.args.self.now in
    let a = c.look_goal.new.atoms in
    let m = g.W.A.Atoms.held c.args.atoms.now in
    let n = g.W.A.Atoms.held a in
    let t = g.W.World.told c.args.world.now in
    let u = g.W.World.told c.look_goal.new.world in
    let s = c.look_goal.new.search in
    let view = view_is n u (g.met.W.A.Atoms.fixed_held a) (g.met.W.A.Atoms.unlike a) (g.met.W.A.Atoms.finite a) in
    let l = c.requires.list in
    let k = c.in_ok-called.ensures in
    let f : Engine = record e { search = s; doing = c.in_ok-self-in-Spent.field-0 } in
    let o : Outcome = Raise Inferences in
    let led = subst (IsLookDone t e.search c.args.goal.now c.args.rest n u s) c.in-Spent.is k.looked in
    let alone = subst (λ (y : Search). IsStepAlone n e.search c.args.goal.now.place c.args.rest y o) (sym led.1.0) led.1.1 in
    let moved = ran_moved m n t u e f c.args.goal.now.place (predicate_for c.args.goal.now.look) l.0 l.1 c.args.rest l.2 l.3 c.requires.rest (look_procedure e.search.store c.args.goal.now c.requires.looks) c.look_goal.ensures.holds view c.requires.ready
    refl refl k.whole o (inl (led.0, alone)) (subst (λ (p : Procedure). IsFollowedAs f c.args.rest p o) c.procedure-procedure.ensures c.in_ok-self-in-Spent.ensures) in
    moved.2

pub returns-in_ok-ball-in-Refused-clause-stepped : goal.returns-in_ok-ball-in-Refused-clause-stepped
returns-in_ok-ball-in-Refused-clause-stepped g c =
    let e = c.args.self.now in
    let a = c.look_goal.new.atoms in
    let m = g.W.A.Atoms.held c.args.atoms.now in
    let n = g.W.A.Atoms.held a in
    let t = g.W.World.told c.args.world.now in
    let u = g.W.World.told c.look_goal.new.world in
    let s = c.look_goal.new.search in
    let view = view_is n u (g.met.W.A.Atoms.fixed_held a) (g.met.W.A.Atoms.unlike a) (g.met.W.A.Atoms.finite a) in
    let l = c.requires.list in
    let k = c.in_ok-called.ensures in
    let b = c.in_ok-ball-in-Refused in
    let f : Engine = record e { search = s; doing = Throwing b.ball c.args.rest } in
    let r = subst (IsLookDone t e.search c.args.goal.now c.args.rest n u s) c.in-Refused.is k.looked in
    let moved = refused_moved m n t u e f c.args.goal.now.place (predicate_for c.args.goal.now.look) l.0 l.1 c.args.rest l.2 l.3 c.requires.rest (look_procedure e.search.store c.args.goal.now c.requires.looks) c.look_goal.ensures.holds view c.requires.ready
    refl refl k.whole c.in-Refused.error b.ball r.0 r.1.0 r.1.1.0 r.1.1.1 b.ensures.over (subst (λ (p : Procedure). IsErrorBall c.in-Refused.error p b.ball) c.procedure-procedure.ensures b.ensures.ball) refl in
    moved.0

pub returns-in_ok-ball-in-Refused-clause-ready : goal.returns-in_ok-ball-in-Refused-clause-ready
returns-in_ok-ball-in-Refused-clause-ready g c =
    let e = c.args.self.now in
    let a = c.look_goal.new.atoms in
    let m = g.W.A.Atoms.held c.args.atoms.now in
    let n = g.W.A.Atoms.held a in
    let t = g.W.World.told c.args.world.now in
    let u = g.W.World.told c.look_goal.new.world in
    let s = c.look_goal.new.search in
    let view = view_is n u (g.met.W.A.Atoms.fixed_held a) (g.met.W.A.Atoms.unlike a) (g.met.W.A.Atoms.finite a) in
    let l = c.requires.list in
    let k = c.in_ok-called.ensures in
    let b = c.in_ok-ball-in-Refused in
    let f : Engine = record e { search = s; doing = Throwing b.ball c.args.rest } in
    let r = subst (IsLookDone t e.search c.args.goal.now c.args.rest n u s) c.in-Refused.is k.looked in
    let moved = refused_moved m n t u e f c.args.goal.now.place (predicate_for c.args.goal.now.look) l.0 l.1 c.args.rest l.2 l.3 c.requires.rest (look_procedure e.search.store c.args.goal.now c.requires.looks) c.look_goal.ensures.holds view c.requires.ready
    refl refl k.whole c.in-Refused.error b.ball r.0 r.1.0 r.1.1.0 r.1.1.1 b.ensures.over (subst (λ (p : Procedure). IsErrorBall c.in-Refused.error p b.ball) c.procedure-procedure.ensures b.ensures.ball) refl in
    moved.1

pub returns-in_ok-ball-in-Refused-clause-spent : goal.returns-in_ok-ball-in-Refused-clause-spent
returns-in_ok-ball-in-Refused-clause-spent g c =
    let e = c.args.self.now in
    let a = c.look_goal.new.atoms in
    let m = g.W.A.Atoms.held c.args.atoms.now in
    let n = g.W.A.Atoms.held a in
    let t = g.W.World.told c.args.world.now in
    let u = g.W.World.told c.look_goal.new.world in
    let s = c.look_goal.new.search in
    let view = view_is n u (g.met.W.A.Atoms.fixed_held a) (g.met.W.A.Atoms.unlike a) (g.met.W.A.Atoms.finite a) in
    let l = c.requires.list in
    let k = c.in_ok-called.ensures in
    let b = c.in_ok-ball-in-Refused in
    let f : Engine = record e { search = s; doing = Throwing b.ball c.args.rest } in
    let r = subst (IsLookDone t e.search c.args.goal.now c.args.rest n u s) c.in-Refused.is k.looked in
    let moved = refused_moved m n t u e f c.args.goal.now.place (predicate_for c.args.goal.now.look) l.0 l.1 c.args.rest l.2 l.3 c.requires.rest (look_procedure e.search.store c.args.goal.now c.requires.looks) c.look_goal.ensures.holds view c.requires.ready
    refl refl k.whole c.in-Refused.error b.ball r.0 r.1.0 r.1.1.0 r.1.1.1 b.ensures.over (subst (λ (p : Procedure). IsErrorBall c.in-Refused.error p b.ball) c.procedure-procedure.ensures b.ensures.ball) refl in
    moved.2

pub returns-in_err-called-clause-ready : goal.returns-in_err-called-clause-ready
returns-in_err-called-clause-ready g c =
    let e = c.args.self.now in
    let a = c.look_goal.new.atoms in
    let m = g.W.A.Atoms.held c.args.atoms.now in
    let n = g.W.A.Atoms.held a in
    let t = g.W.World.told c.args.world.now in
    let u = g.W.World.told c.look_goal.new.world in
    let s = c.look_goal.new.search in
    let view = view_is n u (g.met.W.A.Atoms.fixed_held a) (g.met.W.A.Atoms.unlike a) (g.met.W.A.Atoms.finite a) in
    let l = c.requires.list in
    let f : Engine = record e { search = s } in
    let w = c.in_err-called.field-0.0 in
    let exit = at_exit c.from_residual.result w c.from_residual.ensures.1 in
    refused_end Called c.from_residual.result w exit ((u ≡ t) × (s ≡ e.search)) (λ o. IsReady n u f) c.in_err-called.ensures.taken_back
    (λ w again back. (called_back m n t u e f c.look_goal.ensures.holds view c.requires.ready back.0 (ap (λ (y : Search). let z : Engine = record e { search = y } in z) back.1)).1)

pub returns-in_err-called-clause-stepped : goal.returns-in_err-called-clause-stepped
returns-in_err-called-clause-stepped g c =
    let e = c.args.self.now in
    let a = c.look_goal.new.atoms in
    let m = g.W.A.Atoms.held c.args.atoms.now in
    let n = g.W.A.Atoms.held a in
    let t = g.W.World.told c.args.world.now in
    let u = g.W.World.told c.look_goal.new.world in
    let s = c.look_goal.new.search in
    let view = view_is n u (g.met.W.A.Atoms.fixed_held a) (g.met.W.A.Atoms.unlike a) (g.met.W.A.Atoms.finite a) in
    let l = c.requires.list in
    let f : Engine = record e { search = s } in
    let w = c.in_err-called.field-0.0 in
    let exit = at_exit c.from_residual.result w c.from_residual.ensures.1 in
    refused_end Called c.from_residual.result w exit ((u ≡ t) × (s ≡ e.search)) (λ o. IsStepped m t e o n u f []) c.in_err-called.ensures.taken_back
    (λ w again back. refused_step m t e n u f w again (called_back m n t u e f c.look_goal.ensures.holds view c.requires.ready back.0 (ap (λ (y : Search). let z : Engine = record e { search = y } in z) back.1)).0)

pub returns-in_err-called-clause-spent : goal.returns-in_err-called-clause-spent
returns-in_err-called-clause-spent g c =
    let e = c.args.self.now in
    let a = c.look_goal.new.atoms in
    let m = g.W.A.Atoms.held c.args.atoms.now in
    let n = g.W.A.Atoms.held a in
    let t = g.W.World.told c.args.world.now in
    let u = g.W.World.told c.look_goal.new.world in
    let s = c.look_goal.new.search in
    let view = view_is n u (g.met.W.A.Atoms.fixed_held a) (g.met.W.A.Atoms.unlike a) (g.met.W.A.Atoms.finite a) in
    let l = c.requires.list in
    let f : Engine = record e { search = s } in
    let w = c.in_err-called.field-0.0 in
    let exit = at_exit c.from_residual.result w c.from_residual.ensures.1 in
    refused_end Called c.from_residual.result w exit ((u ≡ t) × (s ≡ e.search)) (λ o. IsSpent e.search.inferences s.inferences) c.in_err-called.ensures.taken_back
    (λ w again back. inl (ap (λ (y : Search). y.inferences) back.1))

pub returns-in_err-called-clause-refusals : goal.returns-in_err-called-clause-refusals
returns-in_err-called-clause-refusals g c =
    let w = c.in_err-called.field-0.0 in
    refused_list Called c.from_residual.result w (at_exit c.from_residual.result w c.from_residual.ensures.1) (g.W.A.Atoms.refusals c.args.atoms.now)
    (g.W.A.Atoms.refusals c.look_goal.new.atoms) (unless_memory Called w c.in_err-called.ensures.refusals)

pub returns-in_err-called-clause-asked : goal.returns-in_err-called-clause-asked
returns-in_err-called-clause-asked g c =
    let a = c.args.atoms.now in
    let m = g.W.A.Atoms.held a in
    let t = g.W.World.told c.args.world.now in
    let view = view_is m t (g.met.W.A.Atoms.fixed_held a) (g.met.W.A.Atoms.unlike a) (g.met.W.A.Atoms.finite a) in
    let l = c.requires.list in
    step_asks_for m t c.args.self.now c.args.goal.now.place l.0 l.1 c.args.rest l.2 l.3 view (g.W.A.Atoms.asked a) (g.W.A.Atoms.asked c.look_goal.new.atoms) c.look_goal.ensures.asks

pub returns-in_err-self-in-Ran-clause-asked : goal.returns-in_err-self-in-Ran-clause-asked
returns-in_err-self-in-Ran-clause-asked g c =
    let a = c.args.atoms.now in
    let m = g.W.A.Atoms.held a in
    let t = g.W.World.told c.args.world.now in
    let view = view_is m t (g.met.W.A.Atoms.fixed_held a) (g.met.W.A.Atoms.unlike a) (g.met.W.A.Atoms.finite a) in
    let l = c.requires.list in
    step_asks_for m t c.args.self.now c.args.goal.now.place l.0 l.1 c.args.rest l.2 l.3 view (g.W.A.Atoms.asked a) (g.W.A.Atoms.asked c.look_goal.new.atoms) c.look_goal.ensures.asks

pub returns-in_ok-self-in-Ran-clause-asked : goal.returns-in_ok-self-in-Ran-clause-asked
returns-in_ok-self-in-Ran-clause-asked g c =
    let a = c.args.atoms.now in
    let m = g.W.A.Atoms.held a in
    let t = g.W.World.told c.args.world.now in
    let view = view_is m t (g.met.W.A.Atoms.fixed_held a) (g.met.W.A.Atoms.unlike a) (g.met.W.A.Atoms.finite a) in
    let l = c.requires.list in
    step_asks_for m t c.args.self.now c.args.goal.now.place l.0 l.1 c.args.rest l.2 l.3 view (g.W.A.Atoms.asked a) (g.W.A.Atoms.asked c.look_goal.new.atoms) c.look_goal.ensures.asks

pub returns-in_err-self-in-Spent-clause-asked : goal.returns-in_err-self-in-Spent-clause-asked
returns-in_err-self-in-Spent-clause-asked g c =
    let a = c.args.atoms.now in
    let m = g.W.A.Atoms.held a in
    let t = g.W.World.told c.args.world.now in
    let view = view_is m t (g.met.W.A.Atoms.fixed_held a) (g.met.W.A.Atoms.unlike a) (g.met.W.A.Atoms.finite a) in
    let l = c.requires.list in
    step_asks_for m t c.args.self.now c.args.goal.now.place l.0 l.1 c.args.rest l.2 l.3 view (g.W.A.Atoms.asked a) (g.W.A.Atoms.asked c.look_goal.new.atoms) c.look_goal.ensures.asks

pub returns-in_ok-self-in-Spent-clause-asked : goal.returns-in_ok-self-in-Spent-clause-asked
returns-in_ok-self-in-Spent-clause-asked g c =
    let a = c.args.atoms.now in
    let m = g.W.A.Atoms.held a in
    let t = g.W.World.told c.args.world.now in
    let view = view_is m t (g.met.W.A.Atoms.fixed_held a) (g.met.W.A.Atoms.unlike a) (g.met.W.A.Atoms.finite a) in
    let l = c.requires.list in
    step_asks_for m t c.args.self.now c.args.goal.now.place l.0 l.1 c.args.rest l.2 l.3 view (g.W.A.Atoms.asked a) (g.W.A.Atoms.asked c.look_goal.new.atoms) c.look_goal.ensures.asks

pub returns-in_err-ball-in-Refused-clause-asked : goal.returns-in_err-ball-in-Refused-clause-asked
returns-in_err-ball-in-Refused-clause-asked g c =
    let a = c.args.atoms.now in
    let m = g.W.A.Atoms.held a in
    let t = g.W.World.told c.args.world.now in
    let view = view_is m t (g.met.W.A.Atoms.fixed_held a) (g.met.W.A.Atoms.unlike a) (g.met.W.A.Atoms.finite a) in
    let l = c.requires.list in
    step_asks_for m t c.args.self.now c.args.goal.now.place l.0 l.1 c.args.rest l.2 l.3 view (g.W.A.Atoms.asked a) (g.W.A.Atoms.asked c.look_goal.new.atoms) c.look_goal.ensures.asks

pub returns-in_ok-ball-in-Refused-clause-asked : goal.returns-in_ok-ball-in-Refused-clause-asked
returns-in_ok-ball-in-Refused-clause-asked g c =
    let a = c.args.atoms.now in
    let m = g.W.A.Atoms.held a in
    let t = g.W.World.told c.args.world.now in
    let view = view_is m t (g.met.W.A.Atoms.fixed_held a) (g.met.W.A.Atoms.unlike a) (g.met.W.A.Atoms.finite a) in
    let l = c.requires.list in
    step_asks_for m t c.args.self.now c.args.goal.now.place l.0 l.1 c.args.rest l.2 l.3 view (g.W.A.Atoms.asked a) (g.W.A.Atoms.asked c.look_goal.new.atoms) c.look_goal.ensures.asks
