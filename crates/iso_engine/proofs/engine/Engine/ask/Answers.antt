use Rattle.std.proofs.Common.{◌≡◌, [], inl, refl, ap, subst}
use Rattle.world_api.specs.declared.visit.Procedure.{Procedure}
use Rattle.iso_search.specs.declared.search.Search.{Search}
use Rattle.iso_engine.specs.Calling.{IsErrorBall}
use Rattle.iso_engine.specs.Ready.{IsReady}
use Rattle.iso_engine.specs.Slices.{IsStepped}
use Rattle.iso_engine.specs.Spending.{IsSpent}
use Rattle.iso_engine.specs.State.{IsGoalAsked}
use Rattle.iso_engine.specs.declared.doing.Doing.TheVariants.{Throwing}
use Rattle.iso_engine.specs.declared.engine.Engine.{Engine}
use Rattle.iso_engine.specs.declared.state.asked.Asked.{Asked}
use Rattle.iso_engine.proofs.Refusals.{at_exit, refused_end, refused_list, refused_step, unless_memory}
use Rattle.iso_engine.proofs.RowTaken.{IsFollowedAs}
use Rattle.iso_engine.proofs.Solutions.{view_is}
use Rattle.iso_engine.proofs.StateMoved.{goal_names, held_up_ready, held_up_spent, held_up_stepped, ran_moved, refused_moved, state_asks_for}
use Rattle.iso_engine.proofs.TakenBack.{called_back}
use Rattle.iso_engine.proofs.engine.Engine.ask.Goals as goal

pub ask_goal-requires-clause-held : goal.ask_goal-requires-clause-held
ask_goal-requires-clause-held g c =
    let e = c.args.self.now in
    let a = c.args.atoms.now in
    let l = c.requires.list in
    goal_names (g.W.A.Atoms.held a) (g.W.World.told c.args.world.now) e c.args.goal.now l.0 l.1 c.args.rest l.2 l.3 c.requires.ready (g.met.W.A.Atoms.fixed_held a)
    (g.met.W.A.Atoms.unlike a) (g.met.W.A.Atoms.finite a)

pub returns-in_ok-self-in-Ran-clause-ready : goal.returns-in_ok-self-in-Ran-clause-ready
returns-in_ok-self-in-Ran-clause-ready g c =
    let e = c.args.self.now in
    let a = c.ask_goal.new.atoms in
    let m = g.W.A.Atoms.held c.args.atoms.now in
    let n = g.W.A.Atoms.held a in
    let t = g.W.World.told c.args.world.now in
    let u = g.W.World.told c.ask_goal.new.world in
    let s = c.ask_goal.new.search in
    let view = view_is n u (g.met.W.A.Atoms.fixed_held a) (g.met.W.A.Atoms.unlike a) (g.met.W.A.Atoms.finite a) in
    let l = c.requires.list in
    let k = c.in_ok-asked.ensures in
    let f : Engine = record e { search = s; doing = c.in_ok-self-in-Ran.field-0 } in
    let o = c.in-Ran.outcome in
    let led = subst (IsGoalAsked t e.search c.args.goal.now c.args.rest n u s) c.in-Ran.is k.asked in
    let moved = ran_moved m n t u e f c.args.goal.now l.0 l.1 c.args.rest l.2 l.3 c.requires.rest c.requires.state c.ask_goal.ensures.holds view c.requires.ready
    refl refl k.whole o led (subst (λ (p : Procedure). IsFollowedAs f c.args.rest p o) c.procedure.ensures c.in_ok-self-in-Ran.ensures) in
    moved.1

pub returns-in_ok-self-in-Ran-clause-stepped : goal.returns-in_ok-self-in-Ran-clause-stepped
returns-in_ok-self-in-Ran-clause-stepped g c =
    let e = c.args.self.now in
    let a = c.ask_goal.new.atoms in
    let m = g.W.A.Atoms.held c.args.atoms.now in
    let n = g.W.A.Atoms.held a in
    let t = g.W.World.told c.args.world.now in
    let u = g.W.World.told c.ask_goal.new.world in
    let s = c.ask_goal.new.search in
    let view = view_is n u (g.met.W.A.Atoms.fixed_held a) (g.met.W.A.Atoms.unlike a) (g.met.W.A.Atoms.finite a) in
    let l = c.requires.list in
    let k = c.in_ok-asked.ensures in
    let f : Engine = record e { search = s; doing = c.in_ok-self-in-Ran.field-0 } in
    let o = c.in-Ran.outcome in
    let led = subst (IsGoalAsked t e.search c.args.goal.now c.args.rest n u s) c.in-Ran.is k.asked in
    let moved = ran_moved m n t u e f c.args.goal.now l.0 l.1 c.args.rest l.2 l.3 c.requires.rest c.requires.state c.ask_goal.ensures.holds view c.requires.ready
    refl refl k.whole o led (subst (λ (p : Procedure). IsFollowedAs f c.args.rest p o) c.procedure.ensures c.in_ok-self-in-Ran.ensures) in
    moved.0

pub returns-in_ok-self-in-Ran-clause-spent : goal.returns-in_ok-self-in-Ran-clause-spent
returns-in_ok-self-in-Ran-clause-spent g c =
    let e = c.args.self.now in
    let a = c.ask_goal.new.atoms in
    let m = g.W.A.Atoms.held c.args.atoms.now in
    let n = g.W.A.Atoms.held a in
    let t = g.W.World.told c.args.world.now in
    let u = g.W.World.told c.ask_goal.new.world in
    let s = c.ask_goal.new.search in
    let view = view_is n u (g.met.W.A.Atoms.fixed_held a) (g.met.W.A.Atoms.unlike a) (g.met.W.A.Atoms.finite a) in
    let l = c.requires.list in
    let k = c.in_ok-asked.ensures in
    let f : Engine = record e { search = s; doing = c.in_ok-self-in-Ran.field-0 } in
    let o = c.in-Ran.outcome in
    let led = subst (IsGoalAsked t e.search c.args.goal.now c.args.rest n u s) c.in-Ran.is k.asked in
    let moved = ran_moved m n t u e f c.args.goal.now l.0 l.1 c.args.rest l.2 l.3 c.requires.rest c.requires.state c.ask_goal.ensures.holds view c.requires.ready
    refl refl k.whole o led (subst (λ (p : Procedure). IsFollowedAs f c.args.rest p o) c.procedure.ensures c.in_ok-self-in-Ran.ensures) in
    moved.2

pub returns-in_ok-ball-in-Refused-clause-ready : goal.returns-in_ok-ball-in-Refused-clause-ready
returns-in_ok-ball-in-Refused-clause-ready g c =
    let e = c.args.self.now in
    let a = c.ask_goal.new.atoms in
    let m = g.W.A.Atoms.held c.args.atoms.now in
    let n = g.W.A.Atoms.held a in
    let t = g.W.World.told c.args.world.now in
    let u = g.W.World.told c.ask_goal.new.world in
    let s = c.ask_goal.new.search in
    let view = view_is n u (g.met.W.A.Atoms.fixed_held a) (g.met.W.A.Atoms.unlike a) (g.met.W.A.Atoms.finite a) in
    let l = c.requires.list in
    let k = c.in_ok-asked.ensures in
    let b = c.in_ok-ball-in-Refused in
    let f : Engine = record e { search = s; doing = Throwing b.ball c.args.rest } in
    let r = subst (IsGoalAsked t e.search c.args.goal.now c.args.rest n u s) c.in-Refused.is k.asked in
    let moved = refused_moved m n t u e f c.args.goal.now l.0 l.1 c.args.rest l.2 l.3 c.requires.rest c.requires.state c.ask_goal.ensures.holds view c.requires.ready
    refl refl k.whole c.in-Refused.error b.ball r.0 r.1 r.2 b.ensures.over (subst (λ (p : Procedure). IsErrorBall c.in-Refused.error p b.ball) c.procedure-in-Refused.ensures b.ensures.ball) refl in
    moved.1

pub returns-in_ok-ball-in-Refused-clause-stepped : goal.returns-in_ok-ball-in-Refused-clause-stepped
returns-in_ok-ball-in-Refused-clause-stepped g c =
    let e = c.args.self.now in
    let a = c.ask_goal.new.atoms in
    let m = g.W.A.Atoms.held c.args.atoms.now in
    let n = g.W.A.Atoms.held a in
    let t = g.W.World.told c.args.world.now in
    let u = g.W.World.told c.ask_goal.new.world in
    let s = c.ask_goal.new.search in
    let view = view_is n u (g.met.W.A.Atoms.fixed_held a) (g.met.W.A.Atoms.unlike a) (g.met.W.A.Atoms.finite a) in
    let l = c.requires.list in
    let k = c.in_ok-asked.ensures in
    let b = c.in_ok-ball-in-Refused in
    let f : Engine = record e { search = s; doing = Throwing b.ball c.args.rest } in
    let r = subst (IsGoalAsked t e.search c.args.goal.now c.args.rest n u s) c.in-Refused.is k.asked in
    let moved = refused_moved m n t u e f c.args.goal.now l.0 l.1 c.args.rest l.2 l.3 c.requires.rest c.requires.state c.ask_goal.ensures.holds view c.requires.ready
    refl refl k.whole c.in-Refused.error b.ball r.0 r.1 r.2 b.ensures.over (subst (λ (p : Procedure). IsErrorBall c.in-Refused.error p b.ball) c.procedure-in-Refused.ensures b.ensures.ball) refl in
    moved.0

pub returns-in_ok-ball-in-Refused-clause-spent : goal.returns-in_ok-ball-in-Refused-clause-spent
returns-in_ok-ball-in-Refused-clause-spent g c =
    let e = c.args.self.now in
    let a = c.ask_goal.new.atoms in
    let m = g.W.A.Atoms.held c.args.atoms.now in
    let n = g.W.A.Atoms.held a in
    let t = g.W.World.told c.args.world.now in
    let u = g.W.World.told c.ask_goal.new.world in
    let s = c.ask_goal.new.search in
    let view = view_is n u (g.met.W.A.Atoms.fixed_held a) (g.met.W.A.Atoms.unlike a) (g.met.W.A.Atoms.finite a) in
    let l = c.requires.list in
    let k = c.in_ok-asked.ensures in
    let b = c.in_ok-ball-in-Refused in
    let f : Engine = record e { search = s; doing = Throwing b.ball c.args.rest } in
    let r = subst (IsGoalAsked t e.search c.args.goal.now c.args.rest n u s) c.in-Refused.is k.asked in
    let moved = refused_moved m n t u e f c.args.goal.now l.0 l.1 c.args.rest l.2 l.3 c.requires.rest c.requires.state c.ask_goal.ensures.holds view c.requires.ready
    refl refl k.whole c.in-Refused.error b.ball r.0 r.1 r.2 b.ensures.over (subst (λ (p : Procedure). IsErrorBall c.in-Refused.error p b.ball) c.procedure-in-Refused.ensures b.ensures.ball) refl in
    moved.2

pub returns-in-Waits-clause-ready : goal.returns-in-Waits-clause-ready
returns-in-Waits-clause-ready g c =
    let e = c.args.self.now in
    let a = c.ask_goal.new.atoms in
    let m = g.W.A.Atoms.held c.args.atoms.now in
    let n = g.W.A.Atoms.held a in
    let t = g.W.World.told c.args.world.now in
    let u = g.W.World.told c.ask_goal.new.world in
    let s = c.ask_goal.new.search in
    let view = view_is n u (g.met.W.A.Atoms.fixed_held a) (g.met.W.A.Atoms.unlike a) (g.met.W.A.Atoms.finite a) in
    let l = c.requires.list in
    let k = c.in_ok-asked.ensures in
    let f : Engine = record e { search = s } in
    let h = subst (IsGoalAsked t e.search c.args.goal.now c.args.rest n u s) c.in-Waits.is k.asked in
    held_up_ready m n t u e f c.args.goal.now l.0 l.1 c.args.rest l.2 l.3 c.requires.rest c.requires.state c.ask_goal.ensures.holds view c.requires.ready
    refl refl k.whole c.in-Waits.on c.in-Waits.generation h (ap (λ (y : Search). let z : Engine = record e { search = y } in z) h.search)

pub returns-in-Waits-clause-stepped : goal.returns-in-Waits-clause-stepped
returns-in-Waits-clause-stepped g c =
    let e = c.args.self.now in
    let a = c.ask_goal.new.atoms in
    let m = g.W.A.Atoms.held c.args.atoms.now in
    let n = g.W.A.Atoms.held a in
    let t = g.W.World.told c.args.world.now in
    let u = g.W.World.told c.ask_goal.new.world in
    let s = c.ask_goal.new.search in
    let view = view_is n u (g.met.W.A.Atoms.fixed_held a) (g.met.W.A.Atoms.unlike a) (g.met.W.A.Atoms.finite a) in
    let l = c.requires.list in
    let k = c.in_ok-asked.ensures in
    let f : Engine = record e { search = s } in
    let h = subst (IsGoalAsked t e.search c.args.goal.now c.args.rest n u s) c.in-Waits.is k.asked in
    held_up_stepped m n t u e f c.args.goal.now l.0 l.1 c.args.rest l.2 l.3 c.requires.rest c.requires.state c.ask_goal.ensures.holds view c.requires.ready
    refl refl k.whole c.in-Waits.on c.in-Waits.generation h (ap (λ (y : Search). let z : Engine = record e { search = y } in z) h.search)

pub returns-in-Waits-clause-spent : goal.returns-in-Waits-clause-spent
returns-in-Waits-clause-spent g c =
    let e = c.args.self.now in
    let a = c.ask_goal.new.atoms in
    let m = g.W.A.Atoms.held c.args.atoms.now in
    let n = g.W.A.Atoms.held a in
    let t = g.W.World.told c.args.world.now in
    let u = g.W.World.told c.ask_goal.new.world in
    let s = c.ask_goal.new.search in
    let view = view_is n u (g.met.W.A.Atoms.fixed_held a) (g.met.W.A.Atoms.unlike a) (g.met.W.A.Atoms.finite a) in
    let l = c.requires.list in
    let k = c.in_ok-asked.ensures in
    let f : Engine = record e { search = s } in
    let h = subst (IsGoalAsked t e.search c.args.goal.now c.args.rest n u s) c.in-Waits.is k.asked in
    held_up_spent m n t u e f c.args.goal.now l.0 l.1 c.args.rest l.2 l.3 c.requires.rest c.requires.state c.ask_goal.ensures.holds view c.requires.ready
    refl refl k.whole c.in-Waits.on c.in-Waits.generation h (ap (λ (y : Search). let z : Engine = record e { search = y } in z) h.search)

pub returns-in_err-asked-clause-ready : goal.returns-in_err-asked-clause-ready
returns-in_err-asked-clause-ready g c =
    let e = c.args.self.now in
    let a = c.ask_goal.new.atoms in
    let m = g.W.A.Atoms.held c.args.atoms.now in
    let n = g.W.A.Atoms.held a in
    let t = g.W.World.told c.args.world.now in
    let u = g.W.World.told c.ask_goal.new.world in
    let s = c.ask_goal.new.search in
    let view = view_is n u (g.met.W.A.Atoms.fixed_held a) (g.met.W.A.Atoms.unlike a) (g.met.W.A.Atoms.finite a) in
    let l = c.requires.list in
    let f : Engine = record e { search = s } in
    let w = c.in_err-asked.field-0.0 in
    let exit = at_exit c.from_residual.result w c.from_residual.ensures.1 in
    refused_end Asked c.from_residual.result w exit ((u ≡ t) × (s ≡ e.search)) (λ o. IsReady n u f) c.in_err-asked.ensures.taken_back
    (λ w again back. (called_back m n t u e f c.ask_goal.ensures.holds view c.requires.ready back.0 (ap (λ (y : Search). let z : Engine = record e { search = y } in z) back.1)).1)

pub returns-in_err-asked-clause-stepped : goal.returns-in_err-asked-clause-stepped
returns-in_err-asked-clause-stepped g c =
    let e = c.args.self.now in
    let a = c.ask_goal.new.atoms in
    let m = g.W.A.Atoms.held c.args.atoms.now in
    let n = g.W.A.Atoms.held a in
    let t = g.W.World.told c.args.world.now in
    let u = g.W.World.told c.ask_goal.new.world in
    let s = c.ask_goal.new.search in
    let view = view_is n u (g.met.W.A.Atoms.fixed_held a) (g.met.W.A.Atoms.unlike a) (g.met.W.A.Atoms.finite a) in
    let l = c.requires.list in
    let f : Engine = record e { search = s } in
    let w = c.in_err-asked.field-0.0 in
    let exit = at_exit c.from_residual.result w c.from_residual.ensures.1 in
    refused_end Asked c.from_residual.result w exit ((u ≡ t) × (s ≡ e.search)) (λ o. IsStepped m t e o n u f []) c.in_err-asked.ensures.taken_back
    (λ w again back. refused_step m t e n u f w again (called_back m n t u e f c.ask_goal.ensures.holds view c.requires.ready back.0 (ap (λ (y : Search). let z : Engine = record e { search = y } in z) back.1)).0)

pub returns-in_err-asked-clause-spent : goal.returns-in_err-asked-clause-spent
returns-in_err-asked-clause-spent g c =
    let e = c.args.self.now in
    let a = c.ask_goal.new.atoms in
    let m = g.W.A.Atoms.held c.args.atoms.now in
    let n = g.W.A.Atoms.held a in
    let t = g.W.World.told c.args.world.now in
    let u = g.W.World.told c.ask_goal.new.world in
    let s = c.ask_goal.new.search in
    let view = view_is n u (g.met.W.A.Atoms.fixed_held a) (g.met.W.A.Atoms.unlike a) (g.met.W.A.Atoms.finite a) in
    let l = c.requires.list in
    let f : Engine = record e { search = s } in
    let w = c.in_err-asked.field-0.0 in
    let exit = at_exit c.from_residual.result w c.from_residual.ensures.1 in
    refused_end Asked c.from_residual.result w exit ((u ≡ t) × (s ≡ e.search)) (λ o. IsSpent e.search.inferences s.inferences) c.in_err-asked.ensures.taken_back
    (λ w again back. inl (ap (λ (y : Search). y.inferences) back.1))

pub returns-in_err-asked-clause-refusals : goal.returns-in_err-asked-clause-refusals
returns-in_err-asked-clause-refusals g c =
    let w = c.in_err-asked.field-0.0 in
    refused_list Asked c.from_residual.result w (at_exit c.from_residual.result w c.from_residual.ensures.1) (g.W.A.Atoms.refusals c.args.atoms.now)
    (g.W.A.Atoms.refusals c.ask_goal.new.atoms) (unless_memory Asked w c.in_err-asked.ensures.refusals)

pub returns-in_err-asked-clause-asked : goal.returns-in_err-asked-clause-asked
returns-in_err-asked-clause-asked g c =
    let a = c.args.atoms.now in
    let m = g.W.A.Atoms.held a in
    let t = g.W.World.told c.args.world.now in
    let view = view_is m t (g.met.W.A.Atoms.fixed_held a) (g.met.W.A.Atoms.unlike a) (g.met.W.A.Atoms.finite a) in
    let l = c.requires.list in
    state_asks_for m t c.args.self.now c.args.goal.now l.0 l.1 c.args.rest l.2 l.3 view (g.W.A.Atoms.asked a) (g.W.A.Atoms.asked c.ask_goal.new.atoms) c.ask_goal.ensures.asks

pub returns-in_err-self-in-Ran-clause-asked : goal.returns-in_err-self-in-Ran-clause-asked
returns-in_err-self-in-Ran-clause-asked g c =
    let a = c.args.atoms.now in
    let m = g.W.A.Atoms.held a in
    let t = g.W.World.told c.args.world.now in
    let view = view_is m t (g.met.W.A.Atoms.fixed_held a) (g.met.W.A.Atoms.unlike a) (g.met.W.A.Atoms.finite a) in
    let l = c.requires.list in
    state_asks_for m t c.args.self.now c.args.goal.now l.0 l.1 c.args.rest l.2 l.3 view (g.W.A.Atoms.asked a) (g.W.A.Atoms.asked c.ask_goal.new.atoms) c.ask_goal.ensures.asks

pub returns-in_ok-self-in-Ran-clause-asked : goal.returns-in_ok-self-in-Ran-clause-asked
returns-in_ok-self-in-Ran-clause-asked g c =
    let a = c.args.atoms.now in
    let m = g.W.A.Atoms.held a in
    let t = g.W.World.told c.args.world.now in
    let view = view_is m t (g.met.W.A.Atoms.fixed_held a) (g.met.W.A.Atoms.unlike a) (g.met.W.A.Atoms.finite a) in
    let l = c.requires.list in
    state_asks_for m t c.args.self.now c.args.goal.now l.0 l.1 c.args.rest l.2 l.3 view (g.W.A.Atoms.asked a) (g.W.A.Atoms.asked c.ask_goal.new.atoms) c.ask_goal.ensures.asks

pub returns-in_err-ball-in-Refused-clause-asked : goal.returns-in_err-ball-in-Refused-clause-asked
returns-in_err-ball-in-Refused-clause-asked g c =
    let a = c.args.atoms.now in
    let m = g.W.A.Atoms.held a in
    let t = g.W.World.told c.args.world.now in
    let view = view_is m t (g.met.W.A.Atoms.fixed_held a) (g.met.W.A.Atoms.unlike a) (g.met.W.A.Atoms.finite a) in
    let l = c.requires.list in
    state_asks_for m t c.args.self.now c.args.goal.now l.0 l.1 c.args.rest l.2 l.3 view (g.W.A.Atoms.asked a) (g.W.A.Atoms.asked c.ask_goal.new.atoms) c.ask_goal.ensures.asks

pub returns-in_ok-ball-in-Refused-clause-asked : goal.returns-in_ok-ball-in-Refused-clause-asked
returns-in_ok-ball-in-Refused-clause-asked g c =
    let a = c.args.atoms.now in
    let m = g.W.A.Atoms.held a in
    let t = g.W.World.told c.args.world.now in
    let view = view_is m t (g.met.W.A.Atoms.fixed_held a) (g.met.W.A.Atoms.unlike a) (g.met.W.A.Atoms.finite a) in
    let l = c.requires.list in
    state_asks_for m t c.args.self.now c.args.goal.now l.0 l.1 c.args.rest l.2 l.3 view (g.W.A.Atoms.asked a) (g.W.A.Atoms.asked c.ask_goal.new.atoms) c.ask_goal.ensures.asks

pub returns-in-Waits-clause-asked : goal.returns-in-Waits-clause-asked
returns-in-Waits-clause-asked g c =
    let a = c.args.atoms.now in
    let m = g.W.A.Atoms.held a in
    let t = g.W.World.told c.args.world.now in
    let view = view_is m t (g.met.W.A.Atoms.fixed_held a) (g.met.W.A.Atoms.unlike a) (g.met.W.A.Atoms.finite a) in
    let l = c.requires.list in
    state_asks_for m t c.args.self.now c.args.goal.now l.0 l.1 c.args.rest l.2 l.3 view (g.W.A.Atoms.asked a) (g.W.A.Atoms.asked c.ask_goal.new.atoms) c.ask_goal.ensures.asks
