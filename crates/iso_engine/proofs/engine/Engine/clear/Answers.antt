use Rattle.std.proofs.Common.{◌≡◌, [], inl, refl, ap, subst}
use Rattle.world_api.specs.declared.visit.Procedure.{Procedure}
use Rattle.iso_search.specs.declared.search.Search.{Search}
use Rattle.iso_search.specs.Searching.{node_of}
use Rattle.iso_engine.specs.Calling.{IsErrorBall}
use Rattle.iso_engine.specs.Clearing.{IsClearDone, clear_procedure}
use Rattle.iso_engine.specs.Ready.{IsReady}
use Rattle.iso_engine.specs.Slices.{IsStepped}
use Rattle.iso_engine.specs.Spending.{IsSpent}
use Rattle.iso_engine.specs.declared.doing.Doing.TheVariants.{Clearing, Throwing}
use Rattle.iso_engine.specs.declared.engine.Engine.{Engine}
use Rattle.iso_engine.specs.declared.state.clearing.Cleared.{Cleared}
use Rattle.iso_engine.proofs.ClearGoals.{clear_has}
use Rattle.iso_engine.proofs.ClearMoved.{lists_moved}
use Rattle.iso_engine.proofs.GoalsMoved.{alone_moved, goal_names, refused_moved, step_asks_for}
use Rattle.iso_engine.proofs.Refusals.{at_exit, refused_end, refused_list, refused_step, unless_memory}
use Rattle.iso_engine.proofs.RowTaken.{IsFollowedAs}
use Rattle.iso_engine.proofs.Solutions.{view_is}
use Rattle.iso_engine.proofs.TakenBack.{called_back}
use Rattle.iso_engine.proofs.engine.Engine.clear.Goals as goal

pub clear_goal-requires-clause-held : goal.clear_goal-requires-clause-held
clear_goal-requires-clause-held g c =
    let e = c.args.self.now in
    let a = c.args.atoms.now in
    let first = c.requires.first in
    goal_names (g.W.A.Atoms.held a) (g.W.World.told c.args.world.now) e c.args.goal c.args.list first.0 c.args.rest c.requires.list first.1 c.requires.ready (g.met.W.A.Atoms.fixed_held a)
    (g.met.W.A.Atoms.unlike a) (g.met.W.A.Atoms.finite a)

pub returns-in-Lists-clause-stepped : goal.returns-in-Lists-clause-stepped
returns-in-Lists-clause-stepped g c =
    let e = c.args.self.now in
    let a = c.clear_goal.new.atoms in
    let m = g.W.A.Atoms.held c.args.atoms.now in
    let n = g.W.A.Atoms.held a in
    let t = g.W.World.told c.args.world.now in
    let u = g.W.World.told c.clear_goal.new.world in
    let s = c.clear_goal.new.search in
    let view = view_is n u (g.met.W.A.Atoms.fixed_held a) (g.met.W.A.Atoms.unlike a) (g.met.W.A.Atoms.finite a) in
    let first = c.requires.first in
    let k = c.in_ok-cleared.ensures in
    let f : Engine = record e { search = s; doing = Clearing c.args.list c.in-Lists.generation c.left_by.result } in
    let led = subst (IsClearDone t e.search c.args.goal c.args.head c.args.rest n u s) c.in-Lists.is k.cleared in
    let moved = lists_moved m n t u e f c.args.goal c.args.head c.args.list first.0 c.args.rest c.requires.list first.1 c.requires.clears c.clear_goal.ensures.holds view c.requires.ready
    refl refl k.whole c.in-Lists.generation c.in-Lists.found led (ap (Clearing c.args.list c.in-Lists.generation) c.left_by.ensures) in
    moved.0

pub returns-in-Lists-clause-ready : goal.returns-in-Lists-clause-ready
returns-in-Lists-clause-ready g c =
    let e = c.args.self.now in
    let a = c.clear_goal.new.atoms in
    let m = g.W.A.Atoms.held c.args.atoms.now in
    let n = g.W.A.Atoms.held a in
    let t = g.W.World.told c.args.world.now in
    let u = g.W.World.told c.clear_goal.new.world in
    let s = c.clear_goal.new.search in
    let view = view_is n u (g.met.W.A.Atoms.fixed_held a) (g.met.W.A.Atoms.unlike a) (g.met.W.A.Atoms.finite a) in
    let first = c.requires.first in
    let k = c.in_ok-cleared.ensures in
    let f : Engine = record e { search = s; doing = Clearing c.args.list c.in-Lists.generation c.left_by.result } in
    let led = subst (IsClearDone t e.search c.args.goal c.args.head c.args.rest n u s) c.in-Lists.is k.cleared in
    let moved = lists_moved m n t u e f c.args.goal c.args.head c.args.list first.0 c.args.rest c.requires.list first.1 c.requires.clears c.clear_goal.ensures.holds view c.requires.ready
    refl refl k.whole c.in-Lists.generation c.in-Lists.found led (ap (Clearing c.args.list c.in-Lists.generation) c.left_by.ensures) in
    moved.1

pub returns-in-Lists-clause-spent : goal.returns-in-Lists-clause-spent
returns-in-Lists-clause-spent g c =
    let e = c.args.self.now in
    let a = c.clear_goal.new.atoms in
    let m = g.W.A.Atoms.held c.args.atoms.now in
    let n = g.W.A.Atoms.held a in
    let t = g.W.World.told c.args.world.now in
    let u = g.W.World.told c.clear_goal.new.world in
    let s = c.clear_goal.new.search in
    let view = view_is n u (g.met.W.A.Atoms.fixed_held a) (g.met.W.A.Atoms.unlike a) (g.met.W.A.Atoms.finite a) in
    let first = c.requires.first in
    let k = c.in_ok-cleared.ensures in
    let f : Engine = record e { search = s; doing = Clearing c.args.list c.in-Lists.generation c.left_by.result } in
    let led = subst (IsClearDone t e.search c.args.goal c.args.head c.args.rest n u s) c.in-Lists.is k.cleared in
    let moved = lists_moved m n t u e f c.args.goal c.args.head c.args.list first.0 c.args.rest c.requires.list first.1 c.requires.clears c.clear_goal.ensures.holds view c.requires.ready
    refl refl k.whole c.in-Lists.generation c.in-Lists.found led (ap (Clearing c.args.list c.in-Lists.generation) c.left_by.ensures) in
    moved.2

pub returns-in_ok-self-in-Ran-clause-stepped : goal.returns-in_ok-self-in-Ran-clause-stepped
returns-in_ok-self-in-Ran-clause-stepped g c =
    let e = c.args.self.now in
    let a = c.clear_goal.new.atoms in
    let m = g.W.A.Atoms.held c.args.atoms.now in
    let n = g.W.A.Atoms.held a in
    let t = g.W.World.told c.args.world.now in
    let u = g.W.World.told c.clear_goal.new.world in
    let s = c.clear_goal.new.search in
    let view = view_is n u (g.met.W.A.Atoms.fixed_held a) (g.met.W.A.Atoms.unlike a) (g.met.W.A.Atoms.finite a) in
    let first = c.requires.first in
    let k = c.in_ok-cleared.ensures in
    let f : Engine = record e { search = s; doing = c.in_ok-self-in-Ran.field-0 } in
    let o = c.in-Ran.outcome in
    let led = subst (IsClearDone t e.search c.args.goal c.args.head c.args.rest n u s) c.in-Ran.is k.cleared in
    let moved = alone_moved m n t u e f c.args.goal clear_procedure c.args.list first.0 c.args.rest c.requires.list first.1 c.requires.rest (clear_has e.search.store c.args.goal c.args.head c.requires.clears)
    c.clear_goal.ensures.holds view c.requires.ready refl refl k.whole o led.0 led.1 (subst (λ (p : Procedure). IsFollowedAs f c.args.rest p o) c.retractall.ensures c.in_ok-self-in-Ran.ensures) in
    moved.0

pub returns-in_ok-self-in-Ran-clause-ready : goal.returns-in_ok-self-in-Ran-clause-ready
returns-in_ok-self-in-Ran-clause-ready g c =
    let e = c.args.self.now in
    let a = c.clear_goal.new.atoms in
    let m = g.W.A.Atoms.held c.args.atoms.now in
    let n = g.W.A.Atoms.held a in
    let t = g.W.World.told c.args.world.now in
    let u = g.W.World.told c.clear_goal.new.world in
    let s = c.clear_goal.new.search in
    let view = view_is n u (g.met.W.A.Atoms.fixed_held a) (g.met.W.A.Atoms.unlike a) (g.met.W.A.Atoms.finite a) in
    let first = c.requires.first in
    let k = c.in_ok-cleared.ensures in
    let f : Engine = record e { search = s; doing = c.in_ok-self-in-Ran.field-0 } in
    let o = c.in-Ran.outcome in
    let led = subst (IsClearDone t e.search c.args.goal c.args.head c.args.rest n u s) c.in-Ran.is k.cleared in
    let moved = alone_moved m n t u e f c.args.goal clear_procedure c.args.list first.0 c.args.rest c.requires.list first.1 c.requires.rest (clear_has e.search.store c.args.goal c.args.head c.requires.clears)
    c.clear_goal.ensures.holds view c.requires.ready refl refl k.whole o led.0 led.1 (subst (λ (p : Procedure). IsFollowedAs f c.args.rest p o) c.retractall.ensures c.in_ok-self-in-Ran.ensures) in
    moved.1

pub returns-in_ok-self-in-Ran-clause-spent : goal.returns-in_ok-self-in-Ran-clause-spent
returns-in_ok-self-in-Ran-clause-spent g c =
    let e = c.args.self.now in
    let a = c.clear_goal.new.atoms in
    let m = g.W.A.Atoms.held c.args.atoms.now in
    let n = g.W.A.Atoms.held a in
    let t = g.W.World.told c.args.world.now in
    let u = g.W.World.told c.clear_goal.new.world in
    let s = c.clear_goal.new.search in
    let view = view_is n u (g.met.W.A.Atoms.fixed_held a) (g.met.W.A.Atoms.unlike a) (g.met.W.A.Atoms.finite a) in
    let first = c.requires.first in
    let k = c.in_ok-cleared.ensures in
    let f : Engine = record e { search = s; doing = c.in_ok-self-in-Ran.field-0 } in
    let o = c.in-Ran.outcome in
    let led = subst (IsClearDone t e.search c.args.goal c.args.head c.args.rest n u s) c.in-Ran.is k.cleared in
    let moved = alone_moved m n t u e f c.args.goal clear_procedure c.args.list first.0 c.args.rest c.requires.list first.1 c.requires.rest (clear_has e.search.store c.args.goal c.args.head c.requires.clears)
    c.clear_goal.ensures.holds view c.requires.ready refl refl k.whole o led.0 led.1 (subst (λ (p : Procedure). IsFollowedAs f c.args.rest p o) c.retractall.ensures c.in_ok-self-in-Ran.ensures) in
    moved.2

pub returns-in_ok-ball-in-Refused-clause-stepped : goal.returns-in_ok-ball-in-Refused-clause-stepped
returns-in_ok-ball-in-Refused-clause-stepped g c =
    let e = c.args.self.now in
    let a = c.clear_goal.new.atoms in
    let m = g.W.A.Atoms.held c.args.atoms.now in
    let n = g.W.A.Atoms.held a in
    let t = g.W.World.told c.args.world.now in
    let u = g.W.World.told c.clear_goal.new.world in
    let s = c.clear_goal.new.search in
    let view = view_is n u (g.met.W.A.Atoms.fixed_held a) (g.met.W.A.Atoms.unlike a) (g.met.W.A.Atoms.finite a) in
    let first = c.requires.first in
    let k = c.in_ok-cleared.ensures in
    let b = c.in_ok-ball-in-Refused in
    let f : Engine = record e { search = s; doing = Throwing b.ball c.args.rest } in
    let r = subst (IsClearDone t e.search c.args.goal c.args.head c.args.rest n u s) c.in-Refused.is k.cleared in
    let moved = refused_moved m n t u e f c.args.goal clear_procedure c.args.list first.0 c.args.rest c.requires.list first.1 c.requires.rest (clear_has e.search.store c.args.goal c.args.head c.requires.clears)
    c.clear_goal.ensures.holds view c.requires.ready refl refl k.whole c.in-Refused.error b.ball r.0 r.1.0
    (λ v. ap (λ (y : Search). (node_of v y c.args.rest).goals) r.1.1) (ap (λ (y : Search). y.budgets) r.1.1) b.ensures.over
    (subst (λ (p : Procedure). IsErrorBall c.in-Refused.error p b.ball) c.retractall-in-Refused.ensures b.ensures.ball) refl in
    moved.0

pub returns-in_ok-ball-in-Refused-clause-ready : goal.returns-in_ok-ball-in-Refused-clause-ready
returns-in_ok-ball-in-Refused-clause-ready g c =
    let e = c.args.self.now in
    let a = c.clear_goal.new.atoms in
    let m = g.W.A.Atoms.held c.args.atoms.now in
    let n = g.W.A.Atoms.held a in
    let t = g.W.World.told c.args.world.now in
    let u = g.W.World.told c.clear_goal.new.world in
    let s = c.clear_goal.new.search in
    let view = view_is n u (g.met.W.A.Atoms.fixed_held a) (g.met.W.A.Atoms.unlike a) (g.met.W.A.Atoms.finite a) in
    let first = c.requires.first in
    let k = c.in_ok-cleared.ensures in
    let b = c.in_ok-ball-in-Refused in
    let f : Engine = record e { search = s; doing = Throwing b.ball c.args.rest } in
    let r = subst (IsClearDone t e.search c.args.goal c.args.head c.args.rest n u s) c.in-Refused.is k.cleared in
    let moved = refused_moved m n t u e f c.args.goal clear_procedure c.args.list first.0 c.args.rest c.requires.list first.1 c.requires.rest (clear_has e.search.store c.args.goal c.args.head c.requires.clears)
    c.clear_goal.ensures.holds view c.requires.ready refl refl k.whole c.in-Refused.error b.ball r.0 r.1.0
    (λ v. ap (λ (y : Search). (node_of v y c.args.rest).goals) r.1.1) (ap (λ (y : Search). y.budgets) r.1.1) b.ensures.over
    (subst (λ (p : Procedure). IsErrorBall c.in-Refused.error p b.ball) c.retractall-in-Refused.ensures b.ensures.ball) refl in
    moved.1

pub returns-in_ok-ball-in-Refused-clause-spent : goal.returns-in_ok-ball-in-Refused-clause-spent
returns-in_ok-ball-in-Refused-clause-spent g c =
    let e = c.args.self.now in
    let a = c.clear_goal.new.atoms in
    let m = g.W.A.Atoms.held c.args.atoms.now in
    let n = g.W.A.Atoms.held a in
    let t = g.W.World.told c.args.world.now in
    let u = g.W.World.told c.clear_goal.new.world in
    let s = c.clear_goal.new.search in
    let view = view_is n u (g.met.W.A.Atoms.fixed_held a) (g.met.W.A.Atoms.unlike a) (g.met.W.A.Atoms.finite a) in
    let first = c.requires.first in
    let k = c.in_ok-cleared.ensures in
    let b = c.in_ok-ball-in-Refused in
    let f : Engine = record e { search = s; doing = Throwing b.ball c.args.rest } in
    let r = subst (IsClearDone t e.search c.args.goal c.args.head c.args.rest n u s) c.in-Refused.is k.cleared in
    let moved = refused_moved m n t u e f c.args.goal clear_procedure c.args.list first.0 c.args.rest c.requires.list first.1 c.requires.rest (clear_has e.search.store c.args.goal c.args.head c.requires.clears)
    c.clear_goal.ensures.holds view c.requires.ready refl refl k.whole c.in-Refused.error b.ball r.0 r.1.0
    (λ v. ap (λ (y : Search). (node_of v y c.args.rest).goals) r.1.1) (ap (λ (y : Search). y.budgets) r.1.1) b.ensures.over
    (subst (λ (p : Procedure). IsErrorBall c.in-Refused.error p b.ball) c.retractall-in-Refused.ensures b.ensures.ball) refl in
    moved.2

pub returns-in_err-cleared-clause-ready : goal.returns-in_err-cleared-clause-ready
returns-in_err-cleared-clause-ready g c =
    let e = c.args.self.now in
    let a = c.clear_goal.new.atoms in
    let m = g.W.A.Atoms.held c.args.atoms.now in
    let n = g.W.A.Atoms.held a in
    let t = g.W.World.told c.args.world.now in
    let u = g.W.World.told c.clear_goal.new.world in
    let s = c.clear_goal.new.search in
    let view = view_is n u (g.met.W.A.Atoms.fixed_held a) (g.met.W.A.Atoms.unlike a) (g.met.W.A.Atoms.finite a) in
    let f : Engine = record e { search = s } in
    let w = c.in_err-cleared.field-0.0 in
    let exit = at_exit c.from_residual.result w c.from_residual.ensures.1 in
    refused_end Cleared c.from_residual.result w exit ((u ≡ t) × (s ≡ e.search)) (λ o. IsReady n u f) c.in_err-cleared.ensures.taken_back
    (λ w again back. (called_back m n t u e f c.clear_goal.ensures.holds view c.requires.ready back.0 (ap (λ (y : Search). let z : Engine = record e { search = y } in z) back.1)).1)

pub returns-in_err-cleared-clause-stepped : goal.returns-in_err-cleared-clause-stepped
returns-in_err-cleared-clause-stepped g c =
    let e = c.args.self.now in
    let a = c.clear_goal.new.atoms in
    let m = g.W.A.Atoms.held c.args.atoms.now in
    let n = g.W.A.Atoms.held a in
    let t = g.W.World.told c.args.world.now in
    let u = g.W.World.told c.clear_goal.new.world in
    let s = c.clear_goal.new.search in
    let view = view_is n u (g.met.W.A.Atoms.fixed_held a) (g.met.W.A.Atoms.unlike a) (g.met.W.A.Atoms.finite a) in
    let f : Engine = record e { search = s } in
    let w = c.in_err-cleared.field-0.0 in
    let exit = at_exit c.from_residual.result w c.from_residual.ensures.1 in
    refused_end Cleared c.from_residual.result w exit ((u ≡ t) × (s ≡ e.search)) (λ o. IsStepped m t e o n u f []) c.in_err-cleared.ensures.taken_back
    (λ w again back. refused_step m t e n u f w again (called_back m n t u e f c.clear_goal.ensures.holds view c.requires.ready back.0 (ap (λ (y : Search). let z : Engine = record e { search = y } in z) back.1)).0)

pub returns-in_err-cleared-clause-spent : goal.returns-in_err-cleared-clause-spent
returns-in_err-cleared-clause-spent g c =
    let e = c.args.self.now in
    let a = c.clear_goal.new.atoms in
    let m = g.W.A.Atoms.held c.args.atoms.now in
    let n = g.W.A.Atoms.held a in
    let t = g.W.World.told c.args.world.now in
    let u = g.W.World.told c.clear_goal.new.world in
    let s = c.clear_goal.new.search in
    let view = view_is n u (g.met.W.A.Atoms.fixed_held a) (g.met.W.A.Atoms.unlike a) (g.met.W.A.Atoms.finite a) in
    let f : Engine = record e { search = s } in
    let w = c.in_err-cleared.field-0.0 in
    let exit = at_exit c.from_residual.result w c.from_residual.ensures.1 in
    refused_end Cleared c.from_residual.result w exit ((u ≡ t) × (s ≡ e.search)) (λ o. IsSpent e.search.inferences s.inferences) c.in_err-cleared.ensures.taken_back
    (λ w again back. inl (ap (λ (y : Search). y.inferences) back.1))

pub returns-in_err-cleared-clause-refusals : goal.returns-in_err-cleared-clause-refusals
returns-in_err-cleared-clause-refusals g c =
    let w = c.in_err-cleared.field-0.0 in
    refused_list Cleared c.from_residual.result w (at_exit c.from_residual.result w c.from_residual.ensures.1) (g.W.A.Atoms.refusals c.args.atoms.now)
    (g.W.A.Atoms.refusals c.clear_goal.new.atoms) (unless_memory Cleared w c.in_err-cleared.ensures.refusals)

pub returns-in_err-cleared-clause-asked : goal.returns-in_err-cleared-clause-asked
returns-in_err-cleared-clause-asked g c =
    let a = c.args.atoms.now in
    let m = g.W.A.Atoms.held a in
    let t = g.W.World.told c.args.world.now in
    let view = view_is m t (g.met.W.A.Atoms.fixed_held a) (g.met.W.A.Atoms.unlike a) (g.met.W.A.Atoms.finite a) in
    let first = c.requires.first in
    step_asks_for m t c.args.self.now c.args.goal c.args.list first.0 c.args.rest c.requires.list first.1 view (g.W.A.Atoms.asked a) (g.W.A.Atoms.asked c.clear_goal.new.atoms) c.clear_goal.ensures.asks

pub returns-in_err-self-in-Ran-clause-asked : goal.returns-in_err-self-in-Ran-clause-asked
returns-in_err-self-in-Ran-clause-asked g c =
    let a = c.args.atoms.now in
    let m = g.W.A.Atoms.held a in
    let t = g.W.World.told c.args.world.now in
    let view = view_is m t (g.met.W.A.Atoms.fixed_held a) (g.met.W.A.Atoms.unlike a) (g.met.W.A.Atoms.finite a) in
    let first = c.requires.first in
    step_asks_for m t c.args.self.now c.args.goal c.args.list first.0 c.args.rest c.requires.list first.1 view (g.W.A.Atoms.asked a) (g.W.A.Atoms.asked c.clear_goal.new.atoms) c.clear_goal.ensures.asks

pub returns-in_ok-self-in-Ran-clause-asked : goal.returns-in_ok-self-in-Ran-clause-asked
returns-in_ok-self-in-Ran-clause-asked g c =
    let a = c.args.atoms.now in
    let m = g.W.A.Atoms.held a in
    let t = g.W.World.told c.args.world.now in
    let view = view_is m t (g.met.W.A.Atoms.fixed_held a) (g.met.W.A.Atoms.unlike a) (g.met.W.A.Atoms.finite a) in
    let first = c.requires.first in
    step_asks_for m t c.args.self.now c.args.goal c.args.list first.0 c.args.rest c.requires.list first.1 view (g.W.A.Atoms.asked a) (g.W.A.Atoms.asked c.clear_goal.new.atoms) c.clear_goal.ensures.asks

pub returns-in_err-ball-in-Refused-clause-asked : goal.returns-in_err-ball-in-Refused-clause-asked
returns-in_err-ball-in-Refused-clause-asked g c =
    let a = c.args.atoms.now in
    let m = g.W.A.Atoms.held a in
    let t = g.W.World.told c.args.world.now in
    let view = view_is m t (g.met.W.A.Atoms.fixed_held a) (g.met.W.A.Atoms.unlike a) (g.met.W.A.Atoms.finite a) in
    let first = c.requires.first in
    step_asks_for m t c.args.self.now c.args.goal c.args.list first.0 c.args.rest c.requires.list first.1 view (g.W.A.Atoms.asked a) (g.W.A.Atoms.asked c.clear_goal.new.atoms) c.clear_goal.ensures.asks

pub returns-in_ok-ball-in-Refused-clause-asked : goal.returns-in_ok-ball-in-Refused-clause-asked
returns-in_ok-ball-in-Refused-clause-asked g c =
    let a = c.args.atoms.now in
    let m = g.W.A.Atoms.held a in
    let t = g.W.World.told c.args.world.now in
    let view = view_is m t (g.met.W.A.Atoms.fixed_held a) (g.met.W.A.Atoms.unlike a) (g.met.W.A.Atoms.finite a) in
    let first = c.requires.first in
    step_asks_for m t c.args.self.now c.args.goal c.args.list first.0 c.args.rest c.requires.list first.1 view (g.W.A.Atoms.asked a) (g.W.A.Atoms.asked c.clear_goal.new.atoms) c.clear_goal.ensures.asks

pub returns-in-Lists-clause-asked : goal.returns-in-Lists-clause-asked
returns-in-Lists-clause-asked g c =
    let a = c.args.atoms.now in
    let m = g.W.A.Atoms.held a in
    let t = g.W.World.told c.args.world.now in
    let view = view_is m t (g.met.W.A.Atoms.fixed_held a) (g.met.W.A.Atoms.unlike a) (g.met.W.A.Atoms.finite a) in
    let first = c.requires.first in
    step_asks_for m t c.args.self.now c.args.goal c.args.list first.0 c.args.rest c.requires.list first.1 view (g.W.A.Atoms.asked a) (g.W.A.Atoms.asked c.clear_goal.new.atoms) c.clear_goal.ensures.asks
