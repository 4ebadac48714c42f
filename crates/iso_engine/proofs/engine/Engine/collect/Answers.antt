use Rattle.std.proofs.Common.{◌≡◌, [], inl, refl, ap, subst}
use Rattle.world_api.specs.declared.visit.Procedure.{Procedure}
use Rattle.iso_search.specs.declared.outcome.Outcome.{Outcome}
use Rattle.iso_search.specs.declared.search.Search.{Search}
use Rattle.iso_engine.specs.Collecting.{collection_procedure}
use Rattle.iso_engine.specs.Ready.{IsReady}
use Rattle.iso_engine.specs.Slices.{IsStepped}
use Rattle.iso_engine.specs.Spending.{IsSpent}
use Rattle.iso_engine.specs.declared.engine.Engine.{Engine}
use Rattle.iso_engine.proofs.CollectGoals.{collect_has}
use Rattle.iso_engine.proofs.GoalsMoved.{ran_moved, step_asks_for}
use Rattle.iso_engine.proofs.Refusals.{at_exit, refused_end, refused_list, refused_step, unless_memory}
use Rattle.iso_engine.proofs.RowTaken.{IsFollowedAs}
use Rattle.iso_engine.proofs.Solutions.{view_is}
use Rattle.iso_engine.proofs.TakenBack.{called_back}
use Rattle.iso_engine.proofs.engine.Engine.collect.Goals as goal

pub returns-clause-stepped : goal.returns-clause-stepped
returns-clause-stepped g c =
    let e = c.args.self.now in
    let a = c.collect_goal.new.atoms in
    let m = g.W.A.Atoms.held c.args.atoms.now in
    let n = g.W.A.Atoms.held a in
    let t = g.W.World.told c.args.world.now in
    let u = g.W.World.told c.collect_goal.new.world in
    let s = c.collect_goal.new.search in
    let view = view_is n u (g.met.W.A.Atoms.fixed_held a) (g.met.W.A.Atoms.unlike a) (g.met.W.A.Atoms.finite a) in
    let l = c.requires.list in
    let k = c.in_ok-outcome.ensures in
    let f : Engine = record e { search = s; doing = c.in_ok-self.field-0 } in
    let o = c.in_ok-outcome.outcome in
    let moved = ran_moved m n t u e f c.args.goal (collection_procedure c.args.collection) l.0 l.1 c.args.rest l.2 l.3 c.requires.rest (collect_has e.search.store c.args.goal c.args.collection c.requires.collects) c.collect_goal.ensures.holds view c.requires.ready
    refl refl k.whole o k.done (subst (λ (p : Procedure). IsFollowedAs f c.args.rest p o) c.procedure-procedure.ensures c.in_ok-self.ensures) in
    moved.0

pub returns-clause-ready : goal.returns-clause-ready
returns-clause-ready g c =
    let e = c.args.self.now in
    let a = c.collect_goal.new.atoms in
    let m = g.W.A.Atoms.held c.args.atoms.now in
    let n = g.W.A.Atoms.held a in
    let t = g.W.World.told c.args.world.now in
    let u = g.W.World.told c.collect_goal.new.world in
    let s = c.collect_goal.new.search in
    let view = view_is n u (g.met.W.A.Atoms.fixed_held a) (g.met.W.A.Atoms.unlike a) (g.met.W.A.Atoms.finite a) in
    let l = c.requires.list in
    let k = c.in_ok-outcome.ensures in
    let f : Engine = record e { search = s; doing = c.in_ok-self.field-0 } in
    let o = c.in_ok-outcome.outcome in
    let moved = ran_moved m n t u e f c.args.goal (collection_procedure c.args.collection) l.0 l.1 c.args.rest l.2 l.3 c.requires.rest (collect_has e.search.store c.args.goal c.args.collection c.requires.collects) c.collect_goal.ensures.holds view c.requires.ready
    refl refl k.whole o k.done (subst (λ (p : Procedure). IsFollowedAs f c.args.rest p o) c.procedure-procedure.ensures c.in_ok-self.ensures) in
    moved.1

pub returns-clause-spent : goal.returns-clause-spent
returns-clause-spent g c =
    let e = c.args.self.now in
    let a = c.collect_goal.new.atoms in
    let m = g.W.A.Atoms.held c.args.atoms.now in
    let n = g.W.A.Atoms.held a in
    let t = g.W.World.told c.args.world.now in
    let u = g.W.World.told c.collect_goal.new.world in
    let s = c.collect_goal.new.search in
    let view = view_is n u (g.met.W.A.Atoms.fixed_held a) (g.met.W.A.Atoms.unlike a) (g.met.W.A.Atoms.finite a) in
    let l = c.requires.list in
    let k = c.in_ok-outcome.ensures in
    let f : Engine = record e { search = s; doing = c.in_ok-self.field-0 } in
    let o = c.in_ok-outcome.outcome in
    let moved = ran_moved m n t u e f c.args.goal (collection_procedure c.args.collection) l.0 l.1 c.args.rest l.2 l.3 c.requires.rest (collect_has e.search.store c.args.goal c.args.collection c.requires.collects) c.collect_goal.ensures.holds view c.requires.ready
    refl refl k.whole o k.done (subst (λ (p : Procedure). IsFollowedAs f c.args.rest p o) c.procedure-procedure.ensures c.in_ok-self.ensures) in
    moved.2

pub returns-in_err-outcome-clause-ready : goal.returns-in_err-outcome-clause-ready
returns-in_err-outcome-clause-ready g c =
    let e = c.args.self.now in
    let a = c.collect_goal.new.atoms in
    let m = g.W.A.Atoms.held c.args.atoms.now in
    let n = g.W.A.Atoms.held a in
    let t = g.W.World.told c.args.world.now in
    let u = g.W.World.told c.collect_goal.new.world in
    let s = c.collect_goal.new.search in
    let view = view_is n u (g.met.W.A.Atoms.fixed_held a) (g.met.W.A.Atoms.unlike a) (g.met.W.A.Atoms.finite a) in
    let l = c.requires.list in
    let f : Engine = record e { search = s } in
    let w = c.in_err-outcome.field-0.0 in
    let exit = at_exit c.from_residual.result w c.from_residual.ensures.1 in
    refused_end Outcome c.from_residual.result w exit ((u ≡ t) × (s ≡ e.search)) (λ o. IsReady n u f) c.in_err-outcome.ensures.taken_back
    (λ w again back. (called_back m n t u e f c.collect_goal.ensures.holds view c.requires.ready back.0 (ap (λ (y : Search). let z : Engine = record e { search = y } in z) back.1)).1)

pub returns-in_err-outcome-clause-stepped : goal.returns-in_err-outcome-clause-stepped
returns-in_err-outcome-clause-stepped g c =
    let e = c.args.self.now in
    let a = c.collect_goal.new.atoms in
    let m = g.W.A.Atoms.held c.args.atoms.now in
    let n = g.W.A.Atoms.held a in
    let t = g.W.World.told c.args.world.now in
    let u = g.W.World.told c.collect_goal.new.world in
    let s = c.collect_goal.new.search in
    let view = view_is n u (g.met.W.A.Atoms.fixed_held a) (g.met.W.A.Atoms.unlike a) (g.met.W.A.Atoms.finite a) in
    let l = c.requires.list in
    let f : Engine = record e { search = s } in
    let w = c.in_err-outcome.field-0.0 in
    let exit = at_exit c.from_residual.result w c.from_residual.ensures.1 in
    refused_end Outcome c.from_residual.result w exit ((u ≡ t) × (s ≡ e.search)) (λ o. IsStepped m t e o n u f []) c.in_err-outcome.ensures.taken_back
    (λ w again back. refused_step m t e n u f w again (called_back m n t u e f c.collect_goal.ensures.holds view c.requires.ready back.0 (ap (λ (y : Search). let z : Engine = record e { search = y } in z) back.1)).0)

pub returns-in_err-outcome-clause-spent : goal.returns-in_err-outcome-clause-spent
returns-in_err-outcome-clause-spent g c =
    let e = c.args.self.now in
    let a = c.collect_goal.new.atoms in
    let m = g.W.A.Atoms.held c.args.atoms.now in
    let n = g.W.A.Atoms.held a in
    let t = g.W.World.told c.args.world.now in
    let u = g.W.World.told c.collect_goal.new.world in
    let s = c.collect_goal.new.search in
    let view = view_is n u (g.met.W.A.Atoms.fixed_held a) (g.met.W.A.Atoms.unlike a) (g.met.W.A.Atoms.finite a) in
    let l = c.requires.list in
    let f : Engine = record e { search = s } in
    let w = c.in_err-outcome.field-0.0 in
    let exit = at_exit c.from_residual.result w c.from_residual.ensures.1 in
    refused_end Outcome c.from_residual.result w exit ((u ≡ t) × (s ≡ e.search)) (λ o. IsSpent e.search.inferences s.inferences) c.in_err-outcome.ensures.taken_back
    (λ w again back. inl (ap (λ (y : Search). y.inferences) back.1))

pub returns-in_err-outcome-clause-refusals : goal.returns-in_err-outcome-clause-refusals
returns-in_err-outcome-clause-refusals g c =
    let w = c.in_err-outcome.field-0.0 in
    refused_list Outcome c.from_residual.result w (at_exit c.from_residual.result w c.from_residual.ensures.1) (g.W.A.Atoms.refusals c.args.atoms.now)
    (g.W.A.Atoms.refusals c.collect_goal.new.atoms) (unless_memory Outcome w c.in_err-outcome.ensures.refusals)

pub returns-in_err-outcome-clause-asked : goal.returns-in_err-outcome-clause-asked
returns-in_err-outcome-clause-asked g c =
    let a = c.args.atoms.now in
    let m = g.W.A.Atoms.held a in
    let t = g.W.World.told c.args.world.now in
    let view = view_is m t (g.met.W.A.Atoms.fixed_held a) (g.met.W.A.Atoms.unlike a) (g.met.W.A.Atoms.finite a) in
    let l = c.requires.list in
    step_asks_for m t c.args.self.now c.args.goal l.0 l.1 c.args.rest l.2 l.3 view (g.W.A.Atoms.asked a) (g.W.A.Atoms.asked c.collect_goal.new.atoms) c.collect_goal.ensures.asks

pub returns-in_err-self-clause-asked : goal.returns-in_err-self-clause-asked
returns-in_err-self-clause-asked g c =
    let a = c.args.atoms.now in
    let m = g.W.A.Atoms.held a in
    let t = g.W.World.told c.args.world.now in
    let view = view_is m t (g.met.W.A.Atoms.fixed_held a) (g.met.W.A.Atoms.unlike a) (g.met.W.A.Atoms.finite a) in
    let l = c.requires.list in
    step_asks_for m t c.args.self.now c.args.goal l.0 l.1 c.args.rest l.2 l.3 view (g.W.A.Atoms.asked a) (g.W.A.Atoms.asked c.collect_goal.new.atoms) c.collect_goal.ensures.asks

pub returns-clause-asked : goal.returns-clause-asked
returns-clause-asked g c =
    let a = c.args.atoms.now in
    let m = g.W.A.Atoms.held a in
    let t = g.W.World.told c.args.world.now in
    let view = view_is m t (g.met.W.A.Atoms.fixed_held a) (g.met.W.A.Atoms.unlike a) (g.met.W.A.Atoms.finite a) in
    let l = c.requires.list in
    step_asks_for m t c.args.self.now c.args.goal l.0 l.1 c.args.rest l.2 l.3 view (g.W.A.Atoms.asked a) (g.W.A.Atoms.asked c.collect_goal.new.atoms) c.collect_goal.ensures.asks
