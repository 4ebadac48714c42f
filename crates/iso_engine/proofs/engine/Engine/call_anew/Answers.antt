use Rattle.std.proofs.Common.{[], inl, refl, sym, ap, subst}
use Rattle.iso_engine.specs.Advancing.{Advances}
use Rattle.iso_engine.specs.Called.{IsCalled, IsTakenBack}
use Rattle.iso_engine.specs.Ready.{IsReady}
use Rattle.iso_engine.specs.Slices.{IsStepped}
use Rattle.iso_engine.specs.Spending.{IsSpent}
use Rattle.iso_engine.specs.declared.doing.Doing.TheVariants.{Throwing}
use Rattle.iso_search.specs.declared.search.Search.{Search}
use Rattle.iso_engine.specs.declared.engine.Engine.{Engine}
use Rattle.iso_engine.specs.declared.call.called.Called.{Called}
use Rattle.iso_engine.proofs.Interning.{call_asks_for}
use Rattle.iso_engine.proofs.Moved.{ran_moved, refused_moved, spent_moved}
use Rattle.iso_engine.proofs.Opening.{goal_held}
use Rattle.iso_engine.proofs.Refusals.{at_exit, refused_end, refused_list, refused_step, unless_memory}
use Rattle.iso_engine.proofs.Solutions.{view_is}
use Rattle.iso_engine.proofs.TakenBack.{called_back}
use Rattle.iso_engine.proofs.engine.Engine.call_anew.Goals as goal

pub call_clauses-requires-clause-held : goal.call_clauses-requires-clause-held
call_clauses-requires-clause-held g c =
    let e = c.args.self.now in
    let a = c.args.atoms.now in
    let l = c.requires.list in
    goal_held (g.W.A.Atoms.held a) (g.W.World.told c.args.world.now) e l.0 l.1 c.args.goal c.args.rest l.2 l.3 c.requires.ready.stable (g.met.W.A.Atoms.fixed_held a)
    (g.met.W.A.Atoms.unlike a) (g.met.W.A.Atoms.finite a)

pub returns-in_ok-go_on_apart-in-Spent-clause-ready : goal.returns-in_ok-go_on_apart-in-Spent-clause-ready
returns-in_ok-go_on_apart-in-Spent-clause-ready g c =
    let e = c.args.self.now in
    let a = c.call_clauses.new.atoms in
    let m = g.W.A.Atoms.held c.args.atoms.now in
    let n = g.W.A.Atoms.held a in
    let t = g.W.World.told c.args.world.now in
    let u = g.W.World.told c.call_clauses.new.world in
    let x = c.call_clauses.new.search in
    let view = view_is n u (g.met.W.A.Atoms.fixed_held a) (g.met.W.A.Atoms.unlike a) (g.met.W.A.Atoms.finite a) in
    let l = c.requires.list in
    let k = c.in_ok-called.ensures in
    let went = c.in_ok-go_on_apart-in-Spent.ensures in
    let f : Engine = record e { search = x; doing = c.go_on_apart.new.self.doing } in
    let spent = subst (IsCalled m t e.search c.args.goal c.args.rest n u x) c.in-Spent.is k.called in
    let moved = spent_moved m n t u e f c.args.goal c.args.procedure l.0 l.1 c.args.rest l.2 l.3 c.requires.rest c.requires.calls c.call_clauses.ensures.holds view c.requires.ready
    refl refl k.whole spent.0.1 spent.0.2 spent.1 went.follows in
    subst (λ (z : Engine). IsReady n u z) (sym went.kept) moved.1

pub returns-in_ok-go_on_apart-in-Spent-clause-stepped : goal.returns-in_ok-go_on_apart-in-Spent-clause-stepped
returns-in_ok-go_on_apart-in-Spent-clause-stepped g c =
    let e = c.args.self.now in
    let a = c.call_clauses.new.atoms in
    let m = g.W.A.Atoms.held c.args.atoms.now in
    let n = g.W.A.Atoms.held a in
    let t = g.W.World.told c.args.world.now in
    let u = g.W.World.told c.call_clauses.new.world in
    let x = c.call_clauses.new.search in
    let view = view_is n u (g.met.W.A.Atoms.fixed_held a) (g.met.W.A.Atoms.unlike a) (g.met.W.A.Atoms.finite a) in
    let l = c.requires.list in
    let k = c.in_ok-called.ensures in
    let went = c.in_ok-go_on_apart-in-Spent.ensures in
    let f : Engine = record e { search = x; doing = c.go_on_apart.new.self.doing } in
    let spent = subst (IsCalled m t e.search c.args.goal c.args.rest n u x) c.in-Spent.is k.called in
    let moved = spent_moved m n t u e f c.args.goal c.args.procedure l.0 l.1 c.args.rest l.2 l.3 c.requires.rest c.requires.calls c.call_clauses.ensures.holds view c.requires.ready
    refl refl k.whole spent.0.1 spent.0.2 spent.1 went.follows in
    subst (λ (z : Engine). Advances 1 m t e n u z []) (sym went.kept) moved.0

pub returns-in_ok-go_on_apart-in-Spent-clause-spent : goal.returns-in_ok-go_on_apart-in-Spent-clause-spent
returns-in_ok-go_on_apart-in-Spent-clause-spent g c =
    let e = c.args.self.now in
    let a = c.call_clauses.new.atoms in
    let m = g.W.A.Atoms.held c.args.atoms.now in
    let n = g.W.A.Atoms.held a in
    let t = g.W.World.told c.args.world.now in
    let u = g.W.World.told c.call_clauses.new.world in
    let x = c.call_clauses.new.search in
    let view = view_is n u (g.met.W.A.Atoms.fixed_held a) (g.met.W.A.Atoms.unlike a) (g.met.W.A.Atoms.finite a) in
    let l = c.requires.list in
    let k = c.in_ok-called.ensures in
    let went = c.in_ok-go_on_apart-in-Spent.ensures in
    let f : Engine = record e { search = x; doing = c.go_on_apart.new.self.doing } in
    let spent = subst (IsCalled m t e.search c.args.goal c.args.rest n u x) c.in-Spent.is k.called in
    let moved = spent_moved m n t u e f c.args.goal c.args.procedure l.0 l.1 c.args.rest l.2 l.3 c.requires.rest c.requires.calls c.call_clauses.ensures.holds view c.requires.ready
    refl refl k.whole spent.0.1 spent.0.2 spent.1 went.follows in
    subst (λ (z : Engine). IsSpent e.search.inferences z.search.inferences) (sym went.kept) moved.2

pub returns-in_ok-go_on-in-Ran-clause-spent : goal.returns-in_ok-go_on-in-Ran-clause-spent
returns-in_ok-go_on-in-Ran-clause-spent g c =
    let e = c.args.self.now in
    let a = c.call_clauses.new.atoms in
    let m = g.W.A.Atoms.held c.args.atoms.now in
    let n = g.W.A.Atoms.held a in
    let t = g.W.World.told c.args.world.now in
    let u = g.W.World.told c.call_clauses.new.world in
    let x = c.call_clauses.new.search in
    let view = view_is n u (g.met.W.A.Atoms.fixed_held a) (g.met.W.A.Atoms.unlike a) (g.met.W.A.Atoms.finite a) in
    let l = c.requires.list in
    let k = c.in_ok-called.ensures in
    let went = c.in_ok-go_on-in-Ran.ensures in
    let f : Engine = record e { search = x; doing = c.go_on.new.self.doing } in
    let o = c.in-Ran.outcome in
    let run = subst (IsCalled m t e.search c.args.goal c.args.rest n u x) c.in-Ran.is k.called in
    let moved = ran_moved m n t u e f c.args.goal c.args.procedure l.0 l.1 c.args.rest l.2 l.3 c.requires.rest c.requires.calls c.call_clauses.ensures.holds view c.requires.ready
    refl refl k.whole o run went.follows in
    subst (λ (z : Engine). IsSpent e.search.inferences z.search.inferences) (sym went.kept) moved.2

pub returns-in_ok-go_on-in-Ran-clause-ready : goal.returns-in_ok-go_on-in-Ran-clause-ready
returns-in_ok-go_on-in-Ran-clause-ready g c =
    let e = c.args.self.now in
    let a = c.call_clauses.new.atoms in
    let m = g.W.A.Atoms.held c.args.atoms.now in
    let n = g.W.A.Atoms.held a in
    let t = g.W.World.told c.args.world.now in
    let u = g.W.World.told c.call_clauses.new.world in
    let x = c.call_clauses.new.search in
    let view = view_is n u (g.met.W.A.Atoms.fixed_held a) (g.met.W.A.Atoms.unlike a) (g.met.W.A.Atoms.finite a) in
    let l = c.requires.list in
    let k = c.in_ok-called.ensures in
    let went = c.in_ok-go_on-in-Ran.ensures in
    let f : Engine = record e { search = x; doing = c.go_on.new.self.doing } in
    let o = c.in-Ran.outcome in
    let run = subst (IsCalled m t e.search c.args.goal c.args.rest n u x) c.in-Ran.is k.called in
    let moved = ran_moved m n t u e f c.args.goal c.args.procedure l.0 l.1 c.args.rest l.2 l.3 c.requires.rest c.requires.calls c.call_clauses.ensures.holds view c.requires.ready
    refl refl k.whole o run went.follows in
    subst (λ (z : Engine). IsReady n u z) (sym went.kept) moved.1

pub returns-in_ok-go_on-in-Ran-clause-stepped : goal.returns-in_ok-go_on-in-Ran-clause-stepped
returns-in_ok-go_on-in-Ran-clause-stepped g c =
    let e = c.args.self.now in
    let a = c.call_clauses.new.atoms in
    let m = g.W.A.Atoms.held c.args.atoms.now in
    let n = g.W.A.Atoms.held a in
    let t = g.W.World.told c.args.world.now in
    let u = g.W.World.told c.call_clauses.new.world in
    let x = c.call_clauses.new.search in
    let view = view_is n u (g.met.W.A.Atoms.fixed_held a) (g.met.W.A.Atoms.unlike a) (g.met.W.A.Atoms.finite a) in
    let l = c.requires.list in
    let k = c.in_ok-called.ensures in
    let went = c.in_ok-go_on-in-Ran.ensures in
    let f : Engine = record e { search = x; doing = c.go_on.new.self.doing } in
    let o = c.in-Ran.outcome in
    let run = subst (IsCalled m t e.search c.args.goal c.args.rest n u x) c.in-Ran.is k.called in
    let moved = ran_moved m n t u e f c.args.goal c.args.procedure l.0 l.1 c.args.rest l.2 l.3 c.requires.rest c.requires.calls c.call_clauses.ensures.holds view c.requires.ready
    refl refl k.whole o run went.follows in
    subst (λ (z : Engine). Advances 1 m t e n u z []) (sym went.kept) moved.0

pub returns-in_ok-raise-in-Refused-clause-ready : goal.returns-in_ok-raise-in-Refused-clause-ready
returns-in_ok-raise-in-Refused-clause-ready g c =
    let e = c.args.self.now in
    let a = c.call_clauses.new.atoms in
    let m = g.W.A.Atoms.held c.args.atoms.now in
    let n = g.W.A.Atoms.held a in
    let t = g.W.World.told c.args.world.now in
    let u = g.W.World.told c.call_clauses.new.world in
    let x = c.call_clauses.new.search in
    let view = view_is n u (g.met.W.A.Atoms.fixed_held a) (g.met.W.A.Atoms.unlike a) (g.met.W.A.Atoms.finite a) in
    let l = c.requires.list in
    let k = c.in_ok-called.ensures in
    let b = c.in_ok-raise-in-Refused.ensures.thrown in
    let f : Engine = record e { search = x; doing = Throwing b.ball c.args.rest } in
    let r = subst (IsCalled m t e.search c.args.goal c.args.rest n u x) c.in-Refused.is k.called in
    let moved = refused_moved m n t u e f c.args.goal c.args.procedure l.0 l.1 c.args.rest l.2 l.3 c.requires.rest c.requires.calls c.call_clauses.ensures.holds view c.requires.ready
    refl refl k.whole c.in-Refused.error b.ball r b.over b.is refl in
    subst (λ (z : Engine). IsReady n u z) (sym b.doing) moved.1

pub returns-in_ok-raise-in-Refused-clause-stepped : goal.returns-in_ok-raise-in-Refused-clause-stepped
returns-in_ok-raise-in-Refused-clause-stepped g c =
    let e = c.args.self.now in
    let a = c.call_clauses.new.atoms in
    let m = g.W.A.Atoms.held c.args.atoms.now in
    let n = g.W.A.Atoms.held a in
    let t = g.W.World.told c.args.world.now in
    let u = g.W.World.told c.call_clauses.new.world in
    let x = c.call_clauses.new.search in
    let view = view_is n u (g.met.W.A.Atoms.fixed_held a) (g.met.W.A.Atoms.unlike a) (g.met.W.A.Atoms.finite a) in
    let l = c.requires.list in
    let k = c.in_ok-called.ensures in
    let b = c.in_ok-raise-in-Refused.ensures.thrown in
    let f : Engine = record e { search = x; doing = Throwing b.ball c.args.rest } in
    let r = subst (IsCalled m t e.search c.args.goal c.args.rest n u x) c.in-Refused.is k.called in
    let moved = refused_moved m n t u e f c.args.goal c.args.procedure l.0 l.1 c.args.rest l.2 l.3 c.requires.rest c.requires.calls c.call_clauses.ensures.holds view c.requires.ready
    refl refl k.whole c.in-Refused.error b.ball r b.over b.is refl in
    subst (λ (z : Engine). Advances 1 m t e n u z []) (sym b.doing) moved.0

pub returns-in_err-called-clause-ready : goal.returns-in_err-called-clause-ready
returns-in_err-called-clause-ready g c =
    let e = c.args.self.now in
    let a = c.call_clauses.new.atoms in
    let m = g.W.A.Atoms.held c.args.atoms.now in
    let n = g.W.A.Atoms.held a in
    let t = g.W.World.told c.args.world.now in
    let u = g.W.World.told c.call_clauses.new.world in
    let x = c.call_clauses.new.search in
    let f : Engine = record e { search = x } in
    let w = c.in_err-called.field-0.0 in
    let exit = at_exit c.from_residual.result w c.from_residual.ensures.1 in
    refused_end Called c.from_residual.result w exit (IsTakenBack t e.search u x) (λ o. IsReady n u f) c.in_err-called.ensures.taken_back
    (λ s again back. (called_back m n t u e f c.call_clauses.ensures.holds (view_is n u (g.met.W.A.Atoms.fixed_held a) (g.met.W.A.Atoms.unlike a) (g.met.W.A.Atoms.finite a)) c.requires.ready
    back.0 (ap (λ (y : Search). let z : Engine = record e { search = y } in z) back.1)).1)

pub returns-in_err-called-clause-stepped : goal.returns-in_err-called-clause-stepped
returns-in_err-called-clause-stepped g c =
    let e = c.args.self.now in
    let a = c.call_clauses.new.atoms in
    let m = g.W.A.Atoms.held c.args.atoms.now in
    let n = g.W.A.Atoms.held a in
    let t = g.W.World.told c.args.world.now in
    let u = g.W.World.told c.call_clauses.new.world in
    let x = c.call_clauses.new.search in
    let f : Engine = record e { search = x } in
    let w = c.in_err-called.field-0.0 in
    let exit = at_exit c.from_residual.result w c.from_residual.ensures.1 in
    refused_end Called c.from_residual.result w exit (IsTakenBack t e.search u x) (λ o. IsStepped m t e o n u f []) c.in_err-called.ensures.taken_back
    (λ s again back. refused_step m t e n u f s again (called_back m n t u e f c.call_clauses.ensures.holds (view_is n u (g.met.W.A.Atoms.fixed_held a) (g.met.W.A.Atoms.unlike a) (g.met.W.A.Atoms.finite a)) c.requires.ready
    back.0 (ap (λ (y : Search). let z : Engine = record e { search = y } in z) back.1)).0)

pub returns-in_err-called-clause-spent : goal.returns-in_err-called-clause-spent
returns-in_err-called-clause-spent g c =
    let e = c.args.self.now in
    let a = c.call_clauses.new.atoms in
    let m = g.W.A.Atoms.held c.args.atoms.now in
    let n = g.W.A.Atoms.held a in
    let t = g.W.World.told c.args.world.now in
    let u = g.W.World.told c.call_clauses.new.world in
    let x = c.call_clauses.new.search in
    let f : Engine = record e { search = x } in
    let w = c.in_err-called.field-0.0 in
    let exit = at_exit c.from_residual.result w c.from_residual.ensures.1 in
    refused_end Called c.from_residual.result w exit (IsTakenBack t e.search u x) (λ o. IsSpent e.search.inferences x.inferences) c.in_err-called.ensures.taken_back
    (λ s again back. inl (ap (λ (y : Search). y.inferences) back.1))

pub returns-in_err-called-clause-refusals : goal.returns-in_err-called-clause-refusals
returns-in_err-called-clause-refusals g c =
    let w = c.in_err-called.field-0.0 in
    refused_list Called c.from_residual.result w (at_exit c.from_residual.result w c.from_residual.ensures.1) (g.W.A.Atoms.refusals c.args.atoms.now)
    (g.W.A.Atoms.refusals c.call_clauses.new.atoms) (unless_memory Called w c.in_err-called.ensures.refusals)

pub returns-in_err-called-clause-asked : goal.returns-in_err-called-clause-asked
returns-in_err-called-clause-asked g c =
    let a = c.args.atoms.now in
    let m = g.W.A.Atoms.held a in
    let t = g.W.World.told c.args.world.now in
    let view = view_is m t (g.met.W.A.Atoms.fixed_held a) (g.met.W.A.Atoms.unlike a) (g.met.W.A.Atoms.finite a) in
    let l = c.requires.list in
    call_asks_for m t c.args.self.now c.args.goal c.args.procedure l.0 l.1 c.args.rest l.2 l.3 c.requires.rest c.requires.calls view (g.W.A.Atoms.asked a)
    (g.W.A.Atoms.asked c.call_clauses.new.atoms) c.call_clauses.ensures.asked

pub returns-in_err-go_on_apart-in-Spent-clause-asked : goal.returns-in_err-go_on_apart-in-Spent-clause-asked
returns-in_err-go_on_apart-in-Spent-clause-asked g c =
    let a = c.args.atoms.now in
    let m = g.W.A.Atoms.held a in
    let t = g.W.World.told c.args.world.now in
    let view = view_is m t (g.met.W.A.Atoms.fixed_held a) (g.met.W.A.Atoms.unlike a) (g.met.W.A.Atoms.finite a) in
    let l = c.requires.list in
    call_asks_for m t c.args.self.now c.args.goal c.args.procedure l.0 l.1 c.args.rest l.2 l.3 c.requires.rest c.requires.calls view (g.W.A.Atoms.asked a)
    (g.W.A.Atoms.asked c.call_clauses.new.atoms) c.call_clauses.ensures.asked

pub returns-in_ok-go_on_apart-in-Spent-clause-asked : goal.returns-in_ok-go_on_apart-in-Spent-clause-asked
returns-in_ok-go_on_apart-in-Spent-clause-asked g c =
    let a = c.args.atoms.now in
    let m = g.W.A.Atoms.held a in
    let t = g.W.World.told c.args.world.now in
    let view = view_is m t (g.met.W.A.Atoms.fixed_held a) (g.met.W.A.Atoms.unlike a) (g.met.W.A.Atoms.finite a) in
    let l = c.requires.list in
    call_asks_for m t c.args.self.now c.args.goal c.args.procedure l.0 l.1 c.args.rest l.2 l.3 c.requires.rest c.requires.calls view (g.W.A.Atoms.asked a)
    (g.W.A.Atoms.asked c.call_clauses.new.atoms) c.call_clauses.ensures.asked

pub returns-in_err-go_on-in-Ran-clause-asked : goal.returns-in_err-go_on-in-Ran-clause-asked
returns-in_err-go_on-in-Ran-clause-asked g c =
    let a = c.args.atoms.now in
    let m = g.W.A.Atoms.held a in
    let t = g.W.World.told c.args.world.now in
    let view = view_is m t (g.met.W.A.Atoms.fixed_held a) (g.met.W.A.Atoms.unlike a) (g.met.W.A.Atoms.finite a) in
    let l = c.requires.list in
    call_asks_for m t c.args.self.now c.args.goal c.args.procedure l.0 l.1 c.args.rest l.2 l.3 c.requires.rest c.requires.calls view (g.W.A.Atoms.asked a)
    (g.W.A.Atoms.asked c.call_clauses.new.atoms) c.call_clauses.ensures.asked

pub returns-in_ok-go_on-in-Ran-clause-asked : goal.returns-in_ok-go_on-in-Ran-clause-asked
returns-in_ok-go_on-in-Ran-clause-asked g c =
    let a = c.args.atoms.now in
    let m = g.W.A.Atoms.held a in
    let t = g.W.World.told c.args.world.now in
    let view = view_is m t (g.met.W.A.Atoms.fixed_held a) (g.met.W.A.Atoms.unlike a) (g.met.W.A.Atoms.finite a) in
    let l = c.requires.list in
    call_asks_for m t c.args.self.now c.args.goal c.args.procedure l.0 l.1 c.args.rest l.2 l.3 c.requires.rest c.requires.calls view (g.W.A.Atoms.asked a)
    (g.W.A.Atoms.asked c.call_clauses.new.atoms) c.call_clauses.ensures.asked

pub returns-in_err-raise-in-Refused-clause-asked : goal.returns-in_err-raise-in-Refused-clause-asked
returns-in_err-raise-in-Refused-clause-asked g c =
    let a = c.args.atoms.now in
    let m = g.W.A.Atoms.held a in
    let t = g.W.World.told c.args.world.now in
    let view = view_is m t (g.met.W.A.Atoms.fixed_held a) (g.met.W.A.Atoms.unlike a) (g.met.W.A.Atoms.finite a) in
    let l = c.requires.list in
    call_asks_for m t c.args.self.now c.args.goal c.args.procedure l.0 l.1 c.args.rest l.2 l.3 c.requires.rest c.requires.calls view (g.W.A.Atoms.asked a)
    (g.W.A.Atoms.asked c.call_clauses.new.atoms) c.call_clauses.ensures.asked

pub returns-in_ok-raise-in-Refused-clause-asked : goal.returns-in_ok-raise-in-Refused-clause-asked
returns-in_ok-raise-in-Refused-clause-asked g c =
    let a = c.args.atoms.now in
    let m = g.W.A.Atoms.held a in
    let t = g.W.World.told c.args.world.now in
    let view = view_is m t (g.met.W.A.Atoms.fixed_held a) (g.met.W.A.Atoms.unlike a) (g.met.W.A.Atoms.finite a) in
    let l = c.requires.list in
    call_asks_for m t c.args.self.now c.args.goal c.args.procedure l.0 l.1 c.args.rest l.2 l.3 c.requires.rest c.requires.calls view (g.W.A.Atoms.asked a)
    (g.W.A.Atoms.asked c.call_clauses.new.atoms) c.call_clauses.ensures.asked

pub call_clauses-requires-clause-callable : goal.call_clauses-requires-clause-callable
call_clauses-requires-clause-callable g c i is = c.requires.calls.callable (i, is)
