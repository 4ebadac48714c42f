use Rattle.std.proofs.Common.{◌≡◌, ◌≤◌, ℕ, [], ◌∷◌, ◌++◌, List, length, refl, inl, sym, ap, subst, ◌∙◌, append-nil}
use Rattle.std.specs.Prelude.{IfNone, IfOk, OnOk, false}
use Rattle.atom_api.specs.Names.{Names}
use Rattle.world_api.specs.Gains.{Gains}
use Rattle.world_api.specs.Texts.{Holds}
use Rattle.world_api.specs.Told.{Told, has_ended}
use Rattle.world_api.proofs.Gaining.{gains_nothing}
use Rattle.iso_search.specs.declared.choices.Purpose.TheVariants.{Resolving}
use Rattle.iso_search.specs.declared.frames.Task.TheVariants.{Goal}
use Rattle.iso_search.specs.declared.search.Search.{Search}
use Rattle.iso_search.specs.Frames.{tasks}
use Rattle.iso_engine.specs.declared.doing.Doing.TheVariants.{Running}
use Rattle.iso_engine.specs.declared.engine.Engine.{Engine}
use Rattle.iso_engine.specs.Advancing.{Advances}
use Rattle.iso_engine.specs.Asked.{AsksFor}
use Rattle.iso_engine.specs.Called.{IsRun}
use Rattle.iso_engine.specs.Calling.{IsCallAt}
use Rattle.iso_engine.specs.Ready.{IsReady}
use Rattle.iso_engine.specs.Slices.{IsStepped}
use Rattle.iso_engine.specs.Spending.{IsSpent}
use Rattle.iso_engine.specs.Unserved.{as_stopped, stopped_refusals}
use Rattle.iso_engine.proofs.KnownAnswers.{from_engine, same_held, stands_still, to_engine, where_none, where_some}
use Rattle.iso_engine.proofs.Moved.{ran_moved}
use Rattle.iso_engine.proofs.Opening.{goal_held}
use Rattle.iso_engine.proofs.Solutions.{view_is}
use Rattle.iso_engine.proofs.engine.Engine.call_known.Goals as goal

pub call_known-requires-clause-held : goal.call_known-requires-clause-held
call_known-requires-clause-held g c =
    let e = c.args.self.now in
    let a = c.args.atoms.now in
    let l = c.requires.list in
    goal_held (g.W.A.Atoms.held a) (g.W.World.told c.args.world.now) e l.0 l.1 c.args.goal c.args.rest l.2 l.3 c.requires.ready.stable (g.met.W.A.Atoms.fixed_held a)
    (g.met.W.A.Atoms.unlike a) (g.met.W.A.Atoms.finite a)

pub returns-in_ok-go_on-in-Some-clause-spent : goal.returns-in_ok-go_on-in-Some-clause-spent
returns-in_ok-go_on-in-Some-clause-spent g c =
    let e = c.args.self.now in
    let a = c.call_known.new.atoms in
    let m = g.W.A.Atoms.held c.args.atoms.now in
    let n = g.W.A.Atoms.held a in
    let t = g.W.World.told c.args.world.now in
    let u = g.W.World.told c.call_known.new.world in
    let x = c.call_known.new.search in
    let view = view_is n u (g.met.W.A.Atoms.fixed_held a) (g.met.W.A.Atoms.unlike a) (g.met.W.A.Atoms.finite a) in
    let l = c.requires.list in
    let k = c.in_ok-known.ensures in
    let went = c.in_ok-go_on-in-Some.ensures in
    let f : Engine = record e { search = x; doing = c.go_on.new.self.doing } in
    let o = c.in-Some.outcome in
    let run = where_some (IsRun Resolving m t e.search c.args.goal c.args.rest n u x) c.in_ok-known.known o c.in-Some.is k.called in
    let moved = ran_moved m n t u e f c.args.goal c.args.procedure l.0 l.1 c.args.rest l.2 l.3 c.requires.rest c.requires.calls (same_held m n c.call_known.ensures.held) view c.requires.ready
    refl refl k.whole o run went.follows in
    subst (λ (z : Engine). IsSpent e.search.inferences z.search.inferences) (sym went.kept) moved.2

pub returns-in_ok-go_on-in-Some-clause-ready : goal.returns-in_ok-go_on-in-Some-clause-ready
returns-in_ok-go_on-in-Some-clause-ready g c =
    let e = c.args.self.now in
    let a = c.call_known.new.atoms in
    let m = g.W.A.Atoms.held c.args.atoms.now in
    let n = g.W.A.Atoms.held a in
    let t = g.W.World.told c.args.world.now in
    let u = g.W.World.told c.call_known.new.world in
    let x = c.call_known.new.search in
    let view = view_is n u (g.met.W.A.Atoms.fixed_held a) (g.met.W.A.Atoms.unlike a) (g.met.W.A.Atoms.finite a) in
    let l = c.requires.list in
    let k = c.in_ok-known.ensures in
    let went = c.in_ok-go_on-in-Some.ensures in
    let f : Engine = record e { search = x; doing = c.go_on.new.self.doing } in
    let o = c.in-Some.outcome in
    let run = where_some (IsRun Resolving m t e.search c.args.goal c.args.rest n u x) c.in_ok-known.known o c.in-Some.is k.called in
    let moved = ran_moved m n t u e f c.args.goal c.args.procedure l.0 l.1 c.args.rest l.2 l.3 c.requires.rest c.requires.calls (same_held m n c.call_known.ensures.held) view c.requires.ready
    refl refl k.whole o run went.follows in
    subst (λ (z : Engine). IsReady n u z) (sym went.kept) moved.1

pub returns-in_ok-go_on-in-Some-clause-quick : goal.returns-in_ok-go_on-in-Some-clause-quick
returns-in_ok-go_on-in-Some-clause-quick g c =
    let e = c.args.self.now in
    let a = c.call_known.new.atoms in
    let m = g.W.A.Atoms.held c.args.atoms.now in
    let n = g.W.A.Atoms.held a in
    let t = g.W.World.told c.args.world.now in
    let u = g.W.World.told c.call_known.new.world in
    let x = c.call_known.new.search in
    let view = view_is n u (g.met.W.A.Atoms.fixed_held a) (g.met.W.A.Atoms.unlike a) (g.met.W.A.Atoms.finite a) in
    let l = c.requires.list in
    let k = c.in_ok-known.ensures in
    let went = c.in_ok-go_on-in-Some.ensures in
    let f : Engine = record e { search = x; doing = c.go_on.new.self.doing } in
    let o = c.in-Some.outcome in
    let run = where_some (IsRun Resolving m t e.search c.args.goal c.args.rest n u x) c.in_ok-known.known o c.in-Some.is k.called in
    let moved = ran_moved m n t u e f c.args.goal c.args.procedure l.0 l.1 c.args.rest l.2 l.3 c.requires.rest c.requires.calls (same_held m n c.call_known.ensures.held) view c.requires.ready
    refl refl k.whole o run went.follows in
    subst (λ (z : Engine). Advances 1 m t e n u z []) (sym went.kept) moved.0

pub returns-in-None-clause-ready : goal.returns-in-None-clause-ready
returns-in-None-clause-ready g c =
    let m : Names = g.W.A.Atoms.held c.args.atoms.now in
    let k : Names = g.W.A.Atoms.held c.call_known.new.atoms in
    let t : Told = g.W.World.told c.args.world.now in
    let u : Told = g.W.World.told c.call_known.new.world in
    let e : Engine = c.args.self.now in
    let d : Search = c.call_known.new.search in
    let none = where_none ((u ≡ t) × (d ≡ e.search)) c.in_ok-known.known c.in-None.is c.in_ok-known.ensures.none in
    to_engine (λ (m : Names) (t : Told) (e : Engine). IsReady m t e) m k t u e d c.call_known.ensures.held none.0 none.1 c.requires.ready

pub returns-in-None-clause-spent : goal.returns-in-None-clause-spent
returns-in-None-clause-spent g c =
    let e : Engine = c.args.self.now in
    let d : Search = c.call_known.new.search in
    let none = where_none ((g.W.World.told c.call_known.new.world ≡ g.W.World.told c.args.world.now) × (d ≡ e.search)) c.in_ok-known.known c.in-None.is c.in_ok-known.ensures.none in
    inl (ap (λ (x : Search). x.inferences) none.1)

pub returns-in-None-clause-quick : goal.returns-in-None-clause-quick
returns-in-None-clause-quick g c =
    let e : Engine = c.args.self.now in
    let d : Search = c.call_known.new.search in
    let none = where_none ((g.W.World.told c.call_known.new.world ≡ g.W.World.told c.args.world.now) × (d ≡ e.search)) c.in_ok-known.known c.in-None.is c.in_ok-known.ensures.none in
    let f : Engine = record e { search = d } in
    stands_still (g.W.A.Atoms.held c.args.atoms.now) (g.W.A.Atoms.held c.call_known.new.atoms) (g.W.World.told c.args.world.now) (g.W.World.told c.call_known.new.world) e f
    c.call_known.ensures.held none.0 (ap (λ (x : Search). let z : Engine = record e { search = x } in z) none.1)
