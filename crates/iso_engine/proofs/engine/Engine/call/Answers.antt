use Rattle.std.proofs.Common.{◌≡◌, ◌≤◌, ℕ, [], ◌∷◌, ◌++◌, List, length, refl, sym, ap, subst, ◌∙◌, append-nil}
use Rattle.std.specs.Prelude.{IfNone, IfOk, OnOk, false}
use Rattle.atom_api.specs.Names.{Names}
use Rattle.world_api.specs.Gains.{Gains}
use Rattle.world_api.specs.Texts.{Holds}
use Rattle.world_api.specs.Told.{Told, has_ended}
use Rattle.world_api.proofs.Gaining.{gains_nothing}
use Rattle.iso_search.specs.declared.choices.Purpose.TheVariants.{Resolving}
use Rattle.iso_search.specs.declared.frames.Task.TheVariants.{Goal}
use Rattle.iso_search.specs.declared.search.Search.{Search}
use Rattle.iso_search.specs.Frames.{tasks}
use Rattle.iso_engine.specs.declared.doing.Doing.TheVariants.{Running}
use Rattle.iso_engine.specs.declared.engine.Engine.{Engine}
use Rattle.iso_engine.specs.Advancing.{Advances}
use Rattle.iso_engine.specs.Asked.{AsksFor}
use Rattle.iso_engine.specs.Called.{IsRun}
use Rattle.iso_engine.specs.Calling.{IsCallAt}
use Rattle.iso_engine.specs.Ready.{IsReady}
use Rattle.iso_engine.specs.Slices.{IsStepped}
use Rattle.iso_engine.specs.Spending.{IsSpent}
use Rattle.iso_engine.specs.Unserved.{as_stopped, stopped_refusals}
use Rattle.iso_engine.proofs.KnownAnswers.{from_engine, same_held, to_engine, where_none, where_some}
use Rattle.iso_engine.proofs.Moved.{ran_moved}
use Rattle.iso_engine.proofs.Opening.{goal_held}
use Rattle.iso_engine.proofs.Solutions.{view_is}
use Rattle.iso_engine.proofs.engine.Engine.call.Goals as goal

pub call_known-requires-clause-held : goal.call_known-requires-clause-held
call_known-requires-clause-held g c =
    let e = c.args.self.now in
    let a = c.args.atoms.now in
    let l = c.requires.list in
    goal_held (g.W.A.Atoms.held a) (g.W.World.told c.args.world.now) e l.0 l.1 c.args.goal c.args.rest l.2 l.3 c.requires.ready.stable (g.met.W.A.Atoms.fixed_held a)
    (g.met.W.A.Atoms.unlike a) (g.met.W.A.Atoms.finite a)

pub returns-in_ok-go_on-in-Some-clause-spent : goal.returns-in_ok-go_on-in-Some-clause-spent
returns-in_ok-go_on-in-Some-clause-spent g c =
    let e = c.args.self.now in
    let a = c.call_known.new.atoms in
    let m = g.W.A.Atoms.held c.args.atoms.now in
    let n = g.W.A.Atoms.held a in
    let t = g.W.World.told c.args.world.now in
    let u = g.W.World.told c.call_known.new.world in
    let x = c.call_known.new.search in
    let view = view_is n u (g.met.W.A.Atoms.fixed_held a) (g.met.W.A.Atoms.unlike a) (g.met.W.A.Atoms.finite a) in
    let l = c.requires.list in
    let k = c.in_ok-known.ensures in
    let went = c.in_ok-go_on-in-Some.ensures in
    let f : Engine = record e { search = x; doing = c.go_on.new.self.doing } in
    let o = c.in-Some.outcome in
    let run = where_some (IsRun Resolving m t e.search c.args.goal c.args.rest n u x) c.in_ok-known.known o c.in-Some.is k.called in
    let moved = ran_moved m n t u e f c.args.goal c.args.procedure l.0 l.1 c.args.rest l.2 l.3 c.requires.rest c.requires.calls (same_held m n c.call_known.ensures.held) view c.requires.ready
    refl refl k.whole o run went.follows in
    subst (λ (z : Engine). IsSpent e.search.inferences z.search.inferences) (sym went.kept) moved.2

pub returns-in_ok-go_on-in-Some-clause-ready : goal.returns-in_ok-go_on-in-Some-clause-ready
returns-in_ok-go_on-in-Some-clause-ready g c =
    let e = c.args.self.now in
    let a = c.call_known.new.atoms in
    let m = g.W.A.Atoms.held c.args.atoms.now in
    let n = g.W.A.Atoms.held a in
    let t = g.W.World.told c.args.world.now in
    let u = g.W.World.told c.call_known.new.world in
    let x = c.call_known.new.search in
    let view = view_is n u (g.met.W.A.Atoms.fixed_held a) (g.met.W.A.Atoms.unlike a) (g.met.W.A.Atoms.finite a) in
    let l = c.requires.list in
    let k = c.in_ok-known.ensures in
    let went = c.in_ok-go_on-in-Some.ensures in
    let f : Engine = record e { search = x; doing = c.go_on.new.self.doing } in
    let o = c.in-Some.outcome in
    let run = where_some (IsRun Resolving m t e.search c.args.goal c.args.rest n u x) c.in_ok-known.known o c.in-Some.is k.called in
    let moved = ran_moved m n t u e f c.args.goal c.args.procedure l.0 l.1 c.args.rest l.2 l.3 c.requires.rest c.requires.calls (same_held m n c.call_known.ensures.held) view c.requires.ready
    refl refl k.whole o run went.follows in
    subst (λ (z : Engine). IsReady n u z) (sym went.kept) moved.1

pub returns-in_ok-go_on-in-Some-clause-stepped : goal.returns-in_ok-go_on-in-Some-clause-stepped
returns-in_ok-go_on-in-Some-clause-stepped g c =
    let e = c.args.self.now in
    let a = c.call_known.new.atoms in
    let m = g.W.A.Atoms.held c.args.atoms.now in
    let n = g.W.A.Atoms.held a in
    let t = g.W.World.told c.args.world.now in
    let u = g.W.World.told c.call_known.new.world in
    let x = c.call_known.new.search in
    let view = view_is n u (g.met.W.A.Atoms.fixed_held a) (g.met.W.A.Atoms.unlike a) (g.met.W.A.Atoms.finite a) in
    let l = c.requires.list in
    let k = c.in_ok-known.ensures in
    let went = c.in_ok-go_on-in-Some.ensures in
    let f : Engine = record e { search = x; doing = c.go_on.new.self.doing } in
    let o = c.in-Some.outcome in
    let run = where_some (IsRun Resolving m t e.search c.args.goal c.args.rest n u x) c.in_ok-known.known o c.in-Some.is k.called in
    let moved = ran_moved m n t u e f c.args.goal c.args.procedure l.0 l.1 c.args.rest l.2 l.3 c.requires.rest c.requires.calls (same_held m n c.call_known.ensures.held) view c.requires.ready
    refl refl k.whole o run went.follows in
    subst (λ (z : Engine). Advances 1 m t e n u z []) (sym went.kept) moved.0

pub call_anew-requires-clause-runs : goal.call_anew-requires-clause-runs
call_anew-requires-clause-runs g c =
    let m : Names = g.W.A.Atoms.held c.args.atoms.now in
    let k : Names = g.W.A.Atoms.held c.call_known.new.atoms in
    let t : Told = g.W.World.told c.args.world.now in
    let u : Told = g.W.World.told c.call_known.new.world in
    let e : Engine = c.args.self.now in
    let d : Search = c.call_known.new.search in
    let none = where_none ((u ≡ t) × (d ≡ e.search)) c.in_ok-known.known c.in-None.is c.in_ok-known.ensures.none in
    to_engine (λ (m : Names) (t : Told) (e : Engine). has_ended t.engine t.history ≡ false) m k t u e d c.call_known.ensures.held none.0 none.1 c.requires.runs

pub call_anew-requires-clause-ready : goal.call_anew-requires-clause-ready
call_anew-requires-clause-ready g c =
    let m : Names = g.W.A.Atoms.held c.args.atoms.now in
    let k : Names = g.W.A.Atoms.held c.call_known.new.atoms in
    let t : Told = g.W.World.told c.args.world.now in
    let u : Told = g.W.World.told c.call_known.new.world in
    let e : Engine = c.args.self.now in
    let d : Search = c.call_known.new.search in
    let none = where_none ((u ≡ t) × (d ≡ e.search)) c.in_ok-known.known c.in-None.is c.in_ok-known.ensures.none in
    to_engine (λ (m : Names) (t : Told) (e : Engine). IsReady m t e) m k t u e d c.call_known.ensures.held none.0 none.1 c.requires.ready

pub call_anew-requires-clause-list : goal.call_anew-requires-clause-list
call_anew-requires-clause-list g c =
    let m : Names = g.W.A.Atoms.held c.args.atoms.now in
    let k : Names = g.W.A.Atoms.held c.call_known.new.atoms in
    let t : Told = g.W.World.told c.args.world.now in
    let u : Told = g.W.World.told c.call_known.new.world in
    let e : Engine = c.args.self.now in
    let d : Search = c.call_known.new.search in
    let none = where_none ((u ≡ t) × (d ≡ e.search)) c.in_ok-known.known c.in-None.is c.in_ok-known.ensures.none in
    to_engine (λ (m : Names) (t : Told) (e : Engine). (list cut : ℕ) × (e.doing ≡ Running list) × (tasks e.search.frames.items list ≡ Goal c.args.goal cut ∷ tasks e.search.frames.items c.args.rest)) m k t u e d c.call_known.ensures.held none.0 none.1 c.requires.list

pub call_anew-requires-clause-rest : goal.call_anew-requires-clause-rest
call_anew-requires-clause-rest g c =
    let m : Names = g.W.A.Atoms.held c.args.atoms.now in
    let k : Names = g.W.A.Atoms.held c.call_known.new.atoms in
    let t : Told = g.W.World.told c.args.world.now in
    let u : Told = g.W.World.told c.call_known.new.world in
    let e : Engine = c.args.self.now in
    let d : Search = c.call_known.new.search in
    let none = where_none ((u ≡ t) × (d ≡ e.search)) c.in_ok-known.known c.in-None.is c.in_ok-known.ensures.none in
    to_engine (λ (m : Names) (t : Told) (e : Engine). c.args.rest ≤ length e.search.frames.items) m k t u e d c.call_known.ensures.held none.0 none.1 c.requires.rest

pub call_anew-requires-clause-calls : goal.call_anew-requires-clause-calls
call_anew-requires-clause-calls g c =
    let m : Names = g.W.A.Atoms.held c.args.atoms.now in
    let k : Names = g.W.A.Atoms.held c.call_known.new.atoms in
    let t : Told = g.W.World.told c.args.world.now in
    let u : Told = g.W.World.told c.call_known.new.world in
    let e : Engine = c.args.self.now in
    let d : Search = c.call_known.new.search in
    let none = where_none ((u ≡ t) × (d ≡ e.search)) c.in_ok-known.known c.in-None.is c.in_ok-known.ensures.none in
    to_engine (λ (m : Names) (t : Told) (e : Engine). IsCallAt e.search.store c.args.goal c.args.procedure) m k t u e d c.call_known.ensures.held none.0 none.1 c.requires.calls

pub returns-in-None-clause-holds : goal.returns-in-None-clause-holds
returns-in-None-clause-holds g c =
    let m : Names = g.W.A.Atoms.held c.args.atoms.now in
    let k : Names = g.W.A.Atoms.held c.call_known.new.atoms in
    let t : Told = g.W.World.told c.args.world.now in
    let u : Told = g.W.World.told c.call_known.new.world in
    let e : Engine = c.args.self.now in
    let d : Search = c.call_known.new.search in
    let none = where_none ((u ≡ t) × (d ≡ e.search)) c.in_ok-known.known c.in-None.is c.in_ok-known.ensures.none in
    let n : Names = g.W.A.Atoms.held c.call_anew.new.atoms in
    let x : Told = g.W.World.told c.call_anew.new.world in
    let f : Engine = c.call_anew.new.self in
    from_engine (λ (m : Names) (t : Told) (e : Engine). Holds m n) m k t u e d c.call_known.ensures.held none.0 none.1 c.call_anew.ensures.holds

pub returns-in-None-clause-given : goal.returns-in-None-clause-given
returns-in-None-clause-given g c =
    let m : Names = g.W.A.Atoms.held c.args.atoms.now in
    let k : Names = g.W.A.Atoms.held c.call_known.new.atoms in
    let t : Told = g.W.World.told c.args.world.now in
    let u : Told = g.W.World.told c.call_known.new.world in
    let e : Engine = c.args.self.now in
    let d : Search = c.call_known.new.search in
    let none = where_none ((u ≡ t) × (d ≡ e.search)) c.in_ok-known.known c.in-None.is c.in_ok-known.ensures.none in
    let n : Names = g.W.A.Atoms.held c.call_anew.new.atoms in
    let x : Told = g.W.World.told c.call_anew.new.world in
    let f : Engine = c.call_anew.new.self in
    from_engine (λ (m : Names) (t : Told) (e : Engine). OnOk (as_stopped c.call_anew.result) (f.solutions_found ≡ e.solutions_found)) m k t u e d c.call_known.ensures.held none.0 none.1 c.call_anew.ensures.given

pub returns-in-None-clause-spent : goal.returns-in-None-clause-spent
returns-in-None-clause-spent g c =
    let m : Names = g.W.A.Atoms.held c.args.atoms.now in
    let k : Names = g.W.A.Atoms.held c.call_known.new.atoms in
    let t : Told = g.W.World.told c.args.world.now in
    let u : Told = g.W.World.told c.call_known.new.world in
    let e : Engine = c.args.self.now in
    let d : Search = c.call_known.new.search in
    let none = where_none ((u ≡ t) × (d ≡ e.search)) c.in_ok-known.known c.in-None.is c.in_ok-known.ensures.none in
    let n : Names = g.W.A.Atoms.held c.call_anew.new.atoms in
    let x : Told = g.W.World.told c.call_anew.new.world in
    let f : Engine = c.call_anew.new.self in
    from_engine (λ (m : Names) (t : Told) (e : Engine). OnOk (as_stopped c.call_anew.result) (IsSpent e.search.inferences f.search.inferences)) m k t u e d c.call_known.ensures.held none.0 none.1 c.call_anew.ensures.spent

pub returns-in-None-clause-stepped : goal.returns-in-None-clause-stepped
returns-in-None-clause-stepped g c =
    let m : Names = g.W.A.Atoms.held c.args.atoms.now in
    let k : Names = g.W.A.Atoms.held c.call_known.new.atoms in
    let t : Told = g.W.World.told c.args.world.now in
    let u : Told = g.W.World.told c.call_known.new.world in
    let e : Engine = c.args.self.now in
    let d : Search = c.call_known.new.search in
    let none = where_none ((u ≡ t) × (d ≡ e.search)) c.in_ok-known.known c.in-None.is c.in_ok-known.ensures.none in
    let n : Names = g.W.A.Atoms.held c.call_anew.new.atoms in
    let x : Told = g.W.World.told c.call_anew.new.world in
    let f : Engine = c.call_anew.new.self in
    from_engine (λ (m : Names) (t : Told) (e : Engine). IfOk (as_stopped c.call_anew.result) (λ o. IsStepped m t e o n x f [])) m k t u e d c.call_known.ensures.held none.0 none.1 c.call_anew.ensures.stepped

pub returns-in-None-clause-asked : goal.returns-in-None-clause-asked
returns-in-None-clause-asked g c =
    let m : Names = g.W.A.Atoms.held c.args.atoms.now in
    let k : Names = g.W.A.Atoms.held c.call_known.new.atoms in
    let t : Told = g.W.World.told c.args.world.now in
    let u : Told = g.W.World.told c.call_known.new.world in
    let e : Engine = c.args.self.now in
    let d : Search = c.call_known.new.search in
    let none = where_none ((u ≡ t) × (d ≡ e.search)) c.in_ok-known.known c.in-None.is c.in_ok-known.ensures.none in
    let n : Names = g.W.A.Atoms.held c.call_anew.new.atoms in
    let x : Told = g.W.World.told c.call_anew.new.world in
    let f : Engine = c.call_anew.new.self in
    from_engine (λ (m : Names) (t : Told) (e : Engine). Gains (AsksFor m t e) (g.W.A.Atoms.asked c.args.atoms.now) (g.W.A.Atoms.asked c.call_anew.new.atoms)) m k t u e d c.call_known.ensures.held none.0 none.1 (subst (λ a. Gains (AsksFor k u (record e { search = d })) a (g.W.A.Atoms.asked c.call_anew.new.atoms)) c.call_known.ensures.asked c.call_anew.ensures.asked)

pub returns-in-None-clause-refusals : goal.returns-in-None-clause-refusals
returns-in-None-clause-refusals g c =
    subst (λ l. IfOk (as_stopped c.call_anew.result) (λ o. g.W.A.Atoms.refusals c.call_anew.new.atoms ≡ l ++ stopped_refusals o)) c.call_known.ensures.refusals c.call_anew.ensures.refusals

pub returns-in_err-known-clause-asked : goal.returns-in_err-known-clause-asked
returns-in_err-known-clause-asked g c =
    gains_nothing (AsksFor (g.W.A.Atoms.held c.args.atoms.now) (g.W.World.told c.args.world.now) c.args.self.now) (g.W.A.Atoms.asked c.args.atoms.now)
    (g.W.A.Atoms.asked c.call_known.new.atoms) c.call_known.ensures.asked

pub returns-in_err-go_on-in-Some-clause-asked : goal.returns-in_err-go_on-in-Some-clause-asked
returns-in_err-go_on-in-Some-clause-asked g c =
    gains_nothing (AsksFor (g.W.A.Atoms.held c.args.atoms.now) (g.W.World.told c.args.world.now) c.args.self.now) (g.W.A.Atoms.asked c.args.atoms.now)
    (g.W.A.Atoms.asked c.call_known.new.atoms) c.call_known.ensures.asked

pub returns-in_ok-go_on-in-Some-clause-asked : goal.returns-in_ok-go_on-in-Some-clause-asked
returns-in_ok-go_on-in-Some-clause-asked g c =
    gains_nothing (AsksFor (g.W.A.Atoms.held c.args.atoms.now) (g.W.World.told c.args.world.now) c.args.self.now) (g.W.A.Atoms.asked c.args.atoms.now)
    (g.W.A.Atoms.asked c.call_known.new.atoms) c.call_known.ensures.asked
