use Rattle.std.proofs.Common.{◌≡◌, [], subst}
use Rattle.std.proofs.lemmas.Result.{IfOk-weaker}
use Rattle.world_api.specs.Gains.{Gains}
use Rattle.iso_search.specs.declared.failure.Back.TheVariants.{Retry}
use Rattle.iso_search.specs.declared.search.Search.{Search}
use Rattle.iso_engine.specs.Asked.{AsksFor}
use Rattle.iso_engine.specs.declared.engine.Engine.{Engine}
use Rattle.iso_engine.specs.Ready.{IsReady}
use Rattle.iso_engine.specs.Slices.{IsStepped}
use Rattle.iso_engine.specs.Spending.{IsSpent}
use Rattle.iso_engine.specs.Unserved.{as_stopped}
use Rattle.iso_engine.proofs.Failed.{IsStepAfter, retried_end}
use Rattle.iso_engine.proofs.Interning.{retry_asks_for}
use Rattle.iso_engine.proofs.Opening.{newest_held, newest_open}
use Rattle.iso_engine.proofs.Solutions.{view_is}
use Rattle.iso_engine.proofs.engine.Engine.fail.Goals as goal

pub retry-requires-clause-held : goal.retry-requires-clause-held
retry-requires-clause-held g c =
    let e = c.args.self.now in
    let a = c.args.atoms.now in
    let m = g.W.A.Atoms.held a in
    let t = g.W.World.told c.args.world.now in
    let view = view_is m t (g.met.W.A.Atoms.fixed_held a) (g.met.W.A.Atoms.unlike a) (g.met.W.A.Atoms.finite a) in
    let x = c.resume_clauses.new.search in
    let r = c.in-Some.left in
    let taken = c.in-Some.ensures.taken in
    newest_held m t e.search x e.doing r.purpose r.goal r.generation r.place r.next c.requires.ready.stable taken view (g.met.W.A.Atoms.fixed_held a) (g.met.W.A.Atoms.unlike a) (g.met.W.A.Atoms.finite a)

pub retry-requires-clause-open : goal.retry-requires-clause-open
retry-requires-clause-open g c =
    let e = c.args.self.now in
    let a = c.args.atoms.now in
    let m = g.W.A.Atoms.held a in
    let t = g.W.World.told c.args.world.now in
    let view = view_is m t (g.met.W.A.Atoms.fixed_held a) (g.met.W.A.Atoms.unlike a) (g.met.W.A.Atoms.finite a) in
    let x = c.resume_clauses.new.search in
    let r = c.in-Some.left in
    let taken = c.in-Some.ensures.taken in
    newest_open m t e.search x e.doing r.purpose r.goal r.generation r.place r.next c.requires.ready.stable taken view

pub returns-in-Some-clause-given : goal.returns-in-Some-clause-given
returns-in-Some-clause-given g c =
    let e = c.args.self.now in
    let a = c.retry.new.atoms in
    let m = g.W.A.Atoms.held c.args.atoms.now in
    let n = g.W.A.Atoms.held a in
    let t = g.W.World.told c.args.world.now in
    let u = g.W.World.told c.retry.new.world in
    let view = view_is n u (g.met.W.A.Atoms.fixed_held a) (g.met.W.A.Atoms.unlike a) (g.met.W.A.Atoms.finite a) in
    let x = c.resume_clauses.new.search in
    let f = c.retry.new.self in
    let r = c.in-Some.left in
    let b = Retry r.purpose r.goal r.generation r.place r.next in
    let end = as_stopped c.retry.result in
    let taken = c.in-Some.ensures.taken in
    let step = retried_end m n t u e x f b tt c.retry.ensures.holds view c.requires.ready c.requires.fails c.resume_clauses.ensures.kept end
    c.retry.ensures.whole c.retry.ensures.gone taken
    c.in-Some.ensures.step in
    IfOk-weaker end (IsStepAfter m t e n u f) (λ o. f.solutions_found ≡ e.solutions_found) (λ o h. h.3) step

pub returns-in-Some-clause-spent : goal.returns-in-Some-clause-spent
returns-in-Some-clause-spent g c =
    let e = c.args.self.now in
    let a = c.retry.new.atoms in
    let m = g.W.A.Atoms.held c.args.atoms.now in
    let n = g.W.A.Atoms.held a in
    let t = g.W.World.told c.args.world.now in
    let u = g.W.World.told c.retry.new.world in
    let view = view_is n u (g.met.W.A.Atoms.fixed_held a) (g.met.W.A.Atoms.unlike a) (g.met.W.A.Atoms.finite a) in
    let x = c.resume_clauses.new.search in
    let f = c.retry.new.self in
    let r = c.in-Some.left in
    let b = Retry r.purpose r.goal r.generation r.place r.next in
    let end = as_stopped c.retry.result in
    let taken = c.in-Some.ensures.taken in
    let step = retried_end m n t u e x f b tt c.retry.ensures.holds view c.requires.ready c.requires.fails c.resume_clauses.ensures.kept end
    c.retry.ensures.whole c.retry.ensures.gone taken
    c.in-Some.ensures.step in
    IfOk-weaker end (IsStepAfter m t e n u f) (λ o. IsSpent e.search.inferences f.search.inferences) (λ o h. h.2) step

pub returns-in-Some-clause-ready : goal.returns-in-Some-clause-ready
returns-in-Some-clause-ready g c =
    let e = c.args.self.now in
    let a = c.retry.new.atoms in
    let m = g.W.A.Atoms.held c.args.atoms.now in
    let n = g.W.A.Atoms.held a in
    let t = g.W.World.told c.args.world.now in
    let u = g.W.World.told c.retry.new.world in
    let view = view_is n u (g.met.W.A.Atoms.fixed_held a) (g.met.W.A.Atoms.unlike a) (g.met.W.A.Atoms.finite a) in
    let x = c.resume_clauses.new.search in
    let f = c.retry.new.self in
    let r = c.in-Some.left in
    let b = Retry r.purpose r.goal r.generation r.place r.next in
    let end = as_stopped c.retry.result in
    let taken = c.in-Some.ensures.taken in
    let step = retried_end m n t u e x f b tt c.retry.ensures.holds view c.requires.ready c.requires.fails c.resume_clauses.ensures.kept end
    c.retry.ensures.whole c.retry.ensures.gone taken
    c.in-Some.ensures.step in
    IfOk-weaker end (IsStepAfter m t e n u f) (λ o. IsReady n u f) (λ o h. h.1) step

pub returns-in-Some-clause-stepped : goal.returns-in-Some-clause-stepped
returns-in-Some-clause-stepped g c =
    let e = c.args.self.now in
    let a = c.retry.new.atoms in
    let m = g.W.A.Atoms.held c.args.atoms.now in
    let n = g.W.A.Atoms.held a in
    let t = g.W.World.told c.args.world.now in
    let u = g.W.World.told c.retry.new.world in
    let view = view_is n u (g.met.W.A.Atoms.fixed_held a) (g.met.W.A.Atoms.unlike a) (g.met.W.A.Atoms.finite a) in
    let x = c.resume_clauses.new.search in
    let f = c.retry.new.self in
    let r = c.in-Some.left in
    let b = Retry r.purpose r.goal r.generation r.place r.next in
    let end = as_stopped c.retry.result in
    let taken = c.in-Some.ensures.taken in
    let step = retried_end m n t u e x f b tt c.retry.ensures.holds view c.requires.ready c.requires.fails c.resume_clauses.ensures.kept end
    c.retry.ensures.whole c.retry.ensures.gone taken
    c.in-Some.ensures.step in
    IfOk-weaker end (IsStepAfter m t e n u f) (λ o. IsStepped m t e o n u f []) (λ o h. h.0) step

pub returns-in-Some-clause-asked : goal.returns-in-Some-clause-asked
returns-in-Some-clause-asked g c =
    let e = c.args.self.now in
    let a = c.args.atoms.now in
    let x = c.resume_clauses.new.search in
    let r = c.in-Some.left in
    retry_asks_for (g.W.A.Atoms.held a) (g.W.World.told c.args.world.now) e x r.purpose r.goal r.generation r.place r.next c.requires.fails
    c.in-Some.ensures.taken (g.W.A.Atoms.asked a) (g.W.A.Atoms.asked c.retry.new.atoms) c.retry.ensures.asked

pub returns-clause-asked : goal.returns-clause-asked
returns-clause-asked g c =
    let e = c.args.self.now in
    let a = c.args.atoms.now in
    subst
    (λ (s : Search). let y : Engine = record e { search = s } in
    Gains (AsksFor (g.W.A.Atoms.held a) (g.W.World.told c.args.world.now) y) (g.W.A.Atoms.asked a) (g.W.A.Atoms.asked c.fail_apart.new.atoms))
    c.in_default.ensures.none c.fail_apart.ensures.asked
