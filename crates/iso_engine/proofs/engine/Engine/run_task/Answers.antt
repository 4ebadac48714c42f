use Rattle.std.proofs.Common.{◌≡◌, [], ◌++◌, List, refl, sym, subst}
use Rattle.std.specs.Prelude.{encode_utf8_all}
use Rattle.std.proofs.lemmas.Result.{IfOk-weaker}
use Rattle.pl_model.specs.Resolution.{Output}
use Rattle.world_api.specs.Told.{Told}
use Rattle.iso_search.specs.Frames.{tasks}
use Rattle.iso_search.specs.declared.search.Search.{Search}
use Rattle.iso_engine.specs.declared.engine.Engine.{Engine}
use Rattle.iso_engine.specs.Ready.{IsReady}
use Rattle.iso_engine.specs.Slices.{IsStepped, written_text}
use Rattle.iso_engine.specs.Tasks.{IsDone}
use Rattle.iso_engine.specs.Unserved.{as_stopped}
use Rattle.iso_engine.specs.Views.{view_of}
use Rattle.iso_engine.proofs.Interning.{asked_same, exit_asks_for, row_asks_for}
use Rattle.iso_engine.proofs.Refusals.{none_ok}
use Rattle.iso_engine.proofs.Solutions.{view_is}
use Rattle.iso_engine.proofs.Stability.{advance_step, spent_by, step_ready}
use Rattle.iso_engine.proofs.Stepping.{silent_out}
use Rattle.iso_engine.proofs.Tasking.{task_inside, task_steps}
use Rattle.iso_engine.proofs.engine.Engine.run_task.Goals as goal

pub do_task-requires-clause-task : goal.do_task-requires-clause-task
do_task-requires-clause-task g c =
    let e = c.args.self.now.search in
    let f = c.args.frame in
    let first = c.requires.first in
    task_inside e.store e.frames.items c.requires.ready.whole.base.words c.requires.ready.whole.base.linked c.args.list f.task (tasks e.frames.items f.continuation) first

pub returns-in-Next-clause-spent : goal.returns-in-Next-clause-spent
returns-in-Next-clause-spent g c =
    let e = c.args.self.now in
    let x = c.args.frame in
    let a = c.args.atoms.now in
    let m = g.W.A.Atoms.held a in
    let t = g.W.World.told c.args.world.now in
    let view = view_is m t (g.met.W.A.Atoms.fixed_held a) (g.met.W.A.Atoms.unlike a) (g.met.W.A.Atoms.finite a) in
    let first = c.requires.first in
    let did = c.in_ok-did in
    let f = c.do_task.new.search in
    let d = c.in-Next.doing in
    let steps = task_steps e.solution_limit e.solutions_found e.search f e.doing d c.args.list x.task x.continuation did.did c.requires.list first did.ensures.done c.in-Next.is in
    spent_by e.solution_limit e.solutions_found e.search e.doing f d m t steps view

pub returns-in-Next-clause-ready : goal.returns-in-Next-clause-ready
returns-in-Next-clause-ready g c =
    let e = c.args.self.now in
    let x = c.args.frame in
    let a = c.args.atoms.now in
    let m = g.W.A.Atoms.held a in
    let t = g.W.World.told c.args.world.now in
    let view = view_is m t (g.met.W.A.Atoms.fixed_held a) (g.met.W.A.Atoms.unlike a) (g.met.W.A.Atoms.finite a) in
    let first = c.requires.first in
    let did = c.in_ok-did in
    let f = c.do_task.new.search in
    let d = c.in-Next.doing in
    let steps = task_steps e.solution_limit e.solutions_found e.search f e.doing d c.args.list x.task x.continuation did.did c.requires.list first did.ensures.done c.in-Next.is in
    let new : Engine = record e { search = f; doing = d } in
    step_ready m t e new steps did.ensures.whole view c.requires.ready

pub returns-in-Next-clause-stepped : goal.returns-in-Next-clause-stepped
returns-in-Next-clause-stepped g c =
    let e = c.args.self.now in
    let x = c.args.frame in
    let a = c.args.atoms.now in
    let m = g.W.A.Atoms.held a in
    let t = g.W.World.told c.args.world.now in
    let view = view_is m t (g.met.W.A.Atoms.fixed_held a) (g.met.W.A.Atoms.unlike a) (g.met.W.A.Atoms.finite a) in
    let first = c.requires.first in
    let did = c.in_ok-did in
    let f = c.do_task.new.search in
    let d = c.in-Next.doing in
    let steps = task_steps e.solution_limit e.solutions_found e.search f e.doing d c.args.list x.task x.continuation did.did c.requires.list first did.ensures.done c.in-Next.is in
    let new : Engine = record e { search = f; doing = d } in
    ([], advance_step m t e new steps did.ensures.budgets refl refl view, silent_out c.args.out.now.items [] refl)

pub do_task-requires-clause-viewed : goal.do_task-requires-clause-viewed
do_task-requires-clause-viewed g c =
    let a = c.args.atoms.now in
    let m = g.W.A.Atoms.held a in
    let t = g.W.World.told c.args.world.now in
    (view_of m t, view_is m t (g.met.W.A.Atoms.fixed_held a) (g.met.W.A.Atoms.unlike a) (g.met.W.A.Atoms.finite a))

pub call_apart-requires-clause-ready : goal.call_apart-requires-clause-ready
call_apart-requires-clause-ready g c =
    let e = c.args.self.now in
    let x = c.args.frame in
    let f = c.do_task.new.search in
    let did = c.in_ok-did in
    let called = subst (IsDone e.search x.task x.continuation f) c.in-Call.is did.ensures.done in
    subst (λ (s : Search). let y : Engine = record e { search = s } in IsReady (g.W.A.Atoms.held c.args.atoms.now) (g.W.World.told c.args.world.now) y) (sym called.0)
    c.requires.ready

pub ask-requires-clause-ready : goal.ask-requires-clause-ready
ask-requires-clause-ready g c =
    let e = c.args.self.now in
    let x = c.args.frame in
    let f = c.do_task.new.search in
    let did = c.in_ok-did in
    let called = subst (IsDone e.search x.task x.continuation f) c.in-Ask.is did.ensures.done in
    subst (λ (s : Search). let y : Engine = record e { search = s } in IsReady (g.W.A.Atoms.held c.args.atoms.now) (g.W.World.told c.args.world.now) y) (sym called.0)
    c.requires.ready

pub write-requires-clause-ready : goal.write-requires-clause-ready
write-requires-clause-ready g c =
    let e = c.args.self.now in
    let x = c.args.frame in
    let f = c.do_task.new.search in
    let did = c.in_ok-did in
    let writes = subst (IsDone e.search x.task x.continuation f) c.in-Write.is did.ensures.done in
    subst (λ (s : Search). let y : Engine = record e { search = s } in IsReady (g.W.A.Atoms.held c.args.atoms.now) (g.W.World.told c.args.world.now) y) (sym writes.0)
    c.requires.ready

pub row-requires-clause-ready : goal.row-requires-clause-ready
row-requires-clause-ready g c =
    let e = c.args.self.now in
    let x = c.args.frame in
    let f = c.do_task.new.search in
    let done = subst (IsDone e.search x.task x.continuation f) c.in-Row.is c.in_ok-did.ensures.done in
    let m = g.W.A.Atoms.held c.args.atoms.now in
    let t = g.W.World.told c.args.world.now in
    let ready = subst (λ (s : Search). let y : Engine = record e { search = s } in IsReady m t y) (sym done.0) c.requires.ready in
    (t, ready)

pub returns-in-Call-clause-stepped : goal.returns-in-Call-clause-stepped
returns-in-Call-clause-stepped g c =
    let e = c.args.self.now in
    let x = c.args.frame in
    let f = c.do_task.new.search in
    let y : Engine = record e { search = f } in
    let done = subst (IsDone e.search x.task x.continuation f) c.in-Call.is c.in_ok-did.ensures.done in
    let m = g.W.A.Atoms.held c.args.atoms.now in
    let n = g.W.A.Atoms.held c.call_apart.new.atoms in
    let t = g.W.World.told c.args.world.now in
    let u = g.W.World.told c.call_apart.new.world in
    let after = c.call_apart.new.self in
    let end = as_stopped c.call_apart.result in
    let a = c.args.out.now.items in
    IfOk-weaker end (λ o. IsStepped m t y o n u after [])
    (λ o. (more : List Output) × IsStepped m t e o n u after more × (a ≡ a ++ encode_utf8_all (written_text more)))
    (λ o h. ([], subst (λ (s : Search). let z : Engine = record e { search = s } in IsStepped m t z o n u after []) done.0 h, silent_out a [] refl)) c.call_apart.ensures.stepped

pub returns-in-Ask-clause-stepped : goal.returns-in-Ask-clause-stepped
returns-in-Ask-clause-stepped g c =
    let e = c.args.self.now in
    let x = c.args.frame in
    let f = c.do_task.new.search in
    let y : Engine = record e { search = f } in
    let done = subst (IsDone e.search x.task x.continuation f) c.in-Ask.is c.in_ok-did.ensures.done in
    let m = g.W.A.Atoms.held c.args.atoms.now in
    let n = g.W.A.Atoms.held c.ask.new.atoms in
    let t = g.W.World.told c.args.world.now in
    let u = g.W.World.told c.ask.new.world in
    let after = c.ask.new.self in
    let end = as_stopped c.ask.result in
    let a = c.args.out.now.items in
    IfOk-weaker end (λ o. IsStepped m t y o n u after [])
    (λ o. (more : List Output) × IsStepped m t e o n u after more × (a ≡ a ++ encode_utf8_all (written_text more)))
    (λ o h. ([], subst (λ (s : Search). let z : Engine = record e { search = s } in IsStepped m t z o n u after []) done.0 h, silent_out a [] refl)) c.ask.ensures.stepped

pub returns-in-Write-clause-stepped : goal.returns-in-Write-clause-stepped
returns-in-Write-clause-stepped g c =
    let e = c.args.self.now in
    let x = c.args.frame in
    let f = c.do_task.new.search in
    let y : Engine = record e { search = f } in
    let done = subst (IsDone e.search x.task x.continuation f) c.in-Write.is c.in_ok-did.ensures.done in
    let m = g.W.A.Atoms.held c.args.atoms.now in
    let n = g.W.A.Atoms.held c.write.new.atoms in
    let t = g.W.World.told c.args.world.now in
    let u = g.W.World.told c.write.new.world in
    let after = c.write.new.self in
    let end = as_stopped c.write.result in
    let a = c.args.out.now.items in
    let b = c.write.new.out.items in
    IfOk-weaker end (λ o. (more : List Output) × IsStepped m t y o n u after more × (b ≡ a ++ encode_utf8_all (written_text more)))
    (λ o. (more : List Output) × IsStepped m t e o n u after more × (b ≡ a ++ encode_utf8_all (written_text more)))
    (λ o h. (h.0, subst (λ (s : Search). let z : Engine = record e { search = s } in IsStepped m t z o n u after h.0) done.0 h.1, h.2)) c.write.ensures.stepped

pub returns-in-Row-clause-ready : goal.returns-in-Row-clause-ready
returns-in-Row-clause-ready g c =
    let e = c.args.self.now in
    let x = c.args.frame in
    let f = c.do_task.new.search in
    let y : Engine = record e { search = f } in
    let done = subst (IsDone e.search x.task x.continuation f) c.in-Row.is c.in_ok-did.ensures.done in
    let m = g.W.A.Atoms.held c.args.atoms.now in
    let n = g.W.A.Atoms.held c.row.new.atoms in
    let t = g.W.World.told c.args.world.now in
    let u = g.W.World.told c.args.world.now in
    let after = c.row.new.self in
    let end = as_stopped c.row.result in
    let ready = subst (λ (s : Search). let z : Engine = record e { search = s } in IsReady m t z) (sym done.0) c.requires.ready in
    IfOk-weaker end (λ o. (k : Told) → IsReady m k y → IsReady n k after) (λ o. IsReady n t after) (λ o h. h t ready) c.row.ensures.ready

pub returns-in-Row-clause-stepped : goal.returns-in-Row-clause-stepped
returns-in-Row-clause-stepped g c =
    let e = c.args.self.now in
    let x = c.args.frame in
    let f = c.do_task.new.search in
    let y : Engine = record e { search = f } in
    let done = subst (IsDone e.search x.task x.continuation f) c.in-Row.is c.in_ok-did.ensures.done in
    let m = g.W.A.Atoms.held c.args.atoms.now in
    let n = g.W.A.Atoms.held c.row.new.atoms in
    let t = g.W.World.told c.args.world.now in
    let u = g.W.World.told c.args.world.now in
    let after = c.row.new.self in
    let end = as_stopped c.row.result in
    let ready = subst (λ (s : Search). let z : Engine = record e { search = s } in IsReady m t z) (sym done.0) c.requires.ready in
    let a = c.args.out.now.items in
    IfOk-weaker end (λ o. (k : Told) → IsReady m k y → IsStepped m k y o n k after [])
    (λ o. (more : List Output) × IsStepped m t e o n u after more × (a ≡ a ++ encode_utf8_all (written_text more)))
    (λ o h. ([], subst (λ (s : Search). let z : Engine = record e { search = s } in IsStepped m t z o n u after []) done.0 (h t ready), silent_out a [] refl)) c.row.ensures.stepped

pub returns-in-Call-clause-asked : goal.returns-in-Call-clause-asked
returns-in-Call-clause-asked g c =
    let e = c.args.self.now in
    let x = c.args.frame in
    let f = c.do_task.new.search in
    let a = c.args.atoms.now in
    let called = subst (IsDone e.search x.task x.continuation f) c.in-Call.is c.in_ok-did.ensures.done in
    asked_same (g.W.A.Atoms.held a) (g.W.World.told c.args.world.now) e f (g.W.A.Atoms.asked a) (g.W.A.Atoms.asked c.call_apart.new.atoms) called.0 c.call_apart.ensures.asked

pub returns-in-Ask-clause-asked : goal.returns-in-Ask-clause-asked
returns-in-Ask-clause-asked g c =
    let e = c.args.self.now in
    let x = c.args.frame in
    let f = c.do_task.new.search in
    let a = c.args.atoms.now in
    let called = subst (IsDone e.search x.task x.continuation f) c.in-Ask.is c.in_ok-did.ensures.done in
    asked_same (g.W.A.Atoms.held a) (g.W.World.told c.args.world.now) e f (g.W.A.Atoms.asked a) (g.W.A.Atoms.asked c.ask.new.atoms) called.0 c.ask.ensures.asked

pub returns-in-Row-clause-asked : goal.returns-in-Row-clause-asked
returns-in-Row-clause-asked g c =
    let e = c.args.self.now in
    let x = c.args.frame in
    let f = c.do_task.new.search in
    let a = c.args.atoms.now in
    let m = g.W.A.Atoms.held a in
    let t = g.W.World.told c.args.world.now in
    let done = subst (IsDone e.search x.task x.continuation f) c.in-Row.is c.in_ok-did.ensures.done in
    asked_same m t e f (g.W.A.Atoms.asked a) (g.W.A.Atoms.asked c.row.new.atoms) done.0
    (row_asks_for m t (record e { search = f }) (g.W.A.Atoms.asked a) (g.W.A.Atoms.asked c.row.new.atoms) c.row.ensures.asked)

pub returns-in-Call-clause-given : goal.returns-in-Call-clause-given
returns-in-Call-clause-given g c = none_ok (as_stopped c.call_apart.result) (c.call_apart.new.self.solutions_found ≡ c.args.self.now.solutions_found) c.call_apart.ensures.given

pub returns-in-Ask-clause-given : goal.returns-in-Ask-clause-given
returns-in-Ask-clause-given g c = none_ok (as_stopped c.ask.result) (c.ask.new.self.solutions_found ≡ c.args.self.now.solutions_found) c.ask.ensures.given

pub returns-in-Write-clause-given : goal.returns-in-Write-clause-given
returns-in-Write-clause-given g c = none_ok (as_stopped c.write.result) (c.write.new.self.solutions_found ≡ c.args.self.now.solutions_found) c.write.ensures.given

pub returns-in-Row-clause-given : goal.returns-in-Row-clause-given
returns-in-Row-clause-given g c = none_ok (as_stopped c.row.result) (c.row.new.self.solutions_found ≡ c.args.self.now.solutions_found) c.row.ensures.given

pub look-requires-clause-ready : goal.look-requires-clause-ready
look-requires-clause-ready g c =
    let e = c.args.self.now in
    let x = c.args.frame in
    let f = c.do_task.new.search in
    let did = c.in_ok-did in
    let called = subst (IsDone e.search x.task x.continuation f) c.in-Look.is did.ensures.done in
    subst (λ (s : Search). let y : Engine = record e { search = s } in IsReady (g.W.A.Atoms.held c.args.atoms.now) (g.W.World.told c.args.world.now) y) (sym called.0)
    c.requires.ready

pub collect-requires-clause-ready : goal.collect-requires-clause-ready
collect-requires-clause-ready g c =
    let e = c.args.self.now in
    let x = c.args.frame in
    let f = c.do_task.new.search in
    let did = c.in_ok-did in
    let called = subst (IsDone e.search x.task x.continuation f) c.in-Collect.is did.ensures.done in
    subst (λ (s : Search). let y : Engine = record e { search = s } in IsReady (g.W.A.Atoms.held c.args.atoms.now) (g.W.World.told c.args.world.now) y) (sym called.0)
    c.requires.ready

pub returns-in-Look-clause-stepped : goal.returns-in-Look-clause-stepped
returns-in-Look-clause-stepped g c =
    let e = c.args.self.now in
    let x = c.args.frame in
    let f = c.do_task.new.search in
    let y : Engine = record e { search = f } in
    let done = subst (IsDone e.search x.task x.continuation f) c.in-Look.is c.in_ok-did.ensures.done in
    let m = g.W.A.Atoms.held c.args.atoms.now in
    let n = g.W.A.Atoms.held c.look.new.atoms in
    let t = g.W.World.told c.args.world.now in
    let u = g.W.World.told c.look.new.world in
    let after = c.look.new.self in
    let end = as_stopped c.look.result in
    let a = c.args.out.now.items in
    IfOk-weaker end (λ o. IsStepped m t y o n u after [])
    (λ o. (more : List Output) × IsStepped m t e o n u after more × (a ≡ a ++ encode_utf8_all (written_text more)))
    (λ o h. ([], subst (λ (s : Search). let z : Engine = record e { search = s } in IsStepped m t z o n u after []) done.0 h, silent_out a [] refl)) c.look.ensures.stepped

pub returns-in-Collect-clause-stepped : goal.returns-in-Collect-clause-stepped
returns-in-Collect-clause-stepped g c =
    let e = c.args.self.now in
    let x = c.args.frame in
    let f = c.do_task.new.search in
    let y : Engine = record e { search = f } in
    let done = subst (IsDone e.search x.task x.continuation f) c.in-Collect.is c.in_ok-did.ensures.done in
    let m = g.W.A.Atoms.held c.args.atoms.now in
    let n = g.W.A.Atoms.held c.collect.new.atoms in
    let t = g.W.World.told c.args.world.now in
    let u = g.W.World.told c.collect.new.world in
    let after = c.collect.new.self in
    let end = as_stopped c.collect.result in
    let a = c.args.out.now.items in
    IfOk-weaker end (λ o. IsStepped m t y o n u after [])
    (λ o. (more : List Output) × IsStepped m t e o n u after more × (a ≡ a ++ encode_utf8_all (written_text more)))
    (λ o h. ([], subst (λ (s : Search). let z : Engine = record e { search = s } in IsStepped m t z o n u after []) done.0 h, silent_out a [] refl)) c.collect.ensures.stepped

pub returns-in-Look-clause-asked : goal.returns-in-Look-clause-asked
returns-in-Look-clause-asked g c =
    let e = c.args.self.now in
    let x = c.args.frame in
    let f = c.do_task.new.search in
    let a = c.args.atoms.now in
    let called = subst (IsDone e.search x.task x.continuation f) c.in-Look.is c.in_ok-did.ensures.done in
    asked_same (g.W.A.Atoms.held a) (g.W.World.told c.args.world.now) e f (g.W.A.Atoms.asked a) (g.W.A.Atoms.asked c.look.new.atoms) called.0 c.look.ensures.asked

pub returns-in-Collect-clause-asked : goal.returns-in-Collect-clause-asked
returns-in-Collect-clause-asked g c =
    let e = c.args.self.now in
    let x = c.args.frame in
    let f = c.do_task.new.search in
    let a = c.args.atoms.now in
    let called = subst (IsDone e.search x.task x.continuation f) c.in-Collect.is c.in_ok-did.ensures.done in
    asked_same (g.W.A.Atoms.held a) (g.W.World.told c.args.world.now) e f (g.W.A.Atoms.asked a) (g.W.A.Atoms.asked c.collect.new.atoms) called.0 c.collect.ensures.asked

pub returns-in-Look-clause-given : goal.returns-in-Look-clause-given
returns-in-Look-clause-given g c = none_ok (as_stopped c.look.result) (c.look.new.self.solutions_found ≡ c.args.self.now.solutions_found) c.look.ensures.given

pub returns-in-Collect-clause-given : goal.returns-in-Collect-clause-given
returns-in-Collect-clause-given g c = none_ok (as_stopped c.collect.result) (c.collect.new.self.solutions_found ≡ c.args.self.now.solutions_found) c.collect.ensures.given

pub exit-requires-clause-ready : goal.exit-requires-clause-ready
exit-requires-clause-ready g c =
    let e = c.args.self.now in
    let x = c.args.frame in
    let f = c.do_task.new.search in
    let done = subst (IsDone e.search x.task x.continuation f) c.in-Exit.is c.in_ok-did.ensures.done in
    let m = g.W.A.Atoms.held c.args.atoms.now in
    let t = g.W.World.told c.args.world.now in
    let ready = subst (λ (s : Search). let y : Engine = record e { search = s } in IsReady m t y) (sym done.0) c.requires.ready in
    (t, ready)

pub returns-in-Exit-clause-ready : goal.returns-in-Exit-clause-ready
returns-in-Exit-clause-ready g c =
    let e = c.args.self.now in
    let x = c.args.frame in
    let f = c.do_task.new.search in
    let y : Engine = record e { search = f } in
    let done = subst (IsDone e.search x.task x.continuation f) c.in-Exit.is c.in_ok-did.ensures.done in
    let m = g.W.A.Atoms.held c.args.atoms.now in
    let n = g.W.A.Atoms.held c.exit.new.atoms in
    let t = g.W.World.told c.args.world.now in
    let u = g.W.World.told c.args.world.now in
    let after = c.exit.new.self in
    let end = as_stopped c.exit.result in
    let ready = subst (λ (s : Search). let z : Engine = record e { search = s } in IsReady m t z) (sym done.0) c.requires.ready in
    IfOk-weaker end (λ o. (k : Told) → IsReady m k y → IsReady n k after) (λ o. IsReady n t after) (λ o h. h t ready) c.exit.ensures.ready

pub returns-in-Exit-clause-stepped : goal.returns-in-Exit-clause-stepped
returns-in-Exit-clause-stepped g c =
    let e = c.args.self.now in
    let x = c.args.frame in
    let f = c.do_task.new.search in
    let y : Engine = record e { search = f } in
    let done = subst (IsDone e.search x.task x.continuation f) c.in-Exit.is c.in_ok-did.ensures.done in
    let m = g.W.A.Atoms.held c.args.atoms.now in
    let n = g.W.A.Atoms.held c.exit.new.atoms in
    let t = g.W.World.told c.args.world.now in
    let u = g.W.World.told c.args.world.now in
    let after = c.exit.new.self in
    let end = as_stopped c.exit.result in
    let ready = subst (λ (s : Search). let z : Engine = record e { search = s } in IsReady m t z) (sym done.0) c.requires.ready in
    let a = c.args.out.now.items in
    IfOk-weaker end (λ o. (k : Told) → IsReady m k y → IsStepped m k y o n k after [])
    (λ o. (more : List Output) × IsStepped m t e o n u after more × (a ≡ a ++ encode_utf8_all (written_text more)))
    (λ o h. ([], subst (λ (s : Search). let z : Engine = record e { search = s } in IsStepped m t z o n u after []) done.0 (h t ready), silent_out a [] refl)) c.exit.ensures.stepped

pub returns-in-Exit-clause-asked : goal.returns-in-Exit-clause-asked
returns-in-Exit-clause-asked g c =
    let e = c.args.self.now in
    let x = c.args.frame in
    let f = c.do_task.new.search in
    let a = c.args.atoms.now in
    let m = g.W.A.Atoms.held a in
    let t = g.W.World.told c.args.world.now in
    let done = subst (IsDone e.search x.task x.continuation f) c.in-Exit.is c.in_ok-did.ensures.done in
    asked_same m t e f (g.W.A.Atoms.asked a) (g.W.A.Atoms.asked c.exit.new.atoms) done.0
    (exit_asks_for m t (record e { search = f }) (g.W.A.Atoms.asked a) (g.W.A.Atoms.asked c.exit.new.atoms) c.exit.ensures.asked)

pub returns-in-Exit-clause-given : goal.returns-in-Exit-clause-given
returns-in-Exit-clause-given g c = none_ok (as_stopped c.exit.result) (c.exit.new.self.solutions_found ≡ c.args.self.now.solutions_found) c.exit.ensures.given

pub clear-requires-clause-ready : goal.clear-requires-clause-ready
clear-requires-clause-ready g c =
    let e = c.args.self.now in
    let x = c.args.frame in
    let f = c.do_task.new.search in
    let did = c.in_ok-did in
    let called = subst (IsDone e.search x.task x.continuation f) c.in-Clear.is did.ensures.done in
    subst (λ (s : Search). let y : Engine = record e { search = s } in IsReady (g.W.A.Atoms.held c.args.atoms.now) (g.W.World.told c.args.world.now) y) (sym called.0)
    c.requires.ready

pub returns-in-Clear-clause-stepped : goal.returns-in-Clear-clause-stepped
returns-in-Clear-clause-stepped g c =
    let e = c.args.self.now in
    let x = c.args.frame in
    let f = c.do_task.new.search in
    let y : Engine = record e { search = f } in
    let done = subst (IsDone e.search x.task x.continuation f) c.in-Clear.is c.in_ok-did.ensures.done in
    let m = g.W.A.Atoms.held c.args.atoms.now in
    let n = g.W.A.Atoms.held c.clear.new.atoms in
    let t = g.W.World.told c.args.world.now in
    let u = g.W.World.told c.clear.new.world in
    let after = c.clear.new.self in
    let end = as_stopped c.clear.result in
    let a = c.args.out.now.items in
    IfOk-weaker end (λ o. IsStepped m t y o n u after [])
    (λ o. (more : List Output) × IsStepped m t e o n u after more × (a ≡ a ++ encode_utf8_all (written_text more)))
    (λ o h. ([], subst (λ (s : Search). let z : Engine = record e { search = s } in IsStepped m t z o n u after []) done.0 h, silent_out a [] refl)) c.clear.ensures.stepped

pub returns-in-Clear-clause-asked : goal.returns-in-Clear-clause-asked
returns-in-Clear-clause-asked g c =
    let e = c.args.self.now in
    let x = c.args.frame in
    let f = c.do_task.new.search in
    let a = c.args.atoms.now in
    let called = subst (IsDone e.search x.task x.continuation f) c.in-Clear.is c.in_ok-did.ensures.done in
    asked_same (g.W.A.Atoms.held a) (g.W.World.told c.args.world.now) e f (g.W.A.Atoms.asked a) (g.W.A.Atoms.asked c.clear.new.atoms) called.0 c.clear.ensures.asked

pub returns-in-Clear-clause-given : goal.returns-in-Clear-clause-given
returns-in-Clear-clause-given g c = none_ok (as_stopped c.clear.result) (c.clear.new.self.solutions_found ≡ c.args.self.now.solutions_found) c.clear.ensures.given
