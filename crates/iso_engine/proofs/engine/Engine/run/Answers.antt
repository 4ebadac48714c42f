use Rattle.std.proofs.Common.{◌≡◌, ◌∷◌, [], ◌++◌, List, subst}
use Rattle.std.specs.Prelude.{encode_utf8_all}
use Rattle.std.proofs.lemmas.Result.{IfOk-weaker}
use Rattle.pl_model.specs.Resolution.{Output}
use Rattle.iso_search.specs.declared.frames.Task.{Task}
use Rattle.iso_search.specs.Frames.{tasks}
use Rattle.iso_engine.specs.Slices.{IsStepped, written_text}
use Rattle.iso_engine.specs.Unserved.{as_stopped}
use Rattle.iso_engine.proofs.Stepping.{silent_out}
use Rattle.iso_engine.proofs.engine.Engine.run.Goals as goal

pub returns-in-None-clause-stepped : goal.returns-in-None-clause-stepped
returns-in-None-clause-stepped g c =
    let m = g.W.A.Atoms.held c.args.atoms.now in
    let n = g.W.A.Atoms.held c.solve.new.atoms in
    let t = g.W.World.told c.args.world.now in
    let u = g.W.World.told c.solve.new.world in
    let e = c.args.self.now in
    let f = c.solve.new.self in
    let a = c.args.out.now.items in
    IfOk-weaker (as_stopped c.solve.result) (λ o. (more : List Output) × IsStepped m t e o n u f more × (written_text more ≡ []))
    (λ o. (more : List Output) × IsStepped m t e o n u f more × (a ≡ a ++ encode_utf8_all (written_text more)))
    (λ o h. (h.0, h.1, silent_out a h.0 h.2)) c.solve.ensures.stepped

pub run_own-requires-clause-first : goal.run_own-requires-clause-first
run_own-requires-clause-first g c =
    let e = c.args.self.now.search in
    let f = c.in-Some.frame in
    let first = subst (λ l. tasks l c.args.list ≡ f.task ∷ tasks l f.continuation) c.deref.ensures.value c.in-Some.ensures.0 in
    subst (λ (x : Task). tasks e.frames.items c.args.list ≡ x ∷ tasks e.frames.items f.continuation) c.in-Goal.is first

pub run_task-requires-clause-kind : goal.run_task-requires-clause-kind
run_task-requires-clause-kind g c at cut is = absurd (c.in_default.not-Goal at cut is)
