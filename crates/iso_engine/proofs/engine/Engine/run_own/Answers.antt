use Rattle.std.proofs.Common.{◌≡◌, [], ◌∷◌, ◌++◌, ℕ, List, refl, sym, subst}
use Rattle.std.specs.Prelude.{encode_utf8_all}
use Rattle.std.proofs.lemmas.Result.{IfOk-weaker}
use Rattle.pl_model.specs.Resolution.{Output}
use Rattle.term_store.specs.declared.words.Place.{Place}
use Rattle.world_api.specs.Told.{Told}
use Rattle.iso_search.specs.declared.frames.Task.TheVariants.{Goal}
use Rattle.iso_search.specs.Frames.{tasks}
use Rattle.iso_engine.specs.Ready.{IsReady}
use Rattle.iso_engine.specs.Slices.{IsStepped, written_text}
use Rattle.iso_engine.specs.Tasks.{IsKindAt}
use Rattle.iso_engine.specs.Unserved.{as_stopped}
use Rattle.iso_engine.proofs.Interning.{row_asks_for}
use Rattle.iso_engine.proofs.Refusals.{none_ok}
use Rattle.iso_engine.proofs.Stepping.{silent_out}
use Rattle.iso_engine.proofs.Tasking.{task_inside}
use Rattle.iso_engine.proofs.engine.Engine.run_own.Goals as goal

pub construct_at-kind-requires : goal.construct_at-kind-requires
construct_at-kind-requires g c =
    let e = c.args.self.now.search in
    task_inside e.store e.frames.items c.requires.ready.whole.base.words c.requires.ready.whole.base.linked c.args.list (Goal c.args.goal c.args.cut) (tasks e.frames.items c.args.rest)
    c.requires.first

pub plain_row-requires-clause-goal : goal.plain_row-requires-clause-goal
plain_row-requires-clause-goal g c =
    let e = c.args.self.now.search in
    task_inside e.store e.frames.items c.requires.ready.whole.base.words c.requires.ready.whole.base.linked c.args.list (Goal c.args.goal c.args.cut) (tasks e.frames.items c.args.rest)
    c.requires.first

pub plain_row-requires-clause-kind : goal.plain_row-requires-clause-kind
plain_row-requires-clause-kind g c =
    let kind = c.construct_at-kind in (kind.ensures.inside, kind.ensures.stands)

pub row-requires-clause-ready : goal.row-requires-clause-ready
row-requires-clause-ready g c = (g.W.World.told c.args.world.now, c.requires.ready)

pub row-requires-clause-list : goal.row-requires-clause-list
row-requires-clause-list g c =
    let x = c.args.self.now.search.frames.items in (
      c.args.list,
      c.args.cut,
      c.requires.list,
      subst (λ w. tasks x c.args.list ≡ Goal w c.args.cut ∷ tasks x c.args.rest) (sym c.in-Some.ensures.0) c.requires.first,
    )

pub returns-in-Some-clause-ready : goal.returns-in-Some-clause-ready
returns-in-Some-clause-ready g c =
    let e = c.args.self.now in
    let m = g.W.A.Atoms.held c.args.atoms.now in
    let n = g.W.A.Atoms.held c.row.new.atoms in
    let t = g.W.World.told c.args.world.now in
    let after = c.row.new.self in
    let end = as_stopped c.row.result in
    IfOk-weaker end (λ o. (k : Told) → IsReady m k e → IsReady n k after) (λ o. IsReady n t after) (λ o h. h t c.requires.ready) c.row.ensures.ready

pub returns-in-Some-clause-stepped : goal.returns-in-Some-clause-stepped
returns-in-Some-clause-stepped g c =
    let e = c.args.self.now in
    let m = g.W.A.Atoms.held c.args.atoms.now in
    let n = g.W.A.Atoms.held c.row.new.atoms in
    let t = g.W.World.told c.args.world.now in
    let after = c.row.new.self in
    let end = as_stopped c.row.result in
    let a = c.args.out.now.items in
    IfOk-weaker end (λ o. (k : Told) → IsReady m k e → IsStepped m k e o n k after [])
    (λ o. (more : List Output) × IsStepped m t e o n t after more × (a ≡ a ++ encode_utf8_all (written_text more)))
    (λ o h. ([], h t c.requires.ready, silent_out a [] refl)) c.row.ensures.stepped

pub returns-in-Some-clause-asked : goal.returns-in-Some-clause-asked
returns-in-Some-clause-asked g c =
    let a = c.args.atoms.now in
    row_asks_for (g.W.A.Atoms.held a) (g.W.World.told c.args.world.now) c.args.self.now (g.W.A.Atoms.asked a) (g.W.A.Atoms.asked c.row.new.atoms) c.row.ensures.asked

pub returns-in-Some-clause-given : goal.returns-in-Some-clause-given
returns-in-Some-clause-given g c = none_ok (as_stopped c.row.result) (c.row.new.self.solutions_found ≡ c.args.self.now.solutions_found) c.row.ensures.given

one_place : (w v : Place) (h k : ℕ) → Goal w h ≡ Goal v k → w ≡ v
one_place w v h k is = cc

pub run_task-requires-clause-kind : goal.run_task-requires-clause-kind
run_task-requires-clause-kind g c at cut is =
    let kind = c.construct_at-kind in
    subst (λ w. IsKindAt c.args.self.now.search.store w kind.result) (one_place c.args.goal at c.args.cut cut is) (kind.ensures.inside, kind.ensures.stands)
