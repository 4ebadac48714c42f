use Rattle.std.proofs.Common.{◌≡◌, [], ◌++◌, List, Some, refl, sym, subst, ◌∙◌}
use Rattle.std.specs.Prelude.{encode_utf8_all}
use Rattle.std.proofs.lemmas.Result.{IfOk-weaker}
use Rattle.pl_model.specs.Resolution.{Output}
use Rattle.iso_engine.specs.declared.doing.Doing.TheVariants.{Throwing, Erasing, Clearing, Ended}
use Rattle.iso_engine.specs.declared.engine.Engine.{Engine}
use Rattle.iso_engine.specs.declared.slices.Slice.TheVariants.{Ended as SliceEnded}
use Rattle.iso_engine.specs.Ready.{Steps}
use Rattle.iso_engine.specs.Slices.{IsStepped, written_text}
use Rattle.iso_engine.specs.Unserved.{as_stopped}
use Rattle.iso_engine.specs.declared.doing.Doing.{Doing}
use Rattle.iso_engine.proofs.Interning.{asked_again}
use Rattle.iso_engine.proofs.Refusals.{none_ok}
use Rattle.iso_engine.proofs.Solutions.{view_is}
use Rattle.iso_engine.proofs.Stability.{advance_none, advance_step, plain_steps, ready_again, spent_by, step_ready}
use Rattle.iso_engine.proofs.Stepping.{silent_out, stepped_again}
use Rattle.iso_engine.proofs.engine.Engine.step_apart.Goals as goal

pub returns-in_ok-self-in-Throwing-clause-spent : goal.returns-in_ok-self-in-Throwing-clause-spent
returns-in_ok-self-in-Throwing-clause-spent g c =
    let e = c.args.self.now in
    let a = c.args.atoms.now in
    let m = g.W.A.Atoms.held a in
    let t = g.W.World.told c.args.world.now in
    let view = view_is m t (g.met.W.A.Atoms.fixed_held a) (g.met.W.A.Atoms.unlike a) (g.met.W.A.Atoms.finite a) in
    let f = c.throw.new.search in
    let d = c.in_ok-self-in-Throwing.field-0 in
    let steps = plain_steps e.solution_limit e.solutions_found e.search f e.doing (Throwing c.in-Throwing.ball c.in-Throwing.outer) d (sym c.replace.ensures.value ∙ c.in-Throwing.is)
    c.in_ok-self-in-Throwing.ensures.step in
    spent_by e.solution_limit e.solutions_found e.search e.doing f d m t steps view

pub returns-in_ok-self-in-Throwing-clause-ready : goal.returns-in_ok-self-in-Throwing-clause-ready
returns-in_ok-self-in-Throwing-clause-ready g c =
    let e = c.args.self.now in
    let a = c.args.atoms.now in
    let m = g.W.A.Atoms.held a in
    let t = g.W.World.told c.args.world.now in
    let view = view_is m t (g.met.W.A.Atoms.fixed_held a) (g.met.W.A.Atoms.unlike a) (g.met.W.A.Atoms.finite a) in
    let f = c.throw.new.search in
    let d = c.in_ok-self-in-Throwing.field-0 in
    let steps = plain_steps e.solution_limit e.solutions_found e.search f e.doing (Throwing c.in-Throwing.ball c.in-Throwing.outer) d (sym c.replace.ensures.value ∙ c.in-Throwing.is)
    c.in_ok-self-in-Throwing.ensures.step in
    let new : Engine = record e { search = f; doing = d } in
    step_ready m t e new steps c.in_ok-self-in-Throwing.ensures.whole view c.requires.ready

pub returns-in_ok-self-in-Throwing-clause-stepped : goal.returns-in_ok-self-in-Throwing-clause-stepped
returns-in_ok-self-in-Throwing-clause-stepped g c =
    let e = c.args.self.now in
    let a = c.args.atoms.now in
    let m = g.W.A.Atoms.held a in
    let t = g.W.World.told c.args.world.now in
    let view = view_is m t (g.met.W.A.Atoms.fixed_held a) (g.met.W.A.Atoms.unlike a) (g.met.W.A.Atoms.finite a) in
    let f = c.throw.new.search in
    let d = c.in_ok-self-in-Throwing.field-0 in
    let steps = plain_steps e.solution_limit e.solutions_found e.search f e.doing (Throwing c.in-Throwing.ball c.in-Throwing.outer) d (sym c.replace.ensures.value ∙ c.in-Throwing.is)
    c.in_ok-self-in-Throwing.ensures.step in
    let new : Engine = record e { search = f; doing = d } in
    ([], advance_step m t e new steps c.in_ok-self-in-Throwing.ensures.budgets refl refl view, silent_out c.args.out.now.items [] refl)

pub returns-in-Answering-clause-ready : goal.returns-in-Answering-clause-ready
returns-in-Answering-clause-ready g c =
    let e = c.args.self.now in
    let a = c.args.atoms.now in
    let m = g.W.A.Atoms.held a in
    let t = g.W.World.told c.args.world.now in
    let view = view_is m t (g.met.W.A.Atoms.fixed_held a) (g.met.W.A.Atoms.unlike a) (g.met.W.A.Atoms.finite a) in
    let d = c.after_solution.result in
    let steps = subst (λ (y : Doing). Steps e.solution_limit e.solutions_found e.search y e.search d) (sym (sym c.replace.ensures.value ∙ c.in-Answering.is))
    (λ r v wants gave. c.after_solution.ensures r e.search wants gave) in
    let new : Engine = record e { doing = d } in
    step_ready m t e new steps c.requires.ready.whole view c.requires.ready

pub returns-in-Answering-clause-stepped : goal.returns-in-Answering-clause-stepped
returns-in-Answering-clause-stepped g c =
    let e = c.args.self.now in
    let a = c.args.atoms.now in
    let m = g.W.A.Atoms.held a in
    let t = g.W.World.told c.args.world.now in
    let view = view_is m t (g.met.W.A.Atoms.fixed_held a) (g.met.W.A.Atoms.unlike a) (g.met.W.A.Atoms.finite a) in
    let d = c.after_solution.result in
    let steps = subst (λ (y : Doing). Steps e.solution_limit e.solutions_found e.search y e.search d) (sym (sym c.replace.ensures.value ∙ c.in-Answering.is))
    (λ r v wants gave. c.after_solution.ensures r e.search wants gave) in
    let new : Engine = record e { doing = d } in
    ([], advance_step m t e new steps refl refl refl view, silent_out c.args.out.now.items [] refl)

pub returns-in-Ended-clause-ready : goal.returns-in-Ended-clause-ready
returns-in-Ended-clause-ready g c =
    ready_again (g.W.A.Atoms.held c.args.atoms.now) (g.W.World.told c.args.world.now) c.args.self.now (Ended c.in-Ended.end)
    (sym c.replace.ensures.value ∙ c.in-Ended.is) c.requires.ready

pub returns-in-Ended-clause-stepped : goal.returns-in-Ended-clause-stepped
returns-in-Ended-clause-stepped g c =
    let e = c.args.self.now in
    let m = g.W.A.Atoms.held c.args.atoms.now in
    let t = g.W.World.told c.args.world.now in
    let f : Engine = record e { doing = Ended c.in-Ended.end } in (
      [],
      stepped_again m t e (Ended c.in-Ended.end) (Some SliceEnded) m t f [] (sym c.replace.ensures.value ∙ c.in-Ended.is) (refl, tt, advance_none m t f),
      silent_out c.args.out.now.items [] refl,
    )

pub erase-requires-clause-ready : goal.erase-requires-clause-ready
erase-requires-clause-ready g c =
    ready_again (g.W.A.Atoms.held c.args.atoms.now) (g.W.World.told c.args.world.now) c.args.self.now (Erasing c.in-Erasing.place c.in-Erasing.list)
    (sym c.replace.ensures.value ∙ c.in-Erasing.is) c.requires.ready

pub returns-in-Erasing-clause-stepped : goal.returns-in-Erasing-clause-stepped
returns-in-Erasing-clause-stepped g c =
    let e = c.args.self.now in
    let d = Erasing c.in-Erasing.place c.in-Erasing.list in
    let y : Engine = record e { doing = d } in
    let same = sym c.replace.ensures.value ∙ c.in-Erasing.is in
    let m = g.W.A.Atoms.held c.args.atoms.now in
    let n = g.W.A.Atoms.held c.erase.new.atoms in
    let t = g.W.World.told c.args.world.now in
    let u = g.W.World.told c.erase.new.world in
    let f = c.erase.new.self in
    let a = c.args.out.now.items in
    IfOk-weaker (as_stopped c.erase.result) (λ o. IsStepped m t y o n u f [])
    (λ o. (more : List Output) × IsStepped m t e o n u f more × (a ≡ a ++ encode_utf8_all (written_text more)))
    (λ o h. ([], stepped_again m t e d o n u f [] same h, silent_out a [] refl)) c.erase.ensures.stepped

pub returns-in-Erasing-clause-given : goal.returns-in-Erasing-clause-given
returns-in-Erasing-clause-given g c = none_ok (as_stopped c.erase.result) (c.erase.new.self.solutions_found ≡ c.args.self.now.solutions_found) c.erase.ensures.given

pub returns-in-Erasing-clause-asked : goal.returns-in-Erasing-clause-asked
returns-in-Erasing-clause-asked g c =
    let a = c.args.atoms.now in
    asked_again (g.W.A.Atoms.held a) (g.W.World.told c.args.world.now) c.args.self.now (Erasing c.in-Erasing.place c.in-Erasing.list) (g.W.A.Atoms.asked a)
    (g.W.A.Atoms.asked c.erase.new.atoms) (sym c.replace.ensures.value ∙ c.in-Erasing.is) c.erase.ensures.asked

pub clear_next-requires-clause-ready : goal.clear_next-requires-clause-ready
clear_next-requires-clause-ready g c =
    ready_again (g.W.A.Atoms.held c.args.atoms.now) (g.W.World.told c.args.world.now) c.args.self.now (Clearing c.in-Clearing.list c.in-Clearing.generation c.in-Clearing.left)
    (sym c.replace.ensures.value ∙ c.in-Clearing.is) c.requires.ready

pub returns-in-Clearing-clause-stepped : goal.returns-in-Clearing-clause-stepped
returns-in-Clearing-clause-stepped g c =
    let e = c.args.self.now in
    let d = Clearing c.in-Clearing.list c.in-Clearing.generation c.in-Clearing.left in
    let y : Engine = record e { doing = d } in
    let same = sym c.replace.ensures.value ∙ c.in-Clearing.is in
    let m = g.W.A.Atoms.held c.args.atoms.now in
    let n = g.W.A.Atoms.held c.clear_next.new.atoms in
    let t = g.W.World.told c.args.world.now in
    let u = g.W.World.told c.clear_next.new.world in
    let f = c.clear_next.new.self in
    let a = c.args.out.now.items in
    IfOk-weaker (as_stopped c.clear_next.result) (λ o. IsStepped m t y o n u f [])
    (λ o. (more : List Output) × IsStepped m t e o n u f more × (a ≡ a ++ encode_utf8_all (written_text more)))
    (λ o h. ([], stepped_again m t e d o n u f [] same h, silent_out a [] refl)) c.clear_next.ensures.stepped

pub returns-in-Clearing-clause-given : goal.returns-in-Clearing-clause-given
returns-in-Clearing-clause-given g c = none_ok (as_stopped c.clear_next.result) (c.clear_next.new.self.solutions_found ≡ c.args.self.now.solutions_found) c.clear_next.ensures.given

pub returns-in-Clearing-clause-asked : goal.returns-in-Clearing-clause-asked
returns-in-Clearing-clause-asked g c =
    let a = c.args.atoms.now in
    asked_again (g.W.A.Atoms.held a) (g.W.World.told c.args.world.now) c.args.self.now (Clearing c.in-Clearing.list c.in-Clearing.generation c.in-Clearing.left) (g.W.A.Atoms.asked a)
    (g.W.A.Atoms.asked c.clear_next.new.atoms) (sym c.replace.ensures.value ∙ c.in-Clearing.is) c.clear_next.ensures.asked
