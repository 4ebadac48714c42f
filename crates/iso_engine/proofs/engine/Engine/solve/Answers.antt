use Rattle.std.proofs.Common.{◌≡◌, ◌∷◌, [], List, refl, ap}
use Rattle.std.specs.Arc.{arc_value}
use Rattle.std.specs.Prelude.{IfNone}
use Rattle.pl_model.specs.Resolution.{Output, solution}
use Rattle.iso_engine.specs.declared.doing.Doing.TheVariants.{Answering}
use Rattle.iso_engine.specs.declared.engine.Engine.{Engine}
use Rattle.iso_engine.specs.Ready.{IsReady}
use Rattle.iso_engine.specs.Slices.{IsStepped, answer_of, written_text}
use Rattle.pl_model.specs.OperatorTable.{OperatorTable}
use Rattle.std.specs.declared.alloc.Global.{Global}
use Rattle.std.specs.declared.sync.Arc.{Arc}
use Rattle.iso_engine.proofs.Answered.{answer_held}
use Rattle.iso_engine.proofs.Refusals.{at_exit, on_refusal, refused_end, refused_step}
use Rattle.iso_engine.proofs.Solutions.{solved, solved_ready, view_is}
use Rattle.iso_engine.proofs.TakenBack.{called_back}
use Rattle.iso_engine.proofs.engine.Engine.solve.Goals as goal

pub returns-in_err-operators-clause-ready : goal.returns-in_err-operators-clause-ready
returns-in_err-operators-clause-ready g c =
    let e = c.args.self.now in
    let a = c.look.new.atoms in
    let m = g.W.A.Atoms.held c.args.atoms.now in
    let n = g.W.A.Atoms.held a in
    let t = g.W.World.told c.args.world.now in
    let u = g.W.World.told c.look.new.world in
    let view = view_is n u (g.met.W.A.Atoms.fixed_held a) (g.met.W.A.Atoms.unlike a) (g.met.W.A.Atoms.finite a) in
    let w = c.in_err-operators.field-0.0 in
    refused_end (Arc OperatorTable Global) c.from_residual.result w (at_exit c.from_residual.result w c.from_residual.ensures.1) (u ≡ t) (λ o. IsReady n u e)
    (on_refusal (Arc OperatorTable Global) w c.in_err-operators.ensures.unchanged)
    (λ s again told. (called_back m n t u e e c.look.ensures.holds view c.requires.ready told refl).1)

pub returns-in_err-operators-clause-stepped : goal.returns-in_err-operators-clause-stepped
returns-in_err-operators-clause-stepped g c =
    let e = c.args.self.now in
    let a = c.look.new.atoms in
    let m = g.W.A.Atoms.held c.args.atoms.now in
    let n = g.W.A.Atoms.held a in
    let t = g.W.World.told c.args.world.now in
    let u = g.W.World.told c.look.new.world in
    let view = view_is n u (g.met.W.A.Atoms.fixed_held a) (g.met.W.A.Atoms.unlike a) (g.met.W.A.Atoms.finite a) in
    let w = c.in_err-operators.field-0.0 in
    refused_end (Arc OperatorTable Global) c.from_residual.result w (at_exit c.from_residual.result w c.from_residual.ensures.1) (u ≡ t)
    (λ o. (more : List Output) × IsStepped m t e o n u e more × (written_text more ≡ []))
    (on_refusal (Arc OperatorTable Global) w c.in_err-operators.ensures.unchanged)
    (λ s again told. ([], refused_step m t e n u e s again (called_back m n t u e e c.look.ensures.holds view c.requires.ready told refl).0, refl))

pub returns-in_err-operators-clause-given : goal.returns-in_err-operators-clause-given
returns-in_err-operators-clause-given g c =
    let e = c.args.self.now in
    let w = c.in_err-operators.field-0.0 in
    refused_end (Arc OperatorTable Global) c.from_residual.result w (at_exit c.from_residual.result w c.from_residual.ensures.1)
    (g.W.World.told c.look.new.world ≡ g.W.World.told c.args.world.now) (λ o. IfNone o (e.solutions_found ≡ e.solutions_found))
    (on_refusal (Arc OperatorTable Global) w c.in_err-operators.ensures.unchanged) (λ s again told. tt)

pub returns-clause-ready : goal.returns-clause-ready
returns-clause-ready g c =
    let e = c.args.self.now in
    let a = c.look.new.atoms in
    let m = g.W.A.Atoms.held c.args.atoms.now in
    let n = g.W.A.Atoms.held a in
    let t = g.W.World.told c.args.world.now in
    let u = g.W.World.told c.look.new.world in
    let f : Engine = record e { doing = Answering; solutions_found = c.in-Some.found } in
    let view = view_is n u (g.met.W.A.Atoms.fixed_held a) (g.met.W.A.Atoms.unlike a) (g.met.W.A.Atoms.finite a) in
    let ops = c.in_ok-operators in
    solved_ready m n t u e f c.requires.list.0 (arc_value ops.operators) (ap (λ k. let x : Engine = record e { doing = Answering; solutions_found = k } in x) c.in-Some.ensures.1)
    c.requires.ready view c.look.ensures.holds ops.ensures.looked

pub returns-clause-stepped : goal.returns-clause-stepped
returns-clause-stepped g c =
    let e = c.args.self.now in
    let a = c.look.new.atoms in
    let m = g.W.A.Atoms.held c.args.atoms.now in
    let n = g.W.A.Atoms.held a in
    let t = g.W.World.told c.args.world.now in
    let u = g.W.World.told c.look.new.world in
    let f : Engine = record e { doing = Answering; solutions_found = c.in-Some.found } in
    let view = view_is n u (g.met.W.A.Atoms.fixed_held a) (g.met.W.A.Atoms.unlike a) (g.met.W.A.Atoms.finite a) in
    let ops = c.in_ok-operators in
    let walked = solved m n t u e f c.requires.list.0 (arc_value ops.operators) c.requires.list.1 c.requires.list.2
    (ap (λ k. let x : Engine = record e { doing = Answering; solutions_found = k } in x) c.in-Some.ensures.1) c.requires.ready.stable view c.look.ensures.holds ops.ensures.looked
    in let b = c.args.atoms.now
    in let answered = answer_held m n t e c.requires.list.0 (g.met.W.A.Atoms.fixed_held b) (g.met.W.A.Atoms.unlike b) (g.met.W.A.Atoms.finite b) c.requires.list.1 c.requires.ready.stable
    c.look.ensures.holds
    in (solution (arc_value ops.operators) (answer_of n u f) ∷ [], (refl, refl, walked, answered), refl)
