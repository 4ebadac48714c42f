use Rattle.std.proofs.Common.{◌≡◌, [], ◌++◌, List, refl}
use Rattle.std.specs.Prelude.{encode_utf8_all}
use Rattle.std.proofs.lemmas.Result.{IfOk-weaker}
use Rattle.pl_model.specs.Resolution.{Output}
use Rattle.iso_engine.specs.Slices.{IsStepped, written_text}
use Rattle.iso_engine.specs.Unserved.{as_stopped}
use Rattle.iso_engine.proofs.Refusals.{none_ok}
use Rattle.iso_engine.proofs.Stepping.{silent_out}
use Rattle.iso_engine.proofs.engine.Engine.step_missed.Goals as goal

pub returns-clause-stepped : goal.returns-clause-stepped
returns-clause-stepped g c =
    let e = c.args.self.now in
    let m = g.W.A.Atoms.held c.args.atoms.now in
    let n = g.W.A.Atoms.held c.call_anew.new.atoms in
    let t = g.W.World.told c.args.world.now in
    let u = g.W.World.told c.call_anew.new.world in
    let f = c.call_anew.new.self in
    let a = c.args.out.now.items in
    IfOk-weaker (as_stopped c.call_anew.result) (λ o. IsStepped m t e o n u f [])
    (λ o. (more : List Output) × IsStepped m t e o n u f more × (a ≡ a ++ encode_utf8_all (written_text more)))
    (λ o h. ([], h, silent_out a [] refl)) c.call_anew.ensures.stepped

pub returns-clause-given : goal.returns-clause-given
returns-clause-given g c = none_ok (as_stopped c.call_anew.result) (c.call_anew.new.self.solutions_found ≡ c.args.self.now.solutions_found) c.call_anew.ensures.given
