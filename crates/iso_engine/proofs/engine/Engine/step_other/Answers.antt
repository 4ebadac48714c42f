use Rattle.std.proofs.Common.{◌≡◌, [], ◌++◌, List, refl}
use Rattle.std.specs.Prelude.{encode_utf8_all}
use Rattle.std.proofs.lemmas.Result.{IfOk-weaker}
use Rattle.pl_model.specs.Resolution.{Output}
use Rattle.iso_engine.specs.Slices.{IsStepped, written_text}
use Rattle.iso_engine.specs.Unserved.{as_stopped}
use Rattle.iso_engine.proofs.Refusals.{none_ok}
use Rattle.iso_engine.proofs.Stepping.{silent_out}
use Rattle.iso_engine.proofs.engine.Engine.step_other.Goals as goal

pub returns-in-Failing-clause-stepped : goal.returns-in-Failing-clause-stepped
returns-in-Failing-clause-stepped g c =
    let e = c.args.self.now in
    let m = g.W.A.Atoms.held c.args.atoms.now in
    let n = g.W.A.Atoms.held c.fail.new.atoms in
    let t = g.W.World.told c.args.world.now in
    let u = g.W.World.told c.fail.new.world in
    let f = c.fail.new.self in
    let a = c.args.out.now.items in
    IfOk-weaker (as_stopped c.fail.result) (λ o. IsStepped m t e o n u f [])
    (λ o. (more : List Output) × IsStepped m t e o n u f more × (a ≡ a ++ encode_utf8_all (written_text more)))
    (λ o h. ([], h, silent_out a [] refl)) c.fail.ensures.stepped

pub returns-in-Failing-clause-given : goal.returns-in-Failing-clause-given
returns-in-Failing-clause-given g c = none_ok (as_stopped c.fail.result) (c.fail.new.self.solutions_found ≡ c.args.self.now.solutions_found) c.fail.ensures.given
