use Rattle.iso_engine.proofs.KnownAnswers.{first_quick, first_ready, first_spent}
use Rattle.iso_engine.proofs.Solutions.{view_is}
use Rattle.iso_engine.proofs.engine.Engine.step_known.Goals as goal

pub returns-clause-spent : goal.returns-clause-spent
returns-clause-spent g c =
    let a = c.args.atoms.now in
    let m = g.W.A.Atoms.held a in
    let t = g.W.World.told c.args.world.now in
    let view = view_is m t (g.met.W.A.Atoms.fixed_held a) (g.met.W.A.Atoms.unlike a) (g.met.W.A.Atoms.finite a) in
    first_spent m t c.args.self.now c.pass_first.new.self c.pass_first.result c.pass_first.ensures.passed view

pub returns-clause-ready : goal.returns-clause-ready
returns-clause-ready g c =
    let a = c.args.atoms.now in
    let m = g.W.A.Atoms.held a in
    let t = g.W.World.told c.args.world.now in
    let view = view_is m t (g.met.W.A.Atoms.fixed_held a) (g.met.W.A.Atoms.unlike a) (g.met.W.A.Atoms.finite a) in
    first_ready m t c.args.self.now c.pass_first.new.self c.pass_first.result c.pass_first.ensures.passed c.pass_first.ensures.whole view c.requires.ready

pub returns-clause-quick : goal.returns-clause-quick
returns-clause-quick g c =
    let a = c.args.atoms.now in
    let m = g.W.A.Atoms.held a in
    let t = g.W.World.told c.args.world.now in
    let view = view_is m t (g.met.W.A.Atoms.fixed_held a) (g.met.W.A.Atoms.unlike a) (g.met.W.A.Atoms.finite a) in
    first_quick m t c.args.self.now c.pass_first.new.self c.pass_first.result c.pass_first.ensures.passed c.pass_first.ensures.budgets c.pass_first.ensures.kept view
