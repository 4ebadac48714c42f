use Rattle.std.proofs.Common.{refl}
use Rattle.engine_run.proofs.Sliced.{directed_by, goes_again, refused_so}
use Rattle.engine_run.proofs.runner.Runner.slice_directive.Goals as goal

pub returns-clause-directed : goal.returns-clause-directed
returns-clause-directed g c =
    let s = c.text_slice-sliced in
    directed_by (g.W.A.Atoms.held c.args.atoms.now) (g.W.A.Atoms.held s.new.atoms) (g.W.World.told c.args.world.now) (g.W.World.told s.new.world)
    c.args.self.now _ c.args.engine s.new.engine s.result c.goes.result c.goes.ensures s.ensures.sound s.ensures.ready refl s.ensures.searched

pub returns-clause-goes : goal.returns-clause-goes
returns-clause-goes g c = goes_again c.text_slice-sliced.result c.goes.result c.goes.ensures

pub returns-clause-refusals : goal.returns-clause-refusals
returns-clause-refusals g c =
    refused_so (g.W.A.Atoms.refusals c.args.atoms.now) (g.W.A.Atoms.refusals c.text_slice-sliced.new.atoms) c.text_slice-sliced.result c.goes.result c.goes.ensures
    c.text_slice-sliced.ensures.refusals
