use Rattle.iso_engine.proofs.Interning.{in_slice}
use Rattle.iso_engine.proofs.engine.Engine.slice.Goals as goal

pub returns-in-Ok-clause-asked : goal.returns-in-Ok-clause-asked
returns-in-Ok-clause-asked g c =
    in_slice c.in-Ok.slice (g.W.A.Atoms.held c.args.atoms.now) (g.W.World.told c.args.world.now) c.args.self.now (g.W.A.Atoms.held c.steps.new.atoms)
    (g.W.World.told c.steps.new.world) c.steps.new.self (g.W.A.Atoms.asked c.args.atoms.now) (g.W.A.Atoms.asked c.steps.new.atoms) c.in-Ok.ensures.asked
