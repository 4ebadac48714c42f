use Rattle.engine_run.specs.declared.runner.Lines.TheVariants.{Texts, Solutions}
use Rattle.engine_run.proofs.Stopping.{put_as}
use Rattle.engine_run.proofs.slices.slice_with.Goals as goal

pub returns-in-Texts-clause-searched : goal.returns-in-Texts-clause-searched
returns-in-Texts-clause-searched g c =
    put_as c.args.lines Texts c.args.names.now c.args.moves.now c.text_slice.new.moves (g.W.A.Atoms.held c.args.atoms.now) (g.W.A.Atoms.held c.text_slice.new.atoms)
    (g.W.World.told c.args.world.now) (g.W.World.told c.text_slice.new.world) c.args.engine.now c.text_slice.new.engine c.args.out.now.items c.text_slice.new.out.items
    c.text_slice.result c.in-Texts.is c.text_slice.ensures.searched

pub returns-in-Solutions-clause-searched : goal.returns-in-Solutions-clause-searched
returns-in-Solutions-clause-searched g c =
    put_as c.args.lines Solutions c.args.names.now c.args.moves.now c.goal_slice.new.moves (g.W.A.Atoms.held c.args.atoms.now) (g.W.A.Atoms.held c.goal_slice.new.atoms)
    (g.W.World.told c.args.world.now) (g.W.World.told c.goal_slice.new.world) c.args.engine.now c.goal_slice.new.engine c.args.out.now.items c.goal_slice.new.out.items
    c.goal_slice.result c.in-Solutions.is c.goal_slice.ensures.searched
