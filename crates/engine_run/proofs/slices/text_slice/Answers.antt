use Rattle.engine_run.proofs.Stopping.{refused_once, searched_texts}
use Rattle.engine_run.proofs.slices.text_slice.Goals as goal

pub returns-clause-refusals : goal.returns-clause-refusals
returns-clause-refusals g c =
    refused_once (g.W.A.Atoms.refusals c.args.atoms.now) (g.W.A.Atoms.refusals c.slice-slice.new.atoms) c.slice-slice.result c.stopped_by.result c.stopped_by.ensures
    c.slice-slice.ensures.refusals

pub returns-clause-searched : goal.returns-clause-searched
returns-clause-searched g c =
    searched_texts c.args.inferences c.args.moves.now c.slice-slice.new.moves (g.W.A.Atoms.held c.args.atoms.now) (g.W.A.Atoms.held c.slice-slice.new.atoms) (g.W.World.told c.args.world.now)
    (g.W.World.told c.slice-slice.new.world) c.args.engine.now c.slice-slice.new.self c.args.out.now.items c.slice-slice.new.out.items c.slice-slice.result
    c.stopped_by.result c.stopped_by.ensures c.slice-slice.ensures.sliced
