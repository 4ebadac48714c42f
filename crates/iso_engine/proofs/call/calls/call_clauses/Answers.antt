use Rattle.iso_engine.proofs.FollowedReplies.{looked_called}
use Rattle.iso_engine.proofs.call.calls.call_clauses.Goals as goal

pub returns-clause-called : goal.returns-clause-called
returns-clause-called g c =
    looked_called (g.W.A.Atoms.held c.args.atoms.now) (g.W.World.told c.args.world.now) c.args.search.now c.args.goal c.args.rest
    (g.W.A.Atoms.held c.look_through.new.atoms) (g.W.World.told c.look_through.new.world) c.look_through.new.search c.look_through.result c.look_through.ensures.called
