use Rattle.std.proofs.Common.{inl, refl}
use Rattle.script_api.proofs.LaterLaws.{later_same}
use Rattle.world_api.proofs.Gaining.{gains_nothing}
use Rattle.pl_consult.specs.ItemTexts.{MayStart}
use Rattle.pl_consult.proofs.starts.start_goal.Goals as goal

pub returns-clause-starts : goal.returns-clause-starts
returns-clause-starts g c = inl refl

pub returns-clause-told : goal.returns-clause-told
returns-clause-told g c = later_same (g.W.World.told c.args.world.now) (g.W.World.told c.args.world.now) refl

pub returns-clause-asked : goal.returns-clause-asked
returns-clause-asked g c =
    gains_nothing (MayStart c.args.number c.args.goal.now (g.W.World.told c.args.world.now)) (g.W.A.Atoms.asked c.args.atoms.now) (g.W.A.Atoms.asked c.args.atoms.now) refl
