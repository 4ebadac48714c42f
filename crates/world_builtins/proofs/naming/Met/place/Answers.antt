use Rattle.world_builtins.proofs.MetLaws.{found_text}
use Rattle.world_builtins.proofs.naming.Met.place.Goals as goal

-- The atom was found.
pub returns-in-Some-clause-place : goal.returns-in-Some-clause-place
returns-in-Some-clause-place g c =
    found_text (g.A.Atoms.held c.args.atoms.now) c.args.self.now.slots.items c.args.self.now.names.items c.args.slot c.in-Some.place c.requires.tells
    c.in-Some.ensures.0 c.in-Some.ensures.1
