use Rattle.world_api.specs.Texts.{text_of}
use Rattle.world_api.proofs.AskedLaws.{look_asks_nothing}
use Rattle.iso_engine.proofs.Looked.{looked_standing, never_else, never_waits}
use Rattle.iso_engine.proofs.looking.look.Goals as goal

pub unreachable-requires : goal.unreachable-requires
unreachable-requires g c =
    never_else g.W.Term.Kept.term g.W.Term.Kept.key_of (text_of (g.W.A.Atoms.held c.args.atoms.now)) (text_of (g.W.A.Atoms.held c.visit.new.atoms))
    c.in-Served.reply c.in-Served.generation (g.W.World.told c.args.world.now) c.in-Served.ensures.visited.0 (g.W.World.told c.visit.new.self)
    c.in-Served.ensures.visited.1 c.in_default.not-Standing

pub unreachable-requires-in-Waits : goal.unreachable-requires-in-Waits
unreachable-requires-in-Waits g c =
    never_waits g.W.Term.Kept.term g.W.Term.Kept.key_of (text_of (g.W.A.Atoms.held c.args.atoms.now)) (text_of (g.W.A.Atoms.held c.visit.new.atoms))
    c.in-Waits.on c.in-Waits.generation (g.W.World.told c.args.world.now) c.in-Waits.ensures.visited.0 (g.W.World.told c.visit.new.self)
    c.in-Waits.ensures.visited.1

pub returns-in-Standing-clause-looked : goal.returns-in-Standing-clause-looked
returns-in-Standing-clause-looked g c =
    looked_standing g.W.Term.Kept.term g.W.Term.Kept.key_of (text_of (g.W.A.Atoms.held c.args.atoms.now)) (text_of (g.W.A.Atoms.held c.visit.new.atoms))
    c.in-Served.reply c.in-Served.generation (g.W.World.told c.args.world.now) c.in-Served.ensures.visited.0 (g.W.World.told c.visit.new.self)
    c.in-Standing.operators c.in-Standing.quotes c.in-Served.ensures.visited.1 c.in-Standing.is

pub returns-in-Standing-clause-asked : goal.returns-in-Standing-clause-asked
returns-in-Standing-clause-asked g c =
    look_asks_nothing g.W.Term.Kept.term g.W.Term.Kept.key_of (text_of (g.W.A.Atoms.held c.args.atoms.now)) (g.W.World.told c.args.world.now)
    (g.W.A.Atoms.asked c.args.atoms.now) (g.W.A.Atoms.asked c.visit.new.atoms) c.in-Served.ensures.asked

pub returns-in-NeedsAtoms-clause-asked : goal.returns-in-NeedsAtoms-clause-asked
returns-in-NeedsAtoms-clause-asked g c =
    look_asks_nothing g.W.Term.Kept.term g.W.Term.Kept.key_of (text_of (g.W.A.Atoms.held c.args.atoms.now)) (g.W.World.told c.args.world.now)
    (g.W.A.Atoms.asked c.args.atoms.now) (g.W.A.Atoms.asked c.visit.new.atoms) c.in-NeedsAtoms.ensures.asked

pub returns-in-Retry-clause-asked : goal.returns-in-Retry-clause-asked
returns-in-Retry-clause-asked g c =
    look_asks_nothing g.W.Term.Kept.term g.W.Term.Kept.key_of (text_of (g.W.A.Atoms.held c.args.atoms.now)) (g.W.World.told c.args.world.now)
    (g.W.A.Atoms.asked c.args.atoms.now) (g.W.A.Atoms.asked c.visit.new.atoms) c.in-Retry.ensures.asked

pub returns-in-Worn-clause-asked : goal.returns-in-Worn-clause-asked
returns-in-Worn-clause-asked g c =
    look_asks_nothing g.W.Term.Kept.term g.W.Term.Kept.key_of (text_of (g.W.A.Atoms.held c.args.atoms.now)) (g.W.World.told c.args.world.now)
    (g.W.A.Atoms.asked c.args.atoms.now) (g.W.A.Atoms.asked c.visit.new.atoms) c.in-Worn.ensures.asked

pub returns-in-Memory-clause-asked : goal.returns-in-Memory-clause-asked
returns-in-Memory-clause-asked g c =
    look_asks_nothing g.W.Term.Kept.term g.W.Term.Kept.key_of (text_of (g.W.A.Atoms.held c.args.atoms.now)) (g.W.World.told c.args.world.now)
    (g.W.A.Atoms.asked c.args.atoms.now) (g.W.A.Atoms.asked c.visit.new.atoms) c.in-Memory.ensures.asked
