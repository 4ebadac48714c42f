use Rattle.std.proofs.Common.{◌∙◌}
use Rattle.term_store.specs.NumberedNames.{term_by}
use Rattle.world_api.specs.Texts.{text_of}
use Rattle.pl_consult.proofs.NarrowLaws.{interned_asked, started_asked}
use Rattle.pl_consult.proofs.starts.start_numbered.Goals as goal

pub ball_of-requires : goal.ball_of-requires
ball_of-requires g c = rw c.in-Ok-Some.field-0-is at c.in-Ok-Some.ensures.named

pub returns-in-Ok-None-clause-asked : goal.returns-in-Ok-None-clause-asked
returns-in-Ok-None-clause-asked g c =
    started_asked c.args.number (term_by (text_of (g.W.A.Atoms.held c.interned.new.atoms)) c.in-Ok.kept) c.args.goal.now (g.W.World.told c.args.world.now)
    (g.W.A.Atoms.asked c.args.atoms.now) (g.W.A.Atoms.asked c.interned.new.atoms) (g.W.A.Atoms.asked c.start.new.atoms) (c.in-Ok.ensures.term ∙ c.requires.numbered)
    c.in-Ok.ensures.asked c.start.ensures.asked

pub returns-in-Ok-ball_of-clause-asked : goal.returns-in-Ok-ball_of-clause-asked
returns-in-Ok-ball_of-clause-asked g c =
    started_asked c.args.number (term_by (text_of (g.W.A.Atoms.held c.interned.new.atoms)) c.in-Ok.kept) c.args.goal.now (g.W.World.told c.args.world.now)
    (g.W.A.Atoms.asked c.args.atoms.now) (g.W.A.Atoms.asked c.interned.new.atoms) (g.W.A.Atoms.asked c.ball_of.new.atoms) (c.in-Ok.ensures.term ∙ c.requires.numbered)
    c.in-Ok.ensures.asked (rw c.ball_of.ensures.asked c.start.ensures.asked)

pub returns-in-Ok-Some-clause-asked : goal.returns-in-Ok-Some-clause-asked
returns-in-Ok-Some-clause-asked g c =
    started_asked c.args.number (term_by (text_of (g.W.A.Atoms.held c.interned.new.atoms)) c.in-Ok.kept) c.args.goal.now (g.W.World.told c.args.world.now)
    (g.W.A.Atoms.asked c.args.atoms.now) (g.W.A.Atoms.asked c.interned.new.atoms) (g.W.A.Atoms.asked c.ball_of.new.atoms) (c.in-Ok.ensures.term ∙ c.requires.numbered)
    c.in-Ok.ensures.asked (rw c.ball_of.ensures.asked c.start.ensures.asked)

pub returns-in-Ok-clause-asked : goal.returns-in-Ok-clause-asked
returns-in-Ok-clause-asked g c =
    started_asked c.args.number (term_by (text_of (g.W.A.Atoms.held c.interned.new.atoms)) c.in-Ok.kept) c.args.goal.now (g.W.World.told c.args.world.now)
    (g.W.A.Atoms.asked c.args.atoms.now) (g.W.A.Atoms.asked c.interned.new.atoms) (g.W.A.Atoms.asked c.start.new.atoms) (c.in-Ok.ensures.term ∙ c.requires.numbered)
    c.in-Ok.ensures.asked c.start.ensures.asked

pub returns-clause-asked : goal.returns-clause-asked
returns-clause-asked g c =
    interned_asked c.args.number c.args.goal.now (g.W.World.told c.args.world.now) (g.W.A.Atoms.asked c.args.atoms.now) (g.W.A.Atoms.asked c.interned.new.atoms)
    c.interned.ensures.asked
