use Rattle.pl_model.proofs.UnifyFronts.{front, StartsTerm-front}
use Rattle.pl_model.proofs.unifying.difference.Goals as goal

pub term_at-requires : goal.term_at-requires
term_at-requires c = StartsTerm-front (front c.args.right.now c.requires.facing.right c.requires.differs.in_right)

pub term_at-requires-in-None-Some : goal.term_at-requires-in-None-Some
term_at-requires-in-None-Some c = StartsTerm-front (front c.args.left.now c.requires.facing.left c.requires.differs.in_left)
