use Rattle.pl_term.specs.Tree.{atom}
use Rattle.builtin_rows.proofs.Balls.{atom_held, atom_reads, makes_nothing, thrown_row}
use Rattle.builtin_rows.proofs.errors.raised.Goals as goal

pub ball_of-requires : goal.ball_of-requires
ball_of-requires c = (c.atom.ensures c.args.store.now).0

pub returns-clause-row : goal.returns-clause-row
returns-clause-row c m e p next ts stands f g =
    let s = c.args.store.now in
    let is = (c.atom.ensures s).1 in
    thrown_row m stands s c.ball_of.new.store c.atom.result c.args.name c.args.arity p g c.in_ok-ball.ball c.in_ok-ball.ensures s next ts (atom e) (makes_nothing s)
    (atom_reads m stands s c.atom.result c.args.error e f is) (atom_held m stands s c.atom.result c.args.error e f is)
