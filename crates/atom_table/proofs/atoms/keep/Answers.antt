use Rattle.atom_words.specs.Seats.{seen}
use Rattle.atom_table.proofs.Naming.{only_those}
use Rattle.atom_table.proofs.atoms.keep.Goals as goal

pub load_kept-requires-clause-ours : goal.load_kept-requires-clause-ours
load_kept-requires-clause-ours c = λ a i. only_those c.args.live.now (seen c.args.seat.now).held a i
