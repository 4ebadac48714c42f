use Rattle.atom_words.specs.Seats.{seen}
use Rattle.atom_table.proofs.Naming.{only_those}
use Rattle.atom_table.proofs.marking.mark_live.Goals as goal

pub mark-requires-clause-ours : goal.mark-requires-clause-ours
mark-requires-clause-ours c = λ a i. only_those c.args.live.now (seen c.args.seat.now).held a i
