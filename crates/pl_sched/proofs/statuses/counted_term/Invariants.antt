use Rattle.atom_words.specs.Seats.{seen}
use Rattle.atom_table.specs.Naming.{names}
use Rattle.world_api.specs.Texts.{Holds}
use Rattle.pl_sched.proofs.statuses.counted_term.Given as goal

abbrev pub invariant-loop : goal.invariant-loop
invariant-loop g l = Holds (names (seen l.fn.atoms.seat)) (names (seen l.atoms.seat))
