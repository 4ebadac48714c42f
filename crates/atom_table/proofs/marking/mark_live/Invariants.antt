use Rattle.atom_table.specs.Naming.{those}
use Rattle.atom_table.proofs.marking.mark_live.Given as goal

abbrev pub ghosts-mark : goal.ghosts-mark
ghosts-mark a = record { those = those a._live.now a.seat.now.seat.me.0.held }
