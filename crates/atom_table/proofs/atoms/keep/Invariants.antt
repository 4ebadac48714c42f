use Rattle.atom_table.specs.Naming.{those}
use Rattle.atom_table.proofs.atoms.keep.Given as goal

abbrev pub ghosts-load_kept : goal.ghosts-load_kept
ghosts-load_kept a = record { those = those a._live.now a.seat.now.me.0.held }
