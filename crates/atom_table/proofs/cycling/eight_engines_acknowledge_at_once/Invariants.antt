use Rattle.atom_table.proofs.cycling.eight_engines_acknowledge_at_once.Given as goal

abbrev pub ghosts-mark_at_once : goal.ghosts-mark_at_once
ghosts-mark_at_once g a = record { atoms = a.table.now.words.table.shared.table_id; size = a.table.now.words.size }
