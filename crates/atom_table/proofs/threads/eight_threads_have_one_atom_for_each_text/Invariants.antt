use Rattle.atom_table.proofs.threads.eight_threads_have_one_atom_for_each_text.Given as goal

abbrev pub ghosts-all_agree : goal.ghosts-all_agree
ghosts-all_agree g a = record { atoms = a.table.now.words.table.shared.table_id; size = a.table.now.words.size }
