use Rattle.atom_table.proofs.tests.an_engine_has_atoms_of_the_table.Given as goal

abbrev pub ghosts-last_comes_back : goal.ghosts-last_comes_back
ghosts-last_comes_back g a = record { atoms = a.table.now.words.table.shared.table_id; size = a.table.now.words.size }
