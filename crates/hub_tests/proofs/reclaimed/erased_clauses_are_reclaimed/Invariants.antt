use Rattle.hub_tests.proofs.reclaimed.erased_clauses_are_reclaimed.Given as goal

abbrev pub ghosts-not_taken : goal.ghosts-not_taken
ghosts-not_taken g a = record { atoms = a.table.now.words.table.shared.table_id; size = a.table.now.words.size }
