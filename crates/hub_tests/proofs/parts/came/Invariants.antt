use Rattle.hub_tests.proofs.parts.came.Given as goal

abbrev pub ghosts-came_of-K-NamesTable : goal.ghosts-came_of-K-NamesTable
ghosts-came_of-K-NamesTable g a = record { atoms = a.table.now.words.table.shared.table_id; size = a.table.now.words.size }

abbrev pub ghosts-came_of-K-Naming : goal.ghosts-came_of-K-Naming
ghosts-came_of-K-Naming g a = record { history = a.history.now; goals = a.goals }
