use Rattle.hub_tests.proofs.pass_through.Given as goal

abbrev pub ghosts-pass_on : goal.ghosts-pass_on
ghosts-pass_on a = record { atoms = a.table.now.words.table.shared.table_id; size = a.table.now.words.size }
