use Rattle.command_line.specs.Commands.{told_command}
use Rattle.toplevel.specs.RunOutcomes.{program_read}
use Rattle.toplevel.proofs.engines.run_engines.Given as goal

abbrev pub ghosts-run_over-K-NamesTable : goal.ghosts-run_over-K-NamesTable
ghosts-run_over-K-NamesTable g a = record { atoms = a.table.now.words.table.shared.table_id; size = a.table.now.words.size }

abbrev pub ghosts-run_over-K-Naming : goal.ghosts-run_over-K-Naming
ghosts-run_over-K-Naming g a = record { history = a.history.now; goals = a.goals }

abbrev pub ghosts-run_over-K-Command : goal.ghosts-run_over-K-Command
ghosts-run_over-K-Command g a = record { program = program_read (told_command a.command.now) a.bytes.items; file = a.command.now.file; board = a.board.now }
