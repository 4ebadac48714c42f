use Rattle.bucket_rows.specs.Walks.{spelled}
use Rattle.atom_table.proofs.interning.ask.Given as goal

abbrev pub ghosts-load_asked : goal.ghosts-load_asked
ghosts-load_asked a = record { words = spelled a._text.now }
