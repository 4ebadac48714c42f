use Rattle.atom_words.proofs.words.Words.put_word.Given as goal

abbrev pub ghosts-find_word : goal.ghosts-find_word
ghosts-find_word a = record { word = a._word }
