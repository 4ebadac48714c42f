use Rattle.pl_history.proofs.history.History.hand.Given as goal

abbrev pub ghosts-give : goal.ghosts-give
ghosts-give a = record { engine = a._engine }
