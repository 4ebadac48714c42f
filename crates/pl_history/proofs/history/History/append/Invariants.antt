use Rattle.pl_history.proofs.history.History.append.Given as goal

abbrev pub ghosts-add : goal.ghosts-add
ghosts-add g a = record { entry = g.X.Shows.entry a._x.now }
