use Rattle.pl_history.proofs.threads.eight_threads_make_one_history.Given as goal

abbrev pub ghosts-run_all : goal.ghosts-run_all
ghosts-run_all g a = record { table = a.history }
