use Rattle.pl_report.proofs.lasts.put_thread_how.Goals as goal

pub returns-in-AtomSpace : goal.returns-in-AtomSpace
returns-in-AtomSpace c = rw c.in-AtomSpace.is c.put_line.ensures
