use Rattle.pl_model.proofs.UnifySubterms.{Reading}
use Rattle.pl_model.proofs.subterms.subterm_end.Given as goal

abbrev pub invariant-loop-i : goal.invariant-loop-i
invariant-loop-i l = Reading l.all l.at l.i l.pending
