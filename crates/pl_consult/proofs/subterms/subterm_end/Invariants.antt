use Rattle.pl_consult.proofs.ReadTerms.{Reading}
use Rattle.pl_consult.proofs.subterms.subterm_end.Given as goal

abbrev pub invariant-loop-i : goal.invariant-loop-i
invariant-loop-i l = Reading l.all l.at l.i l.pending
