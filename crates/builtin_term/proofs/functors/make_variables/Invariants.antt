use Rattle.builtin_term.specs.Giving.{IsFresh}
use Rattle.builtin_term.proofs.functors.make_variables.Given as goal

abbrev pub invariant-loop-i : goal.invariant-loop-i
invariant-loop-i l = IsFresh l.fn.store l.fn.next l.i l.store l.all.items
