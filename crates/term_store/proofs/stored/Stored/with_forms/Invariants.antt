use Rattle.term_store.proofs.Renumbering.{Numbered}
use Rattle.term_store.proofs.stored.Stored.with_forms.Given as goal

abbrev pub invariant-loop-n : goal.invariant-loop-n
invariant-loop-n l = Numbered l.nodes l.n-index l.met l.all.items l.sum
