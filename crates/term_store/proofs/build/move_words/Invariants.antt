use Rattle.term_store.specs.Nodes.{Taken}
use Rattle.term_store.proofs.build.move_words.Given as goal

abbrev pub invariant-loop : goal.invariant-loop
invariant-loop l = Taken l.initial.args.items l.args.items l.initial.stack.items l.stack.items l.counter
