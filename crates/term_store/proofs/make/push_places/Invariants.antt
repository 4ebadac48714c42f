use Rattle.std.proofs.Common.{◌≡◌, ◌++◌, map, take}
use Rattle.term_store.proofs.make.push_places.Given as goal

abbrev pub invariant-loop-p : goal.invariant-loop-p
invariant-loop-p l = l.args.items ≡ l.initial.args.items ++ map (λ p. p.word) (take l.p-index l.places)
