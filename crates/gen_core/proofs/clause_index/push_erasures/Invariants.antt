use Rattle.std.proofs.Common.{◌≡◌, ◌++◌, map, take}
use Rattle.gen_core.specs.ClauseIndex.{erased_from}
use Rattle.gen_core.proofs.clause_index.push_erasures.Given as goal

abbrev pub invariant-loop-item : goal.invariant-loop-item
invariant-loop-item g l = l.pairs.items ≡ l.initial.pairs.items ++ map (λ x. (erased_from l.place x.value.dated, x.number)) (take l.item-index l.items)
