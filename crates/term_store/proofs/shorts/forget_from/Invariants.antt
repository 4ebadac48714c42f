use Rattle.std.proofs.Common.{length}
use Rattle.term_store.specs.Shorts.{StaysBelow}
use Rattle.term_store.proofs.shorts.forget_from.Given as goal

abbrev pub invariant-loop-last : goal.invariant-loop-last
invariant-loop-last l = StaysBelow l.count l.initial.wides.items l.wides.items

abbrev pub decreases-loop-last : goal.decreases-loop-last
decreases-loop-last l = length l.wides.items
