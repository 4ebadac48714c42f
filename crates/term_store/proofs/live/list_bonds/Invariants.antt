use Rattle.std.proofs.Common.{take, flat_map}
use Rattle.term_store.specs.Live.{Gathers, word_atoms}
use Rattle.term_store.proofs.live.list_bonds.Given as goal

abbrev pub invariant-loop-i : goal.invariant-loop-i
invariant-loop-i l = Gathers (flat_map (λ b. word_atoms b.word) (take l.i l.bonds.items)) l.fn.live l.live
