use Rattle.std.proofs.Common.{take, flat_map}
use Rattle.term_store.specs.Live.{Gathers, word_atoms}
use Rattle.term_store.proofs.live.list_words.Given as goal

abbrev pub invariant-loop-i : goal.invariant-loop-i
invariant-loop-i l = Gathers (flat_map word_atoms (take l.i l.words.items)) l.fn.live l.live
