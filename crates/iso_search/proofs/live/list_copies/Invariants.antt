use Rattle.std.proofs.Common.{take, flat_map}
use Rattle.term_store.specs.Live.{Gathers}
use Rattle.term_store.specs.NumberedNames.{atoms_in}
use Rattle.iso_search.proofs.live.list_copies.Given as goal

abbrev pub invariant-loop-copy : goal.invariant-loop-copy
invariant-loop-copy l = Gathers (flat_map (λ c. atoms_in c.term) (take l.copy-index l.copies)) l.fn.live l.live
