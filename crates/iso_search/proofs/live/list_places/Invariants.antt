use Rattle.std.proofs.Common.{take, flat_map}
use Rattle.term_store.specs.Live.{Gathers, place_atoms}
use Rattle.iso_search.proofs.live.list_places.Given as goal

abbrev pub invariant-loop-place : goal.invariant-loop-place
invariant-loop-place l = Gathers (flat_map place_atoms (take l.place-index l.places)) l.fn.live l.live
