use Rattle.std.proofs.Common.{take, flat_map}
use Rattle.term_store.specs.Live.{Gathers, head_atoms}
use Rattle.term_store.proofs.live.list_heads.Given as goal

abbrev pub invariant-loop-head : goal.invariant-loop-head
invariant-loop-head l = Gathers (flat_map head_atoms (take l.head-index l.heads)) l.fn.live l.live
