use Rattle.std.proofs.Common.{take, flat_map}
use Rattle.term_store.specs.Live.{Gathers}
use Rattle.iso_search.specs.Live.{task_atoms}
use Rattle.iso_search.proofs.live.list_frames.Given as goal

abbrev pub invariant-loop-frame : goal.invariant-loop-frame
invariant-loop-frame l = Gathers (flat_map (λ f. task_atoms f.task) (take l.frame-index l.frames)) l.fn.live l.live
