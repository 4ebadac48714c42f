use Rattle.std.proofs.Common.{take, flat_map}
use Rattle.term_store.specs.Live.{Gathers}
use Rattle.iso_search.specs.Live.{line_atoms}
use Rattle.iso_search.proofs.live.list_lines.Given as goal

abbrev pub invariant-loop-line : goal.invariant-loop-line
invariant-loop-line l = Gathers (flat_map line_atoms (take l.line-index l.lines)) l.fn.live l.live
