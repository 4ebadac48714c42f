use Rattle.std.proofs.Common.{take, flat_map}
use Rattle.term_store.specs.Live.{Gathers, node_atoms}
use Rattle.term_store.proofs.live.list_nodes.Given as goal

abbrev pub invariant-loop-node : goal.invariant-loop-node
invariant-loop-node l = Gathers (flat_map node_atoms (take l.node-index l.nodes)) l.fn.live l.live
