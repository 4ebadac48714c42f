use Rattle.term_store.specs.Live.{node_atoms}
use Rattle.term_store.proofs.Gathering.{gathers_last, gathers_next, gathers_none}
use Rattle.term_store.proofs.live.list_nodes.Goals as goal

pub loop-node-init : goal.loop-node-init
loop-node-init c = gathers_none c.args.live.now

pub loop-node-preserved : goal.loop-node-preserved
loop-node-preserved c =
    gathers_next node_atoms c.args.nodes.now c.loop-node.node-index _ c.args.live.now c.loop-node.live c.list_node.new.live c.loop-node-test.true c.loop-node.invariant
    c.in_ok-list_node.ensures

pub returns : goal.returns
returns c = gathers_last node_atoms c.args.nodes.now c.loop-node.node-index c.args.live.now c.loop-node.live c.loop-node-test.false c.loop-node.invariant
