use Rattle.std.proofs.Common.{◌∙◌, append-nil}
use Rattle.world_api.proofs.HeldNodes.{nodes_more, named_more, holds_then}
use Rattle.world_api.proofs.AskedNames.{asked_more}
use Rattle.world_api.proofs.interning.interned_nodes.Goals as goal

pub loop-node-preserved : goal.loop-node-preserved
loop-node-preserved g c =
    record {
      nodes_are =
          nodes_more
          (g.A.Atoms.held c.loop-node.atoms)
          (g.A.Atoms.held c.interned_node.new.atoms)
          c.args.from.now
          c.loop-node.node-index
          c.node-item.result
          c.loop-node.all.items
          _
          c.in-Ok.named
          c.loop-node-test.true
          c.node-item.is
          c.loop-node.invariant.nodes_are
          c.loop-node.invariant.named
          c.interned_node.ensures.holds
          c.in-Ok.ensures.node
          c.in-Ok-push.ensures.items;
      named =
          named_more
          (g.A.Atoms.held c.loop-node.atoms)
          (g.A.Atoms.held c.interned_node.new.atoms)
          c.loop-node.all.items
          _
          c.in-Ok.named
          c.loop-node.invariant.named
          c.interned_node.ensures.holds
          c.in-Ok.ensures.named
          c.in-Ok-push.ensures.items;
      holds =
          holds_then
          (g.A.Atoms.held c.args.atoms.now)
          (g.A.Atoms.held c.loop-node.atoms)
          (g.A.Atoms.held c.interned_node.new.atoms)
          c.loop-node.invariant.holds
          c.interned_node.ensures.holds;
      refusals = c.in-Ok.ensures.refusals ∙ append-nil (g.A.Atoms.refusals c.loop-node.atoms) ∙ c.loop-node.invariant.refusals;
      asked =
          asked_more c.args.from.now c.loop-node.node-index c.node-item.result c.node-item.result
          (g.A.Atoms.asked c.args.atoms.now) (g.A.Atoms.asked c.loop-node.atoms) (g.A.Atoms.asked c.interned_node.new.atoms)
          c.loop-node-test.true c.node-item.is c.loop-node.invariant.asked c.interned_node.ensures.asked;
    }

pub returns-in-Err-push-clause-asked : goal.returns-in-Err-push-clause-asked
returns-in-Err-push-clause-asked g c =
    asked_more c.args.from.now c.loop-node.node-index c.node-item.result c.node-item.result
    (g.A.Atoms.asked c.args.atoms.now) (g.A.Atoms.asked c.loop-node.atoms) (g.A.Atoms.asked c.interned_node.new.atoms)
    c.loop-node-test.true c.node-item.is c.loop-node.invariant.asked c.interned_node.ensures.asked

pub returns-in-Err-clause-asked : goal.returns-in-Err-clause-asked
returns-in-Err-clause-asked g c =
    asked_more c.args.from.now c.loop-node.node-index c.node-item.result c.node-item.result
    (g.A.Atoms.asked c.args.atoms.now) (g.A.Atoms.asked c.loop-node.atoms) (g.A.Atoms.asked c.interned_node.new.atoms)
    c.loop-node-test.true c.node-item.is c.loop-node.invariant.asked c.interned_node.ensures.asked
