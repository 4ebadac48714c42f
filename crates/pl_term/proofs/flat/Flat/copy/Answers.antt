use Rattle.pl_term.proofs.Spelled.{copied, nodes_spelled, tree_spelled}
use Rattle.pl_term.proofs.flat.Flat.copy.Goals as goal

pub invariant_of-result : goal.invariant_of-result
invariant_of-result c =
    nodes_spelled _ c.args.self.now (copied _ _ _ c.args.self.now c.new-all.ensures.items c.nodes.ensures c.in_ok-append.ensures)

pub returns : goal.returns
returns c =
    tree_spelled _ c.args.self.now (copied _ _ _ c.args.self.now c.new-all.ensures.items c.nodes.ensures c.in_ok-append.ensures)
