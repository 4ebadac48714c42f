use Rattle.std.proofs.Common.{length, ap, ◌∙◌, arith}
use Rattle.pl_term.specs.declared.node.Node.{Node}
use Rattle.pl_model.proofs.UnifyNodes.{length-nodes_pos}
use Rattle.pl_model.proofs.KeptSizes.{rule_cells, begins}
use Rattle.pl_model.proofs.kept.FlatKept.cells.Goals as goal

pub bounds-nodes-0 : goal.bounds-nodes-0
bounds-nodes-0 c = omega (arith, length-nodes_pos c.args.self.now, ap (length {A = Node}) c.nodes.ensures)

pub overflow_sub-result : goal.overflow_sub-result
overflow_sub-result c =
    let rule = begins c.args.self.now c.is_rule.result c.index-nodes-0.result c.nodes.result.now c.is_rule.ensures c.index-nodes-0.is c.nodes.ensures ∙ c.if-is_rule.true in
    omega (arith, c.cells.ensures, rule_cells c.args.self.now c.index-nodes-0.result rule)
