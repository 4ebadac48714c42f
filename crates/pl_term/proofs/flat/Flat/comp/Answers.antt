use Rattle.std.proofs.Common.{◌<◌, length, arith}
use Rattle.pl_term.specs.Tree.{compound}
use Rattle.pl_term.proofs.Spelled.{argument_more, arguments_all, nodes_spelled, tree_spelled}
use Rattle.pl_term.proofs.flat.Flat.comp.Goals as goal

pub loop-a-preserved : goal.loop-a-preserved
loop-a-preserved c =
    let below : c.loop-a.a-index < length c.args.args.now = omega arith in
    argument_more _ c.args.args.now c.loop-a.a-index c.a-item.result _ _ _
    below c.a-item.is c.loop-a.invariant c.nodes.ensures c.in_ok-append.ensures

pub invariant_of-result : goal.invariant_of-result
invariant_of-result c =
    nodes_spelled _ (compound c.args.name.now c.args.args.now)
    (arguments_all c.args.name.now c.args.args.now c.loop-a.a-index _ c.requires (omega arith) c.loop-a.invariant)

pub returns : goal.returns
returns c =
    tree_spelled _ (compound c.args.name.now c.args.args.now)
    (arguments_all c.args.name.now c.args.args.now c.loop-a.a-index _ c.requires (omega arith) c.loop-a.invariant)
