use Rattle.std.proofs.Common.{◌∙◌, ap}
use Rattle.std.specs.Cmp.Lexicographic.{slice_cmp}
use Rattle.pl_term.specs.Nodes.{nodes}
use Rattle.pl_term.specs.NodeLists.{node_order}
use Rattle.pl_term.proofs.OrderLemmas.{order_by_nodes}
use Rattle.pl_term.proofs.flat.Flat.compare.Goals as goal

pub returns : goal.returns
returns c =
    c.compare_nodes.ensures
    ∙ ap (λ ns. slice_cmp node_order ns c.nodes-2.result.now) c.nodes.ensures
    ∙ ap (slice_cmp node_order (nodes c.args.self.now)) c.nodes-2.ensures
    ∙ order_by_nodes c.args.self.now c.args.other.now
