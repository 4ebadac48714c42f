use Rattle.std.proofs.Common.{◌≡◌, length, ap, subst, arith, ◌∙◌}
use Rattle.std.specs.Result.{IfOk}
use Rattle.pl_term.specs.declared.node.Node.{Node}
use Rattle.pl_model.specs.KeptNodes.{head_nodes, first_key}
use Rattle.pl_model.specs.declared.first_argument.FirstArgument.{FirstArgument}
use Rattle.pl_model.proofs.UnifyNodes.{length-nodes_pos}
use Rattle.pl_model.proofs.KeptKeys.{first_key-head}
use Rattle.pl_model.proofs.kept.FlatKept.key.Goals as goal

pub head-requires : goal.head-requires
head-requires c = omega (arith, length-nodes_pos c.args.self.now, ap (length {A = Node}) c.nodes.ensures)

pub returns : goal.returns
returns c =
    subst
    (λ (x : FirstArgument). IfOk c.first_argument.result (λ k. k ≡ x))
    (ap first_key (c.head.ensures ∙ ap head_nodes c.nodes.ensures) ∙ first_key-head c.args.self.now)
    c.first_argument.ensures
