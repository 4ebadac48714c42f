use Rattle.std.proofs.Common.{ap, subst, zero, ◌∙◌}
use Rattle.std.specs.Prelude.{◌≡◌, IfOk}
use Rattle.pl_term.specs.Nodes.{tree, tree-nodes}
use Rattle.pl_term.specs.Tree.{Tree}
use Rattle.pl_term.specs.Variables.{rename}
use Rattle.kept_answers.proofs.answers.copied.Goals as goal

pub returns : goal.returns
returns c =
    subst (λ (t : Tree). IfOk c.clause_from_nodes.result (λ s. s ≡ t))
    (ap (rename zero) (ap tree c.nodes.ensures.spelled ∙ tree-nodes c.args.term.now) ∙ c.nodes.ensures.numbered) c.clause_from_nodes.ensures
