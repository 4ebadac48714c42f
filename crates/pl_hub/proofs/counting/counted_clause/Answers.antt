use Rattle.std.proofs.Common.{◌≡◌, ap, subst, ◌∙◌}
use Rattle.std.specs.Prelude.{IfOk}
use Rattle.pl_term.specs.Nodes.{tree, tree-nodes}
use Rattle.pl_term.specs.Tree.{Tree}
use Rattle.pl_term.specs.Variables.{rename}
use Rattle.pl_hub.proofs.counting.counted_clause.Goals as goal

pub returns : goal.returns
returns c =
    subst (λ (t : Tree). IfOk c.new.result (λ x. x ≡ t))
    (c.in_ok-clause.ensures ∙ ap (λ ns. rename 0 (tree ns)) c.nodes.ensures.spelled ∙ ap (rename 0) (tree-nodes c.args.clause.now) ∙ c.nodes.ensures.numbered)
    c.new.ensures
