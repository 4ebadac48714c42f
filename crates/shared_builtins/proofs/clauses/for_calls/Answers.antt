use Rattle.std.proofs.Common.{zero, ap, ◌∙◌}
use Rattle.pl_term.specs.Nodes.{tree, tree-nodes}
use Rattle.pl_term.specs.Variables.{rename}
use Rattle.shared_builtins.proofs.clauses.for_calls.Goals as goal

pub clause_from_nodes-requires : goal.clause_from_nodes-requires
clause_from_nodes-requires c = (c.args.clause.now, c.nodes.ensures.spelled)

pub returns : goal.returns
returns c =
    c.in_ok-both.ensures ∙ ap (λ ns. rename zero (tree ns)) c.nodes.ensures.spelled ∙ ap (rename zero) (tree-nodes c.args.clause.now) ∙ c.nodes.ensures.numbered
