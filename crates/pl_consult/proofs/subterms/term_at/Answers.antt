use Rattle.std.proofs.Common.{◌≡◌, ◌∙◌, ◌-◌, drop, arith}
use Rattle.pl_term.specs.Nodes.{nodes, tree, tree-nodes}
use Rattle.pl_consult.proofs.ReadTerms.{take-first_term}
use Rattle.std.proofs.Common.{ap, sym}
use Rattle.pl_consult.proofs.subterms.term_at.Goals as goal
use Rattle.pl_consult.proofs.subterms.term_at.Goals.{In_ok-own}

own_nodes : (c : In_ok-own) → c.in_ok-own.own.items ≡ nodes (tree (drop c.args.at c.args.all.now))
own_nodes c =
    c.in_ok-own.ensures ∙ take-first_term (drop c.args.at c.args.all.now) (c.subterm_end-end.result - c.args.at) c.requires (omega (arith, c.subterm_end-end.ensures.ends))

pub from_nodes-requires : goal.from_nodes-requires
from_nodes-requires c =
    (tree (drop c.args.at c.args.all.now), own_nodes (goal.at.from_nodes-requires c).In_ok-own)

pub returns-clause-term : goal.returns-clause-term
returns-clause-term c =
    let e = own_nodes (goal.at.returns-clause-term c).In_ok-own in
    sym (tree-nodes c.from_nodes.result) ∙ ap tree (c.from_nodes.ensures ∙ e) ∙ tree-nodes (tree (drop c.args.at c.args.all.now))
