use Rattle.std.proofs.Common.{◌≡◌, length, sym, ap, subst, ◌∙◌}
use Rattle.std.specs.List.{All}
use Rattle.pl_term.specs.Nodes.{nodes, tree}
use Rattle.pl_term.proofs.Spelled.{nodes_spelled}
use Rattle.named_terms.specs.NamedNodes.{IsNodeNamed, nodes_by}
use Rattle.named_terms.proofs.named.NamedTerm.from_parts.Goals as goal

pub invariant_of-result : goal.invariant_of-result
invariant_of-result c =
    let e = c.in_ok-parts.ensures.ok in (
      subst (λ f. nodes (tree (nodes_by f.names.items f.nodes.items)) ≡ nodes_by f.names.items f.nodes.items) (sym e)
          (nodes_spelled (nodes_by c.args.names.items c.args.all.items) c.requires.spelled.0 c.requires.spelled.1),
      subst (λ f. All (IsNodeNamed (length f.names.items)) f.nodes.items) (sym e) c.requires.named,
    )

pub returns : goal.returns
returns c =
    ap (λ f. nodes (tree (nodes_by f.names.items f.nodes.items))) c.in_ok-parts.ensures.ok
    ∙ nodes_spelled (nodes_by c.args.names.items c.args.all.items) c.requires.spelled.0 c.requires.spelled.1
