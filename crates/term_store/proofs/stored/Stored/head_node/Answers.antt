use Rattle.std.proofs.Common.{◌≡◌, ◌<◌, ◌∙◌, get_or, length, sym, ap, arith}
use Rattle.std.proofs.lemmas.List.{length-map}
use Rattle.pl_term.specs.declared.node.Node.{Node}
use Rattle.pl_term.specs.Nodes.{nodes}
use Rattle.term_store.specs.ArgumentKeys.{head_in, head_nodes}
use Rattle.term_store.specs.Nodes.{node_view, node_views}
use Rattle.term_store.proofs.Fronting.{head_front, head_some}
use Rattle.term_store.proofs.KeptTerms.{first_view_any, some_nodes}
use Rattle.term_store.proofs.stored.Stored.head_node.Goals as goal

pub head_node-requires-clause-inside : goal.head_node-requires-clause-inside
head_node-requires-clause-inside c = c.in-Some.ensures.parts.head_in_block

pub head-requires : goal.head-requires
head-requires c = some_nodes c.nodes.result.now c.args.self.now c.nodes.ensures.spelled

pub bounds-head-0 : goal.bounds-head-0
bounds-head-0 c =
    omega (arith, head_some c.args.self.now, ap (length {A = Node}) (c.head.ensures ∙ ap head_nodes c.nodes.ensures.spelled), length-map c.head.result.now node_view)

pub returns-in-Some : goal.returns-in-Some
returns-in-Some c d =
    let f = c.in-Some.ensures in
    c.head_node.ensures d ∙ ap (λ t. get_or (nodes t) 0 d) (f.parts.head_is ∙ ap head_in f.means) ∙ sym (head_front c.args.self.now d)

pub returns-in-None : goal.returns-in-None
returns-in-None c d =
    let t = c.args.self.now in
    let is : node_views c.head.result.now ≡ head_nodes (nodes t) = c.head.ensures ∙ ap head_nodes c.nodes.ensures.spelled in
    let low : 0 < length c.head.result.now = omega (arith, head_some t, ap (length {A = Node}) is, length-map c.head.result.now node_view) in
    first_view_any c.head.result.now _ d low ∙ ap (λ ns. get_or ns 0 d) is
