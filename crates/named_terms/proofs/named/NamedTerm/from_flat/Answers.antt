use Rattle.std.proofs.Common.{◌≡◌, ◌∷◌, [], ◌++◌, ◌+◌, take, ap, sym, arith, ◌∙◌}
use Rattle.std.proofs.lemmas.List.{take_all, take_more}
use Rattle.std.proofs.lemmas.Result.{IfOk-weaker}
use Rattle.pl_term.specs.Nodes.{nodes}
use Rattle.named_terms.specs.NamedNodes.{nodes_by}
use Rattle.named_terms.proofs.NamedLaws.{all_named, one_more, same_tree}
use Rattle.named_terms.proofs.named.NamedTerm.from_flat.Goals as goal

pub loop-node-preserved : goal.loop-node-preserved
loop-node-preserved c =
    let own = c.nodes-own.result.now in
    let i = c.loop-node.node-index in
    let n = c.node-item.result in
    let old = c.loop-node.names.items in
    let new = c.behind.new.names.items in
    let before = c.loop-node.all.items in
    let after = c.push.new.self.items in
    let h = c.loop-node.invariant in
    let e = c.in_ok-next.ensures in
    let more : take (i + 1) own ≡ take i own ++ n ∷ [] = take_more own i n c.loop-node-test.true ∙ ap (λ x. take i own ++ x ∷ []) (sym c.node-item.is) in
    record {
      spelled = one_more old new before after c.in_ok-next.next (take i own) n e.more c.in_ok-push.ensures.items h.named h.spelled e.node ∙ sym more;
      named = all_named old new before after c.in_ok-next.next e.more c.in_ok-push.ensures.items h.named e.named;
    }

pub from_parts-requires : goal.from_parts-requires
from_parts-requires c =
    let own = c.nodes-own.result.now in
    let all : take c.loop-node.node-index own ≡ own = take_all c.loop-node.node-index own (omega (arith, c.loop-node-test.false)) in
    record { spelled = (c.args.term.now, c.loop-node.invariant.spelled ∙ all ∙ c.nodes-own.ensures); named = c.loop-node.invariant.named }

pub returns : goal.returns
returns c =
    let own = c.nodes-own.result.now in
    let all : take c.loop-node.node-index own ≡ own = take_all c.loop-node.node-index own (omega (arith, c.loop-node-test.false)) in
    IfOk-weaker c.from_parts.result _ _
    (λ n h. same_tree n c.args.term.now (nodes_by c.loop-node.names.items c.loop-node.all.items) h (c.loop-node.invariant.spelled ∙ all ∙ c.nodes-own.ensures))
    c.from_parts.ensures
