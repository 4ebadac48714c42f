use Rattle.std.proofs.Common.{◌≡◌, List, ◌∷◌, [], ◌++◌, ◌+◌, take, ap, sym, arith, ◌∙◌}
use Rattle.std.proofs.lemmas.List.{take_all, take_more}
use Rattle.pl_term.specs.declared.node.Node.{Node}
use Rattle.pl_term.specs.Nodes.{nodes}
use Rattle.pl_term.proofs.NodeLemmas.{same_from_nodes}
use Rattle.pl_sched.proofs.statuses.flat_of.Goals as goal

pub loop-at-preserved : goal.loop-at-preserved
loop-at-preserved c =
    let own = nodes c.args.term.now in
    let i = c.loop-at.at in
    let n = c.in_ok-node.node in
    c.in_ok-push.ensures.items ∙ (ap (λ (l : List Node). l ++ n ∷ []) c.loop-at.invariant ∙ (ap (λ (x : Node). take i own ++ x ∷ []) c.in_ok-node.ensures ∙ sym (take_more own i n (let low = c.loop-at-test.true in let all = c.len-at-end.ensures in omega (arith, low, all)))))

pub from_nodes-requires : goal.from_nodes-requires
from_nodes-requires c =
    let own = nodes c.args.term.now in
    (c.args.term.now, c.loop-at.invariant ∙ take_all c.loop-at.at own (let high = c.loop-at-test.false in let all = c.len-at-end.ensures in omega (arith, high, all)))

pub returns : goal.returns
returns c =
    let own = nodes c.args.term.now in
    same_from_nodes c.from_nodes.result c.args.term.now (c.from_nodes.ensures ∙ (c.loop-at.invariant ∙ take_all c.loop-at.at own (let high = c.loop-at-test.false in let all = c.len-at-end.ensures in omega (arith, high, all))))
