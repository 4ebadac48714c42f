use Rattle.std.proofs.Common.{◌+◌, ◌-◌, length, ap, ◌∙◌, arith}
use Rattle.pl_term.specs.declared.node.Node.{Node}
use Rattle.pl_model.proofs.UnifyCode.{unifying_start}
use Rattle.pl_model.proofs.UnifyLoop.{unifying_same, unifying_clash, unifying_more, unifying_end}
use Rattle.pl_model.proofs.unifying.unify.Goals as goal

pub loop-turn-init : goal.loop-turn-init
loop-turn-init c =
    let left = c.new-left.ensures ∙ c.nodes.ensures in
    let right = c.new-right.ensures ∙ c.nodes-2.ensures in
    rw (c.new-bindings.ensures.items, left, right)
    (unifying_start c.args.a.now c.args.b.now (length c.nodes-3.result.now + length c.nodes-4.result.now + 1 - 0)
    (omega (arith, ap (length {A = Node}) c.nodes-3.ensures, ap (length {A = Node}) c.nodes-4.ensures)))

pub returns-in-Same : goal.returns-in-Same
returns-in-Same c =
    unifying_same _ _ _ _ _ _ _ _ c.loop-turn.invariant (omega arith) c.in-Same.is c.in_ok-turn.ensures

pub returns-in-Clash : goal.returns-in-Clash
returns-in-Clash c =
    unifying_clash _ _ _ _ _ _ _ _ c.loop-turn.invariant (omega arith) c.in-Clash.is c.in_ok-turn.ensures

pub loop-turn-preserved : goal.loop-turn-preserved
loop-turn-preserved c =
    unifying_more _ _ _ _ _ _ _ _ _ _ _ _ c.loop-turn.invariant (omega arith) (omega arith) c.in-Binds.is c.in_ok-turn.ensures
    c.in_ok-push-in-Binds.ensures.items

pub returns : goal.returns
returns c = unifying_end _ _ _ _ _ c.loop-turn.invariant (omega arith)
