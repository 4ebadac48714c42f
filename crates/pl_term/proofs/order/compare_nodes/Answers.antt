use Rattle.std.proofs.Common.{◌≡◌, ◌<◌, ◌∙◌, sym, length, min, arith}
use Rattle.pl_term.proofs.OrderLemmas.{same_step, same_end}
use Rattle.pl_term.proofs.order.compare_nodes.Goals as goal

pub loop-i-preserved : goal.loop-i-preserved
loop-i-preserved c =
    let l : c.loop-i.i < length c.args.left.now = omega arith in
    let r : c.loop-i.i < length c.args.right.now = omega arith in
    c.loop-i.invariant
    ∙ same_step
    c.args.left.now
    c.args.right.now
    c.loop-i.i
    c.index-left-i.result
    c.index-right-i.result
    c.compare-order.result
    l
    r
    c.index-left-i.is
    c.index-right-i.is
    c.compare-order.ensures
    (sym c.if-is_ne.ensures)

pub returns : goal.returns
returns c =
    let e : c.loop-i.i ≡ min (length c.args.left.now) (length c.args.right.now) = omega arith in
    c.cmp.ensures ∙ sym (c.loop-i.invariant ∙ same_end c.args.left.now c.args.right.now c.loop-i.i e)
