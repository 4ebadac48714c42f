use Rattle.std.proofs.Common.{◌∙◌, sym, ap, arith, length, inr}
use Rattle.builtin_arithmetic.proofs.ListedValues.{arguments_at, all_values}
use Rattle.builtin_arithmetic.proofs.expressions.eval.Goals as goal

pub put_value-requires : goal.put_value-requires
put_value-requires c =
    let h =
    arguments_at
    c.args.term.now
    c.nodes-nodes.result.now
    c.loop-i.i
    c.index-nodes-i.result
    c.nodes-nodes.ensures
    c.loop-i-test.true
    c.loop-i.auto.i
    in
    rw (c.index-nodes-i.is, c.loop-i.invariant) h

pub pop-requires : goal.pop-requires
pop-requires c =
    let h =
    all_values
    c.args.term.now
    c.nodes-nodes.result.now
    c.loop-i.i
    c.loop-i.values
    c.nodes-nodes.ensures
    c.loop-i-test.false
    c.loop-i.invariant
    in
    omega (arith, ap length h)

pub returns : goal.returns
returns c =
    let h =
    all_values
    c.args.term.now
    c.nodes-nodes.result.now
    c.loop-i.i
    c.loop-i.values
    c.nodes-nodes.ensures
    c.loop-i-test.false
    c.loop-i.invariant
    in
    let k = sym h ∙ c.pop.ensures in
    inr cc
