use Rattle.std.proofs.Common.{◌≡◌, ◌+◌, length, take, refl, ap, ◌∙◌, arith}
use Rattle.pl_term.specs.NodeLists.{added_variables}
use Rattle.pl_term.proofs.NodeLemmas.{met, met_all, length-met_take}
use Rattle.pl_term.proofs.CellLemmas.{count_more, length-met}
use Rattle.pl_term.proofs.flat.Flat.variable_count.Goals as goal

pub overflow_add-count : goal.overflow_add-count
overflow_add-count c =
    let more : length (met (take (c.loop-i.i + 1) c.nodes-nodes.result.now))
    ≡ length (met (take c.loop-i.i c.nodes-nodes.result.now))
    + added_variables c.index-nodes-i.result (take c.loop-i.i c.nodes-nodes.result.now) =
    count_more
    c.nodes-nodes.result.now
    c.loop-i.i
    c.index-nodes-i.result
    c.loop-i-test.true
    c.index-nodes-i.is in
    omega (
      arith,
      c.loop-i.invariant,
      c.variables_added-count.ensures,
      c.nodes-nodes.type_inv,
      more,
      length-met_take c.nodes-nodes.result.now (c.loop-i.i + 1),
      length-met c.nodes-nodes.result.now,
    )

pub loop-i-preserved : goal.loop-i-preserved
loop-i-preserved c =
    let more : length (met (take (c.loop-i.i + 1) c.nodes-nodes.result.now))
    ≡ length (met (take c.loop-i.i c.nodes-nodes.result.now))
    + added_variables c.index-nodes-i.result (take c.loop-i.i c.nodes-nodes.result.now) =
    count_more
    c.nodes-nodes.result.now
    c.loop-i.i
    c.index-nodes-i.result
    c.loop-i-test.true
    c.index-nodes-i.is in
    omega (arith, c.loop-i.invariant, c.variables_added-count.ensures, more)

pub returns-clause-count : goal.returns-clause-count
returns-clause-count c =
    c.loop-i.invariant
    ∙ ap
    length
    (met_all
    c.args.self.now
    c.nodes-nodes.result.now
    c.loop-i.i
    (met (take c.loop-i.i c.nodes-nodes.result.now))
    c.nodes-nodes.ensures
    c.loop-i-test.false
    refl)

pub returns-clause-bound : goal.returns-clause-bound
returns-clause-bound c =
    omega (
      arith,
      c.loop-i.invariant,
      c.nodes-nodes.type_inv,
      length-met_take c.nodes-nodes.result.now c.loop-i.i,
      length-met c.nodes-nodes.result.now,
    )
