use Rattle.std.proofs.Common.{◌≡◌, ◌<◌, ◌+◌, ◌^◌, length, take, arith}
use Rattle.pl_term.specs.NodeLists.{cells_of, added_cells}
use Rattle.pl_term.proofs.CellLemmas.{cells_more, cells_end, cells_fit, node_fits}
use Rattle.pl_term.proofs.flat.Flat.cells.Goals as goal

pub cells_added-sum-requires : goal.cells_added-sum-requires
cells_added-sum-requires c =
    let few : length c.nodes-nodes.result.now < 2 ^ 63 = omega (arith, c.nodes-nodes.type_inv) in
    node_fits
    c.args.self.now
    c.nodes-nodes.result.now
    c.loop-i.i
    c.index-nodes-i.result
    c.nodes-nodes.ensures
    few
    c.loop-i-test.true
    c.index-nodes-i.is

pub overflow_add-sum : goal.overflow_add-sum
overflow_add-sum c =
    let few : length c.nodes-nodes.result.now < 2 ^ 63 = omega (arith, c.nodes-nodes.type_inv) in
    omega (
      arith,
      c.loop-i.invariant,
      c.cells_added-sum.ensures,
      cells_fit
          c.args.self.now
          c.nodes-nodes.result.now
          c.loop-i.i
          c.index-nodes-i.result
          c.nodes-nodes.ensures
          few
          c.loop-i-test.true
          c.index-nodes-i.is,
    )

pub loop-i-preserved : goal.loop-i-preserved
loop-i-preserved c =
    let more : cells_of (take (c.loop-i.i + 1) c.nodes-nodes.result.now)
    ≡ cells_of (take c.loop-i.i c.nodes-nodes.result.now)
    + added_cells c.index-nodes-i.result (take c.loop-i.i c.nodes-nodes.result.now) =
    cells_more
    c.nodes-nodes.result.now
    c.loop-i.i
    c.index-nodes-i.result
    c.loop-i-test.true
    c.index-nodes-i.is in
    omega (arith, c.loop-i.invariant, c.cells_added-sum.ensures, more)

pub returns : goal.returns
returns c =
    cells_end
    c.args.self.now
    c.nodes-nodes.result.now
    c.loop-i.i
    c.loop-i.sum
    c.nodes-nodes.ensures
    c.loop-i-test.false
    c.loop-i.invariant
