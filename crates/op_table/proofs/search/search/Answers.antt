use Rattle.std.proofs.Common.{◌<◌, ◌+◌, ◌-◌, ◌/◌, length, sym, arith}
use Rattle.op_table.proofs.EntriesRead.{search_before, search_behind, search_found}
use Rattle.op_table.proofs.search.search.Goals as goal

pub loop-low-preserved-in-Less : goal.loop-low-preserved-in-Less
loop-low-preserved-in-Less c =
    let within : c.loop-low.low + (c.loop-low.high - c.loop-low.low) / 2 < length c.args.operators.now = omega (arith, c.loop-low.invariant.1) in (
      omega arith,
      omega (arith, c.loop-low.invariant.1),
      c.loop-low.invariant.2,
      search_behind c.args.operators.now c.requires (c.args.name.now, c.args.place) _ c.index-operators-middle.result within c.index-operators-middle.is (sym c.in-Less.ensures),
    )

pub returns-in-Equal : goal.returns-in-Equal
returns-in-Equal c =
    let within : c.loop-low.low + (c.loop-low.high - c.loop-low.low) / 2 < length c.args.operators.now = omega (arith, c.loop-low.invariant.1) in
    search_found c.args.operators.now c.requires (c.args.name.now, c.args.place) _ c.index-operators-middle.result within c.index-operators-middle.is (sym c.in-Equal.ensures)

pub loop-low-preserved : goal.loop-low-preserved
loop-low-preserved c =
    let within : c.loop-low.low + (c.loop-low.high - c.loop-low.low) / 2 < length c.args.operators.now = omega (arith, c.loop-low.invariant.1) in (
      omega arith,
      omega (arith, c.loop-low.invariant.1),
      search_before c.args.operators.now c.requires (c.args.name.now, c.args.place) _ c.index-operators-middle.result within c.index-operators-middle.is (sym c.in-Greater.ensures),
      c.loop-low.invariant.3,
    )
