use Rattle.std.proofs.Common.{ap, arith, length, set, ◌∙◌}
use Rattle.std.proofs.lemmas.List.Edits.{map_over_more}
use Rattle.gen_core.specs.Marking.{item_marked}
use Rattle.gen_core.proofs.number_map.mark_items.Goals as goal

pub loop-i-preserved : goal.loop-i-preserved
loop-i-preserved g c =
    let same = ap length c.as_slice-i-end.ensures.value in
    ap (λ y. set c.loop-i.items.items c.loop-i.i y) c.mark_item.ensures
    ∙ map_over_more (item_marked c.args.place) c.args.items.now.items c.loop-i.items.items c.loop-i.i c.index_mut.result.now (omega (arith, c.loop-i-test.true, same)) c.loop-i.invariant c.index_mut.ensures.value
