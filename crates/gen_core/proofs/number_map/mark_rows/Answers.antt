use Rattle.std.proofs.Common.{◌≡◌, ◌+◌, suc, ap, arith, length, refl, set, sym, subst}
use Rattle.std.specs.Ordering.{nat_cmp}
use Rattle.std.specs.List.Sorted.{IsStrictlySortedBy}
use Rattle.std.proofs.lemmas.Option.{slice_get_read}
use Rattle.gen_core.specs.declared.clause_index.Entry.{Entry}
use Rattle.gen_core.specs.NumberMaps.{Row}
use Rattle.gen_core.proofs.Markings.{MarkedUpTo, marked_flat, marked_more, marked_numbers, marked_rows, same_length}
use Rattle.gen_core.proofs.number_map.mark_rows.Goals as goal

pub loop-i-preserved : goal.loop-i-preserved
loop-i-preserved g c =
    let old = c.args.rows.now.items in
    let new = c.loop-i.rows.items in
    let same = ap length c.as_slice-i-end.ensures.value in
    let row = c.index_mut.result.now in
    let now : Row (Entry g.row.C.Denot g.row.K.Denot) = record { number = row.number; value = c.mark_items.new.items } in
    let long = same_length c.args.place c.loop-i.i old new c.loop-i.invariant in
    let here = slice_get_read new (length new) c.loop-i.i row refl (omega (arith, c.loop-i-test.true, same, long)) c.index_mut.ensures.value in
    let next : suc c.loop-i.i ≡ c.loop-i.i + 1 = omega arith in
    subst (λ n. MarkedUpTo c.args.place n old (set new c.loop-i.i now)) next (marked_more c.args.place c.loop-i.i old new row now c.loop-i.invariant here refl c.mark_items.ensures)

pub returns-clause-ascending : goal.returns-clause-ascending
returns-clause-ascending g c =
    let old = c.args.rows.now.items in
    let new = c.loop-i.rows.items in
    let same = ap length c.as_slice-i-end.ensures.value in
    subst (IsStrictlySortedBy nat_cmp) (sym (marked_numbers c.args.place c.loop-i.i old new c.loop-i.invariant)) c.requires.ascending

pub returns-clause-rows : goal.returns-clause-rows
returns-clause-rows g c =
    let old = c.args.rows.now.items in
    let new = c.loop-i.rows.items in
    let same = ap length c.as_slice-i-end.ensures.value in
    marked_rows c.args.place c.loop-i.i old new c.loop-i.invariant c.requires.rows

pub returns-clause-pairs : goal.returns-clause-pairs
returns-clause-pairs g c =
    let old = c.args.rows.now.items in
    let new = c.loop-i.rows.items in
    let same = ap length c.as_slice-i-end.ensures.value in
    marked_flat c.args.place c.loop-i.i old new c.loop-i.invariant (omega (arith, c.loop-i-test.false, same))
