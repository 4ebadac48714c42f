use Rattle.std.proofs.Common.{◌≡◌, ◌+◌, suc, take, arith, subst, sym}
use Rattle.std.specs.List.{slice_index_or}
use Rattle.std.proofs.lemmas.Option.{slice_get-get_or}
use Rattle.gen_core.specs.NumberMaps.{IsAscending, IsFirstFrom, NoneFrom, flat, pairs_of}
use Rattle.gen_core.proofs.NumberRows.{first_row_in, none_more, row_at}
use Rattle.gen_core.proofs.number_map.first_in.Goals as goal

pub first_of-requires : goal.first_of-requires
first_of-requires g c =
    let rows = c.args.rows.now in
    let row = slice_index_or rows c.loop-i.i c.index-rows-i.result in
    let here = slice_get-get_or rows c.loop-i.i c.index-rows-i.result (omega (arith, c.loop-i-test.true)) in
    subst IsAscending (sym c.as_slice.ensures.value) (row_at rows c.loop-i.i row c.requires.rows here).ascending

pub returns-in-Some-clause-some : goal.returns-in-Some-clause-some
returns-in-Some-clause-some g c =
    let rows = c.args.rows.now in
    let row = slice_index_or rows c.loop-i.i c.index-rows-i.result in
    let here = slice_get-get_or rows c.loop-i.i c.index-rows-i.result (omega (arith, c.loop-i-test.true)) in
    first_row_in c.args.from rows c.loop-i.i row c.in-Some.item.now c.requires.ascending c.requires.rows here c.loop-i.invariant
    (subst (λ xs. IsFirstFrom (pairs_of xs) c.args.from c.in-Some.item.now) c.as_slice.ensures.value c.in-Some.ensures.some)

pub loop-i-preserved : goal.loop-i-preserved
loop-i-preserved g c =
    let rows = c.args.rows.now in
    let row = slice_index_or rows c.loop-i.i c.index-rows-i.result in
    let here = slice_get-get_or rows c.loop-i.i c.index-rows-i.result (omega (arith, c.loop-i-test.true)) in
    let next : suc c.loop-i.i ≡ c.loop-i.i + 1 = omega arith in
    subst (λ n. NoneFrom (flat (take n rows)) c.args.from) next
    (none_more c.args.from rows c.loop-i.i row here c.loop-i.invariant (subst (λ xs. NoneFrom (pairs_of xs) c.args.from) c.as_slice.ensures.value c.in_default.ensures.none))
