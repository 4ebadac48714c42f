use Rattle.std.proofs.Common.{◌≡◌, ◌/◌, Some, length, arith, ap, refl, sym, subst, ◌∙◌}
use Rattle.std.specs.Ordering.{nat_cmp}
use Rattle.std.specs.List.{slice_get}
use Rattle.std.specs.List.Sorted.{IsStrictlySortedBy}
use Rattle.std.proofs.lemmas.List.{length-set}
use Rattle.std.proofs.lemmas.Option.{slice_get_read}
use Rattle.gen_core.specs.NumberMaps.{IsGap, Row, flat, numbers_of}
use Rattle.gen_core.proofs.NumberLaws.{numbers_set, place_number, place_within, remove_none}
use Rattle.gen_core.proofs.NumberRows.{lookup_in, lookup_none, remove_in, row_at, rows_set}
use Rattle.gen_core.proofs.number_map.take_in.Goals as goal

pub take-value-requires : goal.take-value-requires
take-value-requires g c =
    let rows = c.args.rows.now.items in
    let q = c.args.number / 64 in
    let row = c.index_mut.result.now in
    let there = subst (λ xs. slice_get (numbers_of xs) c.in-Ok.i ≡ Some q) c.as_slice.ensures.value c.in-Ok.ensures in
    let here = slice_get_read rows (length rows) c.in-Ok.i row refl (place_within rows c.in-Ok.i q there) c.index_mut.ensures.value in
    (row_at rows c.in-Ok.i row c.requires.rows here).ascending

pub drop_empty-requires-clause-there : goal.drop_empty-requires-clause-there
drop_empty-requires-clause-there g c =
    let rows = c.args.rows.now.items in
    let q = c.args.number / 64 in
    let row = c.index_mut.result.now in
    let there = subst (λ xs. slice_get (numbers_of xs) c.in-Ok.i ≡ Some q) c.as_slice.ensures.value c.in-Ok.ensures in
    let here = slice_get_read rows (length rows) c.in-Ok.i row refl (place_within rows c.in-Ok.i q there) c.index_mut.ensures.value in
    let now : Row g.row.V.Denot = record { number = row.number; value = c.take-value.new.items } in
    let less = place_within rows c.in-Ok.i q there in
    let same = length-set rows c.in-Ok.i now in
    omega (arith, less, same)

pub drop_empty-requires-clause-ascending : goal.drop_empty-requires-clause-ascending
drop_empty-requires-clause-ascending g c =
    let rows = c.args.rows.now.items in
    let q = c.args.number / 64 in
    let row = c.index_mut.result.now in
    let there = subst (λ xs. slice_get (numbers_of xs) c.in-Ok.i ≡ Some q) c.as_slice.ensures.value c.in-Ok.ensures in
    let here = slice_get_read rows (length rows) c.in-Ok.i row refl (place_within rows c.in-Ok.i q there) c.index_mut.ensures.value in
    let is = ap (λ x. x.number) c.index_mut.ensures.value ∙ place_number rows c.in-Ok.i q row there in
    let now : Row g.row.V.Denot = record { number = row.number; value = c.take-value.new.items } in
    subst (IsStrictlySortedBy nat_cmp) (sym (numbers_set q rows c.in-Ok.i now is there)) c.requires.ascending

pub drop_empty-requires-clause-rows : goal.drop_empty-requires-clause-rows
drop_empty-requires-clause-rows g c =
    let rows = c.args.rows.now.items in
    let q = c.args.number / 64 in
    let row = c.index_mut.result.now in
    let there = subst (λ xs. slice_get (numbers_of xs) c.in-Ok.i ≡ Some q) c.as_slice.ensures.value c.in-Ok.ensures in
    let here = slice_get_read rows (length rows) c.in-Ok.i row refl (place_within rows c.in-Ok.i q there) c.index_mut.ensures.value in
    let is = ap (λ x. x.number) c.index_mut.ensures.value ∙ place_number rows c.in-Ok.i q row there in
    let now : Row g.row.V.Denot = record { number = row.number; value = c.take-value.new.items } in
    rows_set rows c.in-Ok.i now c.requires.rows (record { ascending = c.take-value.ensures.ascending; quotient = c.take-value.ensures.quotient row.number (row_at rows c.in-Ok.i row c.requires.rows here).quotient })

pub returns-in-Ok-clause-value : goal.returns-in-Ok-clause-value
returns-in-Ok-clause-value g c =
    let rows = c.args.rows.now.items in
    let q = c.args.number / 64 in
    let row = c.index_mut.result.now in
    let there = subst (λ xs. slice_get (numbers_of xs) c.in-Ok.i ≡ Some q) c.as_slice.ensures.value c.in-Ok.ensures in
    let here = slice_get_read rows (length rows) c.in-Ok.i row refl (place_within rows c.in-Ok.i q there) c.index_mut.ensures.value in
    let is = ap (λ x. x.number) c.index_mut.ensures.value ∙ place_number rows c.in-Ok.i q row there in
    c.take-value.ensures.value ∙ sym (lookup_in c.args.number rows c.in-Ok.i row c.requires.ascending c.requires.rows here is)

pub returns-in-Ok-clause-pairs : goal.returns-in-Ok-clause-pairs
returns-in-Ok-clause-pairs g c =
    let rows = c.args.rows.now.items in
    let q = c.args.number / 64 in
    let row = c.index_mut.result.now in
    let there = subst (λ xs. slice_get (numbers_of xs) c.in-Ok.i ≡ Some q) c.as_slice.ensures.value c.in-Ok.ensures in
    let here = slice_get_read rows (length rows) c.in-Ok.i row refl (place_within rows c.in-Ok.i q there) c.index_mut.ensures.value in
    let is = ap (λ x. x.number) c.index_mut.ensures.value ∙ place_number rows c.in-Ok.i q row there in
    let now : Row g.row.V.Denot = record { number = row.number; value = c.take-value.new.items } in
    c.drop_empty.ensures.pairs ∙ sym (remove_in c.args.number rows c.in-Ok.i row now c.requires.ascending c.requires.rows here is (sym c.take-value.ensures.pairs))

pub returns-in-Err-clause-value : goal.returns-in-Err-clause-value
returns-in-Err-clause-value g c =
    let rows = c.args.rows.now.items in
    let gap = subst (λ xs. IsGap (numbers_of xs) (c.args.number / 64) c.in-Err.field-0) c.as_slice.ensures.value c.in-Err.ensures in
    sym (lookup_none c.args.number rows c.in-Err.field-0 c.requires.ascending c.requires.rows gap)

pub returns-in-Err-clause-pairs : goal.returns-in-Err-clause-pairs
returns-in-Err-clause-pairs g c =
    let rows = c.args.rows.now.items in
    let gap = subst (λ xs. IsGap (numbers_of xs) (c.args.number / 64) c.in-Err.field-0) c.as_slice.ensures.value c.in-Err.ensures in
    sym (remove_none c.args.number (flat rows) (lookup_none c.args.number rows c.in-Err.field-0 c.requires.ascending c.requires.rows gap))
