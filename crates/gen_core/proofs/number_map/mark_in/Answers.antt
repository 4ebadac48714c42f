use Rattle.std.proofs.Common.{◌≡◌, ◌/◌, Some, ap, length, refl, sym, subst, ◌∙◌}
use Rattle.std.specs.Ordering.{nat_cmp}
use Rattle.std.specs.List.{AllByRecursion, slice_get}
use Rattle.std.specs.List.Sorted.{IsStrictlySortedBy}
use Rattle.std.proofs.lemmas.Option.{slice_get_read}
use Rattle.gen_core.specs.declared.clause_index.Entry.{Entry}
use Rattle.gen_core.specs.NumberMaps.{IsGap, Row, flat, numbers_of}
use Rattle.gen_core.proofs.NumberLaws.{numbers_set, place_number, place_within}
use Rattle.gen_core.proofs.NumberRows.{lookup_none, row_at, rows_set}
use Rattle.gen_core.proofs.Markings.{marked_in, marked_none}
use Rattle.gen_core.proofs.number_map.mark_in.Goals as goal

pub mark_among-requires : goal.mark_among-requires
mark_among-requires g c =
    let rows = c.args.rows.now.items in
    let q = c.args.number / 64 in
    let row = c.index_mut.result.now in
    let there = subst (λ xs. slice_get (numbers_of xs) c.in-Ok.i ≡ Some q) c.as_slice.ensures.value c.in-Ok.ensures in
    let here = slice_get_read rows (length rows) c.in-Ok.i row refl (place_within rows c.in-Ok.i q there) c.index_mut.ensures.value in
    (row_at rows c.in-Ok.i row c.requires.rows here).ascending

pub returns-in-Ok-clause-ascending : goal.returns-in-Ok-clause-ascending
returns-in-Ok-clause-ascending g c =
    let rows = c.args.rows.now.items in
    let q = c.args.number / 64 in
    let row = c.index_mut.result.now in
    let there = subst (λ xs. slice_get (numbers_of xs) c.in-Ok.i ≡ Some q) c.as_slice.ensures.value c.in-Ok.ensures in
    let here = slice_get_read rows (length rows) c.in-Ok.i row refl (place_within rows c.in-Ok.i q there) c.index_mut.ensures.value in
    let is = ap (λ x. x.number) c.index_mut.ensures.value ∙ place_number rows c.in-Ok.i q row there in
    let now : Row (Entry g.row.C.Denot g.row.K.Denot) = record { number = row.number; value = c.mark_among.new.items } in
    subst (IsStrictlySortedBy nat_cmp) (sym (numbers_set q rows c.in-Ok.i now is there)) c.requires.ascending

pub returns-in-Ok-clause-rows : goal.returns-in-Ok-clause-rows
returns-in-Ok-clause-rows g c =
    let rows = c.args.rows.now.items in
    let q = c.args.number / 64 in
    let row = c.index_mut.result.now in
    let there = subst (λ xs. slice_get (numbers_of xs) c.in-Ok.i ≡ Some q) c.as_slice.ensures.value c.in-Ok.ensures in
    let here = slice_get_read rows (length rows) c.in-Ok.i row refl (place_within rows c.in-Ok.i q there) c.index_mut.ensures.value in
    let is = ap (λ x. x.number) c.index_mut.ensures.value ∙ place_number rows c.in-Ok.i q row there in
    let now : Row (Entry g.row.C.Denot g.row.K.Denot) = record { number = row.number; value = c.mark_among.new.items } in
    let was = row_at rows c.in-Ok.i row c.requires.rows here in
    rows_set rows c.in-Ok.i now c.requires.rows
    (record {
      ascending = subst (IsStrictlySortedBy nat_cmp) (sym c.mark_among.ensures.numbers) was.ascending;
      quotient = subst (AllByRecursion (λ k. k / 64 ≡ row.number)) (sym c.mark_among.ensures.numbers) was.quotient;
    })

pub returns-in-Ok-clause-pairs : goal.returns-in-Ok-clause-pairs
returns-in-Ok-clause-pairs g c =
    let rows = c.args.rows.now.items in
    let q = c.args.number / 64 in
    let row = c.index_mut.result.now in
    let there = subst (λ xs. slice_get (numbers_of xs) c.in-Ok.i ≡ Some q) c.as_slice.ensures.value c.in-Ok.ensures in
    let here = slice_get_read rows (length rows) c.in-Ok.i row refl (place_within rows c.in-Ok.i q there) c.index_mut.ensures.value in
    let is = ap (λ x. x.number) c.index_mut.ensures.value ∙ place_number rows c.in-Ok.i q row there in
    let now : Row (Entry g.row.C.Denot g.row.K.Denot) = record { number = row.number; value = c.mark_among.new.items } in
    marked_in c.args.number c.args.place rows c.in-Ok.i row now c.requires.ascending c.requires.rows here is refl c.mark_among.ensures.pairs

pub returns-in_default-clause-pairs : goal.returns-in_default-clause-pairs
returns-in_default-clause-pairs g c =
    let rows = c.args.rows.now.items in
    let gap = subst (λ xs. IsGap (numbers_of xs) (c.args.number / 64) c.in_default.field-0) c.as_slice.ensures.value c.in_default.ensures in
    marked_none c.args.number c.args.place (flat rows) (lookup_none c.args.number rows c.in_default.field-0 c.requires.ascending c.requires.rows gap)
