use Rattle.std.proofs.Common.{◌≡◌, ◌/◌, Some, length, arith, ap, refl, sym, subst, ◌∙◌}
use Rattle.std.specs.Ordering.{nat_cmp}
use Rattle.std.specs.List.{AllByRecursion, slice_get}
use Rattle.std.specs.List.Sorted.{IsStrictlySortedBy}
use Rattle.std.proofs.lemmas.Option.{slice_get_read}
use Rattle.gen_core.specs.NumberMaps.{AreRows, IsAscending, IsGap, Row, flat, numbers_of, pairs_of}
use Rattle.gen_core.proofs.NumberLaws.{gap_within, numbers_set, place_number, place_within, rising_one, sorted_put}
use Rattle.gen_core.proofs.NumberRows.{insert_err, insert_ok, insert_row, row_at, rows_put, rows_set}
use Rattle.gen_core.proofs.number_map.insert_in.Goals as goal

pub put-requires : goal.put-requires
put-requires g c =
    let rows = c.args.rows.now.items in
    let q = c.args.number / 64 in
    let row = c.index_mut.result.now in
    let there = subst (λ xs. slice_get (numbers_of xs) c.in-Ok.i ≡ Some q) c.as_slice.ensures.value c.in-Ok.ensures in
    let here = slice_get_read rows (length rows) c.in-Ok.i row refl (place_within rows c.in-Ok.i q there) c.index_mut.ensures.value in
    (row_at rows c.in-Ok.i row c.requires.rows here).ascending

pub insert-requires : goal.insert-requires
insert-requires g c =
    let le = gap_within c.as_slice.result.now c.in-Err.i (c.args.number / 64) c.in-Err.ensures in
    let len = c.as_slice.ensures.len in
    omega (arith, le, len)

pub returns-in-Ok-clause-ascending : goal.returns-in-Ok-clause-ascending
returns-in-Ok-clause-ascending g c =
    let rows = c.args.rows.now.items in
    let q = c.args.number / 64 in
    let row = c.index_mut.result.now in
    let there = subst (λ xs. slice_get (numbers_of xs) c.in-Ok.i ≡ Some q) c.as_slice.ensures.value c.in-Ok.ensures in
    let here = slice_get_read rows (length rows) c.in-Ok.i row refl (place_within rows c.in-Ok.i q there) c.index_mut.ensures.value in
    let is = ap (λ x. x.number) c.index_mut.ensures.value ∙ place_number rows c.in-Ok.i q row there in
    let now : Row g.row.V.Denot = record { number = row.number; value = c.put.new.items } in
    subst (IsStrictlySortedBy nat_cmp) (sym (numbers_set q rows c.in-Ok.i now is there)) c.requires.ascending

pub returns-in-Ok-clause-rows : goal.returns-in-Ok-clause-rows
returns-in-Ok-clause-rows g c =
    let rows = c.args.rows.now.items in
    let q = c.args.number / 64 in
    let row = c.index_mut.result.now in
    let there = subst (λ xs. slice_get (numbers_of xs) c.in-Ok.i ≡ Some q) c.as_slice.ensures.value c.in-Ok.ensures in
    let here = slice_get_read rows (length rows) c.in-Ok.i row refl (place_within rows c.in-Ok.i q there) c.index_mut.ensures.value in
    let is = ap (λ x. x.number) c.index_mut.ensures.value ∙ place_number rows c.in-Ok.i q row there in
    let now : Row g.row.V.Denot = record { number = row.number; value = c.put.new.items } in
    rows_set rows c.in-Ok.i now c.requires.rows (record { ascending = c.put.ensures.ascending; quotient = c.put.ensures.quotient row.number (sym is) (row_at rows c.in-Ok.i row c.requires.rows here).quotient })

pub returns-in-Ok-clause-ok : goal.returns-in-Ok-clause-ok
returns-in-Ok-clause-ok g c =
    let rows = c.args.rows.now.items in
    let q = c.args.number / 64 in
    let row = c.index_mut.result.now in
    let there = subst (λ xs. slice_get (numbers_of xs) c.in-Ok.i ≡ Some q) c.as_slice.ensures.value c.in-Ok.ensures in
    let here = slice_get_read rows (length rows) c.in-Ok.i row refl (place_within rows c.in-Ok.i q there) c.index_mut.ensures.value in
    let is = ap (λ x. x.number) c.index_mut.ensures.value ∙ place_number rows c.in-Ok.i q row there in
    let now : Row g.row.V.Denot = record { number = row.number; value = c.put.new.items } in
    insert_ok c.put.result c.args.number rows c.in-Ok.i row now c.args.value c.requires.ascending c.requires.rows here is c.put.ensures.ok

pub returns-in-Ok-clause-err : goal.returns-in-Ok-clause-err
returns-in-Ok-clause-err g c =
    let rows = c.args.rows.now.items in
    let q = c.args.number / 64 in
    let row = c.index_mut.result.now in
    let there = subst (λ xs. slice_get (numbers_of xs) c.in-Ok.i ≡ Some q) c.as_slice.ensures.value c.in-Ok.ensures in
    let here = slice_get_read rows (length rows) c.in-Ok.i row refl (place_within rows c.in-Ok.i q there) c.index_mut.ensures.value in
    let now : Row g.row.V.Denot = record { number = row.number; value = c.put.new.items } in
    insert_err c.put.result rows c.in-Ok.i row now c.args.value here c.put.ensures.err

pub returns-in-Ok-insert-clause-ascending : goal.returns-in-Ok-insert-clause-ascending
returns-in-Ok-insert-clause-ascending g c =
    let rows = c.args.rows.now.items in
    let q = c.args.number / 64 in
    let row = c.in_ok-row_with-in-Err.field-0 in
    let made = c.in_ok-row_with-in-Err.ensures.ok in
    let gap = subst (λ xs. IsGap (numbers_of xs) q c.in-Err.i) c.as_slice.ensures.value c.in-Err.ensures in
    subst IsAscending (sym c.in-Ok-insert.ensures.items) (sorted_put rows c.in-Err.i row c.requires.ascending (subst (λ n. IsGap (numbers_of rows) n c.in-Err.i) (sym made.0) gap))

pub returns-in-Ok-insert-clause-rows : goal.returns-in-Ok-insert-clause-rows
returns-in-Ok-insert-clause-rows g c =
    let rows = c.args.rows.now.items in
    let q = c.args.number / 64 in
    let row = c.in_ok-row_with-in-Err.field-0 in
    let made = c.in_ok-row_with-in-Err.ensures.ok in
    subst AreRows (sym c.in-Ok-insert.ensures.items)
    (rows_put rows c.in-Err.i row c.requires.rows
    (record {
      ascending = subst IsAscending (sym made.1) (rising_one c.args.number);
      quotient = subst (λ xs. AllByRecursion (λ k. k / 64 ≡ row.number) (numbers_of xs)) (sym made.1) (sym made.0, tt);
    }))

pub returns-in-Ok-insert-clause-ok : goal.returns-in-Ok-insert-clause-ok
returns-in-Ok-insert-clause-ok g c =
    let rows = c.args.rows.now.items in
    let q = c.args.number / 64 in
    let row = c.in_ok-row_with-in-Err.field-0 in
    let made = c.in_ok-row_with-in-Err.ensures.ok in
    let gap = subst (λ xs. IsGap (numbers_of xs) q c.in-Err.i) c.as_slice.ensures.value c.in-Err.ensures in
    ap flat c.in-Ok-insert.ensures.items ∙ sym (insert_row c.args.number rows c.in-Err.i row c.args.value c.requires.ascending c.requires.rows gap (ap pairs_of made.1))
