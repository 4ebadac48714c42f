use Rattle.std.proofs.Common.{ap, sym, subst, ◌∙◌, ◌/◌}
use Rattle.std.specs.List.{slice_index_or}
use Rattle.std.specs.Ordering.{nat_cmp}
use Rattle.std.specs.Map.{lookup}
use Rattle.std.specs.BTreeMap.{is_at}
use Rattle.std.proofs.lemmas.Option.{slice_get-get_or}
use Rattle.gen_core.specs.NumberMaps.{IsAscending, pairs_of}
use Rattle.gen_core.proofs.NumberLaws.{place_number, place_within}
use Rattle.gen_core.proofs.NumberRows.{lookup_in, lookup_none, row_at}
use Rattle.gen_core.proofs.number_map.find.Goals as goal

pub value_of-requires : goal.value_of-requires
value_of-requires g c =
    let rows = c.args.rows.now in
    let row = slice_index_or rows c.in-Ok.i c.index-rows-i.result in
    let here = slice_get-get_or rows c.in-Ok.i c.index-rows-i.result (place_within rows c.in-Ok.i (c.args.number / 64) c.in-Ok.ensures) in
    subst IsAscending (sym c.as_slice.ensures.value) (row_at rows c.in-Ok.i row c.requires.rows here).ascending

pub returns-in-Ok : goal.returns-in-Ok
returns-in-Ok g c =
    let rows = c.args.rows.now in
    let row = slice_index_or rows c.in-Ok.i c.index-rows-i.result in
    let here = slice_get-get_or rows c.in-Ok.i c.index-rows-i.result (place_within rows c.in-Ok.i (c.args.number / 64) c.in-Ok.ensures) in
    c.value_of.ensures ∙ ap (λ xs. lookup (is_at (nat_cmp c.args.number)) (pairs_of xs)) c.as_slice.ensures.value
    ∙ sym (lookup_in c.args.number rows c.in-Ok.i row c.requires.ascending c.requires.rows here (place_number rows c.in-Ok.i (c.args.number / 64) c.index-rows-i.result c.in-Ok.ensures))

pub returns-in-Err : goal.returns-in-Err
returns-in-Err g c = sym (lookup_none c.args.number c.args.rows.now c.in-Err.field-0 c.requires.ascending c.requires.rows c.in-Err.ensures)
