use Rattle.std.proofs.Common.{◌≡◌, ℕ, ◌+◌, suc, length, refl, take, ap, subst, ◌∙◌, arith}
use Rattle.std.proofs.lemmas.Option.{slice_get_read}
use Rattle.std.proofs.lemmas.List.{take_all}
use Rattle.std.specs.Prelude.{map, min, sum_by}
use Rattle.gen_core.specs.declared.clause_index.Entry.{Entry}
use Rattle.gen_core.specs.NumberMaps.{Row}
use Rattle.gen_core.specs.Visible.{live_size}
use Rattle.gen_core.proofs.RowReads.{cells_flat, summed_more}
use Rattle.gen_core.proofs.clause_index.ClauseIndex.live_cells.Goals as goal

pub loop-row-preserved : goal.loop-row-preserved
loop-row-preserved g c =
    let rows = c.rows-rows.result.now in
    let row = c.row-item.result in
    let here = slice_get_read rows (length rows) c.loop-row.row-index row refl (omega (arith, c.loop-row-test.true)) c.row-item.is in
    let next : suc c.loop-row.row-index ≡ c.loop-row.row-index + 1 = omega arith in
    let f : Row (Entry g.row.C.Denot g.row.C-Key.Denot) → ℕ = λ r. sum_by (λ x. live_size g.C.Kept.size x.value.dated) r.value.items in
    let own = c.live_cells_in.ensures ∙ ap (λ xs. min (sum_by (λ x. live_size g.C.Kept.size x.value.dated) xs) 18446744073709551615) c.as_slice.ensures.value in
    subst (λ n. c.saturating_add-cells.result ≡ min (sum_by f (take n rows)) 18446744073709551615) next
    (summed_more f 18446744073709551615 rows c.loop-row.row-index row c.loop-row.cells c.live_cells_in.result c.saturating_add-cells.result here c.loop-row.invariant own c.saturating_add-cells.ensures)

pub returns : goal.returns
returns g c =
    let rows = c.rows-rows.result.now in
    let f : Row (Entry g.row.C.Denot g.row.C-Key.Denot) → ℕ = λ r. sum_by (λ x. live_size g.C.Kept.size x.value.dated) r.value.items in
    c.loop-row.invariant ∙ ap (λ rs. min (sum_by f rs) 18446744073709551615) (take_all c.loop-row.row-index rows (omega (arith, c.loop-row-test.false)))
    ∙ ap (λ n. min n 18446744073709551615) (cells_flat g.C.Kept.size rows ∙ ap (λ es. sum_by (live_size g.C.Kept.size) (map (λ e. e.1.dated) es)) c.rows-rows.ensures)
