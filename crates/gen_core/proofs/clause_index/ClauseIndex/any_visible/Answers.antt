use Rattle.std.proofs.Common.{◌≡◌, ◌+◌, suc, Bool, false, length, refl, take, ap, sym, subst, ◌∙◌, arith}
use Rattle.std.specs.List.{list_any}
use Rattle.std.proofs.lemmas.Option.{slice_get_read}
use Rattle.std.proofs.lemmas.List.{take_all}
use Rattle.std.proofs.lemmas.Map.Keys.{any_passes_from_place}
use Rattle.std.specs.Map.{values_of}
use Rattle.gen_core.specs.declared.clause_index.Entry.{Entry}
use Rattle.gen_core.specs.NumberMaps.{Row}
use Rattle.gen_core.specs.Visible.{is_visible}
use Rattle.gen_core.proofs.RowReads.{any_flat, any_more}
use Rattle.gen_core.proofs.clause_index.ClauseIndex.any_visible.Goals as goal

pub returns-then-any_visible_in : goal.returns-then-any_visible_in
returns-then-any_visible_in g c =
    let rows = c.rows-rows.result.now in
    let row = c.row-item.result in
    let here = slice_get_read rows (length rows) c.loop-row.row-index row refl (omega (arith, c.loop-row-test.true)) c.row-item.is in
    let t : Row (Entry g.row.C.Denot g.row.C-Key.Denot) → Bool = λ r. list_any (λ x. is_visible c.args.g x.value.dated) r.value.items in
    let seen = ap (list_any (λ x. is_visible c.args.g x.value.dated)) (sym c.as_slice.ensures.value) ∙ sym c.if-any_visible_in.ensures in
    sym (any_passes_from_place t rows c.loop-row.row-index row here seen)
    ∙ any_flat (λ e. is_visible c.args.g e.dated) rows ∙ ap (λ es. list_any (λ e. is_visible c.args.g e.dated) (values_of es)) c.rows-rows.ensures

pub loop-row-preserved : goal.loop-row-preserved
loop-row-preserved g c =
    let rows = c.rows-rows.result.now in
    let row = c.row-item.result in
    let here = slice_get_read rows (length rows) c.loop-row.row-index row refl (omega (arith, c.loop-row-test.true)) c.row-item.is in
    let next : suc c.loop-row.row-index ≡ c.loop-row.row-index + 1 = omega arith in
    let t : Row (Entry g.row.C.Denot g.row.C-Key.Denot) → Bool = λ r. list_any (λ x. is_visible c.args.g x.value.dated) r.value.items in
    let unseen = ap (list_any (λ x. is_visible c.args.g x.value.dated)) (sym c.as_slice.ensures.value) ∙ sym c.if-any_visible_in.ensures in
    subst (λ n. list_any t (take n rows) ≡ false) next (any_more t rows c.loop-row.row-index row here c.loop-row.invariant unseen)

pub returns : goal.returns
returns g c =
    let rows = c.rows-rows.result.now in
    let t : Row (Entry g.row.C.Denot g.row.C-Key.Denot) → Bool = λ r. list_any (λ x. is_visible c.args.g x.value.dated) r.value.items in
    sym c.loop-row.invariant ∙ ap (list_any t) (take_all c.loop-row.row-index rows (omega (arith, c.loop-row-test.false)))
    ∙ any_flat (λ e. is_visible c.args.g e.dated) rows ∙ ap (λ es. list_any (λ e. is_visible c.args.g e.dated) (values_of es)) c.rows-rows.ensures
