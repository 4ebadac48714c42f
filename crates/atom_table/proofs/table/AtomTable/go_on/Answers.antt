use Rattle.std.proofs.Common.{◌≡◌, ◌≢◌, ◌⊎◌, ◌+◌, ◌-◌, ◌*◌, ◌^◌, ◌<◌, ◌≤◌, ℕ, true, false, refl, sym, ap, ◌∙◌, subst, inl, inr, ⊎_elim, arith, Some, None}
use Rattle.atom_words.specs.Seats.{seen}
use Rattle.atom_words.specs.declared.view.View.{View}
use Rattle.bucket_rows.specs.RowChanges.{RowSteps}
use Rattle.bucket_rows.proofs.RowLaws.{rows_both}
use Rattle.atom_table.specs.Resizing.{ResizesBy}
use Rattle.atom_table.proofs.RowAnswers.{resizes_after, row_before}
use Rattle.atom_table.proofs.table.AtomTable.go_on.Goals as goal

pub open_some-requires-clause-begun : goal.open_some-requires-clause-begun
open_some-requires-clause-begun c = c.move_some-left.ensures.begun (c.close_some-left.ensures.begun (c.sound_some-left.ensures.begun c.requires.begun))

pub returns-clause-steps : goal.returns-clause-steps
returns-clause-steps c = let o = c.args.collector.now in let a = c.sound_some-left.new.collector in let b = c.close_some-left.new.collector in let d = c.move_some-left.new.collector in let v : View = seen o.seat in let u : View = seen d.seat in let w : View = seen c.open_some.new.collector.seat in let e = c.open_some.ensures in
    let m = c.move_some-left.ensures in let q = c.close_some-left.ensures in let r = c.sound_some-left.ensures in
    resizes_after o.rows.row o.rows.aim v u c.open_some.result w e.real (rows_both v (seen b.seat) u (rows_both v (seen a.seat) (seen b.seat) r.steps q.steps) m.steps)
    (row_before d.rows.row o.rows.row o.rows.aim u c.open_some.result w e.real (λ n x is. m.worn x (e.worn n x is) ∙ (q.rows.1 ∙ r.rows.1)) (subst (λ (k : ℕ). ResizesBy d.rows.row k u c.open_some.result w) (m.rows ∙ (q.rows.0 ∙ r.rows.0)) e.steps))
