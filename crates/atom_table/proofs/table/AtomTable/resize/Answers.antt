use Rattle.std.proofs.Common.{◌≡◌, ◌≢◌, ◌⊎◌, ◌+◌, ◌-◌, ◌*◌, ◌^◌, ◌<◌, ◌≤◌, ℕ, true, false, refl, sym, ap, ◌∙◌, subst, inl, inr, ⊎_elim, arith, Some, None}
use Rattle.atom_words.specs.Seats.{seen}
use Rattle.atom_words.specs.declared.view.View.{View}
use Rattle.atom_table.specs.Resizing.{ResizesBy}
use Rattle.atom_table.specs.declared.resizing.Rows.{Rows}
use Rattle.atom_table.proofs.RowAnswers.{resizes_after}
use Rattle.atom_table.proofs.table.AtomTable.resize.Goals as goal

pub go_on-requires-clause-begun : goal.go_on-requires-clause-begun
go_on-requires-clause-begun c = λ e. let t = c.in-None.ensures.stage.0 in let no = sym t ∙ e in cc

pub returns-in-None-clause-steps : goal.returns-in-None-clause-steps
returns-in-None-clause-steps c = let o = c.args.collector.now in let t = c.in-None.ensures.stage in let e = c.go_on.ensures in
    resizes_after o.rows.row c.args.aim (seen o.seat) (seen c.start.new.collector.seat) c.go_on.result (seen c.go_on.new.collector.seat) e.real c.start.ensures.steps
    (subst (λ (p : ℕ × ℕ). ResizesBy p.0 p.1 (seen c.start.new.collector.seat) c.go_on.result (seen c.go_on.new.collector.seat)) (λ i. (t.2 i, t.1 i)) e.steps)

pub returns-in-Some-clause-steps : goal.returns-in-Some-clause-steps
returns-in-Some-clause-steps c = let n = c.start.new.collector in let t = c.in-Some.ensures.stage in (c.row_heads.ensures, c.start.ensures.steps, (n.rowed.0 ∙ t.1, n.rowed.2 t.0), t.2)
