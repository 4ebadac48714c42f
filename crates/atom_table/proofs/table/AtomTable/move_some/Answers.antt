use Rattle.std.proofs.Common.{rules, ◌≡◌, ◌≢◌, ◌+◌, ◌-◌, ◌*◌, ◌^◌, ◌<◌, ◌≤◌, ℕ, true, false, refl, sym, ap, ◌∙◌, subst, arith, Some, None}
use Rattle.atom_words.specs.Layout.{row_first}
use Rattle.atom_words.specs.Kinds.{RowOk}
use Rattle.atom_words.specs.Seats.{seen}
use Rattle.atom_words.specs.declared.size.Size.{Size}
use Rattle.atom_words.specs.declared.view.View.{View}
use Rattle.atom_words.specs.declared.words.AtomSeat.{AtomSeat}
use Rattle.bucket_rows.specs.RowChanges.{RowSteps}
use Rattle.atom_table.specs.Holding.{Sits}
use Rattle.atom_table.specs.declared.resizing.Stage.TheVariants.{Still, Sounding, Closing, Moving, Opening}
use Rattle.atom_table.specs.declared.seats.Collector.{Collector}
use Rattle.atom_words.specs.declared.kind.Kind.TheVariants.{PublishRow}
use Rattle.bucket_rows.proofs.RowLaws.{rows_both, rows_one}
use Rattle.atom_table.proofs.Rowed.{rows_sit, rows_collect, moved_some, moved_all}
use Rattle.atom_table.proofs.table.AtomTable.move_some.Goals as goal

pub invariant_of-collector : goal.invariant_of-collector
invariant_of-collector c = let o = c.args.collector.now in let v : View = seen o.seat in let u : View = seen c.move_row-moved.new.seat in let w : View = seen c.publish_row.new.seat in let s : o.rows.stage ≡ Moving = search rules in
    let steps : RowSteps v w = rows_both v u w c.move_row-moved.ensures.steps (rows_one u w (PublishRow o.rows.aim) tt c.publish_row.ensures.steps) in record {
      collects = rows_collect v w o.word o.checked o.cursor steps o.collects;
      rowed = moved_all v w o.rows c.move_row-moved.result.chains c.row_heads-then-moved-row_heads.result s o.rowed steps c.publish_row.ensures.rows c.row_heads-then-moved-row_heads.ensures;
      few = o.few;
    }

pub invariant_of-collector-else-moved-row_heads : goal.invariant_of-collector-else-moved-row_heads
invariant_of-collector-else-moved-row_heads c = let o = c.args.collector.now in let v : View = seen o.seat in let u : View = seen c.move_row-moved.new.seat in let s : o.rows.stage ≡ Moving = search rules in let e = c.move_row-moved.ensures in record {
  collects = rows_collect v u o.word o.checked o.cursor e.steps o.collects;
  rowed = moved_some v u o.rows c.move_row-moved.result.chains s o.rowed e.steps e.rows.3 e.rows.1;
  few = o.few;
}

pub returns-then-moved-row_heads-clause-sits : goal.returns-then-moved-row_heads-clause-sits
returns-then-moved-row_heads-clause-sits c = let o = c.args.collector.now in let v : View = seen o.seat in let u : View = seen c.move_row-moved.new.seat in let w : View = seen c.publish_row.new.seat in let e = c.move_row-moved.ensures.same in let p = c.publish_row.ensures.same in
    rows_sit c.args.self.now.words o.seat c.publish_row.new.seat (p.0 ∙ e.0, p.1 ∙ e.1) (rows_both v u w c.move_row-moved.ensures.steps (rows_one u w (PublishRow o.rows.aim) tt c.publish_row.ensures.steps)) c.requires.sits

pub returns-then-moved-row_heads-clause-steps : goal.returns-then-moved-row_heads-clause-steps
returns-then-moved-row_heads-clause-steps c = let o = c.args.collector.now in let u : View = seen c.move_row-moved.new.seat in let w : View = seen c.publish_row.new.seat in
    rows_both (seen o.seat) u w c.move_row-moved.ensures.steps (rows_one u w (PublishRow o.rows.aim) tt c.publish_row.ensures.steps)

pub returns-else-moved-row_heads-clause-sits : goal.returns-else-moved-row_heads-clause-sits
returns-else-moved-row_heads-clause-sits c = let o = c.args.collector.now in let e = c.move_row-moved.ensures in rows_sit c.args.self.now.words o.seat c.move_row-moved.new.seat e.same e.steps c.requires.sits
