use Rattle.std.proofs.Common.{rules, ◌≡◌, ◌≢◌, ◌+◌, ◌-◌, ◌*◌, ◌^◌, ◌<◌, ◌≤◌, ℕ, true, false, refl, sym, ap, ◌∙◌, subst, arith, Some, None}
use Rattle.atom_words.specs.Layout.{row_first}
use Rattle.atom_words.specs.Kinds.{RowOk}
use Rattle.atom_words.specs.Seats.{seen}
use Rattle.atom_words.specs.declared.size.Size.{Size}
use Rattle.atom_words.specs.declared.view.View.{View}
use Rattle.atom_words.specs.declared.words.AtomSeat.{AtomSeat}
use Rattle.bucket_rows.specs.RowChanges.{RowSteps}
use Rattle.atom_table.specs.Holding.{Sits}
use Rattle.atom_table.specs.declared.resizing.Stage.TheVariants.{Still, Sounding, Closing, Moving, Opening}
use Rattle.atom_table.specs.declared.seats.Collector.{Collector}
use Rattle.bucket_rows.proofs.RowViews.{worn_steps}
use Rattle.atom_table.proofs.Rowed.{rows_sit, rows_collect, sounded, sounded_all, sounded_worn}
use Rattle.atom_table.proofs.table.AtomTable.sound_some.Goals as goal
use Rattle.atom_table.proofs.table.AtomTable.sound_some.Goals.{then-end-heads, else-end-heads}

pub invariant_of-collector : goal.invariant_of-collector
invariant_of-collector c = let o = c.args.collector.now in let v : View = seen o.seat in let w : View = seen c.sound_row.new.seat in let s : o.rows.stage ≡ Sounding = search rules in let steps = c.in-Ok.ensures.steps in let heads = c.row_heads-heads.ensures in let end = c.if-end-heads.true in record {
  collects = rows_collect v w o.word o.checked o.cursor steps o.collects;
  rowed = sounded_all v w o.rows c.at_most-end.result s o.rowed steps c.in-Ok.ensures.rows (omega (arith, end, heads));
  few = o.few;
}

pub invariant_of-collector-else-end-heads : goal.invariant_of-collector-else-end-heads
invariant_of-collector-else-end-heads c = let o = c.args.collector.now in let v : View = seen o.seat in let w : View = seen c.sound_row.new.seat in let s : o.rows.stage ≡ Sounding = search rules in let steps = c.in-Ok.ensures.steps in let heads = c.row_heads-heads.ensures in let in_ = c.at_most-end.ensures.inside in record {
  collects = rows_collect v w o.word o.checked o.cursor steps o.collects;
  rowed = sounded v w o.rows c.at_most-end.result s o.rowed steps c.in-Ok.ensures.rows (omega (arith, in_.1, heads));
  few = o.few;
}

pub invariant_of-collector-in-Err : goal.invariant_of-collector-in-Err
invariant_of-collector-in-Err c = let o = c.args.collector.now in let v : View = seen o.seat in let w : View = seen c.sound_row.new.seat in let s : o.rows.stage ≡ Sounding = search rules in let q = c.in-Err.worn in let e = c.in-Err.ensures.steps in let heads = c.row_heads-heads.ensures in let in_ = c.at_most-end.ensures.inside in
    let h : ℕ = row_first o.rows.aim + q.before in let ok = (o.rowed.3 s).1 in let inside : h < v.size.heads = omega (arith, ok.0, ok.1, e.1, in_.1, heads) in record {
      collects = rows_collect v w o.word o.checked o.cursor (worn_steps h q.word v w e.2) o.collects;
      rowed = sounded_worn v w o.rows h q.word q.before s o.rowed inside e.2 c.in-Err.ensures.rows;
      few = o.few;
    }

-- the seat sits on
sits_as : (words : Rattle.atom_words.specs.declared.words.Words.Words) (x y : Collector) → x ≡ y → Sits words y.seat → Sits words x.seat
sits_as words x y e t = subst (λ (z : Collector). Sits words z.seat) (sym e) t

pub returns-after-end-heads-clause-sits : goal.returns-after-end-heads-clause-sits
returns-after-end-heads-clause-sits c = let o = c.args.collector.now in let t : Sits c.args.self.now.words c.sound_row.new.seat = rows_sit c.args.self.now.words o.seat c.sound_row.new.seat c.sound_row.ensures.same c.in-Ok.ensures.steps c.requires.sits in elim c.if-end-heads.branch [
  | then-end-heads w ↦ sits_as c.args.self.now.words _ _ w.collector-is t
  | else-end-heads w ↦ sits_as c.args.self.now.words _ _ w.collector-is t
]

pub returns-in-Err-clause-sits : goal.returns-in-Err-clause-sits
returns-in-Err-clause-sits c = let o = c.args.collector.now in let q = c.in-Err.worn in
    rows_sit c.args.self.now.words o.seat c.sound_row.new.seat c.sound_row.ensures.same (worn_steps (row_first o.rows.aim + q.before) q.word (seen o.seat) (seen c.sound_row.new.seat) c.in-Err.ensures.steps.2) c.requires.sits

pub returns-in-Err-clause-steps : goal.returns-in-Err-clause-steps
returns-in-Err-clause-steps c = let o = c.args.collector.now in let q = c.in-Err.worn in worn_steps (row_first o.rows.aim + q.before) q.word (seen o.seat) (seen c.sound_row.new.seat) c.in-Err.ensures.steps.2
