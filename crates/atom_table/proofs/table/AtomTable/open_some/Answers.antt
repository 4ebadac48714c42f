use Rattle.std.proofs.Common.{rules, ◌≡◌, ◌≢◌, ◌+◌, ◌-◌, ◌*◌, ◌^◌, ◌<◌, ◌≤◌, ℕ, true, false, refl, sym, ap, ◌∙◌, subst, arith, Some, None}
use Rattle.atom_words.specs.Layout.{row_first}
use Rattle.atom_words.specs.Kinds.{RowOk}
use Rattle.atom_words.specs.Seats.{seen}
use Rattle.atom_words.specs.declared.size.Size.{Size}
use Rattle.atom_words.specs.declared.view.View.{View}
use Rattle.atom_words.specs.declared.words.AtomSeat.{AtomSeat}
use Rattle.bucket_rows.specs.RowChanges.{RowSteps}
use Rattle.atom_table.specs.Holding.{Sits}
use Rattle.atom_table.specs.declared.resizing.Stage.TheVariants.{Still, Sounding, Closing, Moving, Opening}
use Rattle.atom_table.specs.declared.seats.Collector.{Collector}
use Rattle.atom_table.proofs.Rowed.{rows_sit, rows_collect, at_opening, found_on, opened_some, opened_all}
use Rattle.atom_table.proofs.table.AtomTable.open_some.Goals as goal

pub invariant_of-collector : goal.invariant_of-collector
invariant_of-collector c = let o = c.args.collector.now in let v : View = seen o.seat in let w : View = seen c.open_row.new.seat in let s : o.rows.stage ≡ Opening = search rules in let e = c.open_row.ensures in record {
  collects = rows_collect v w o.word o.checked o.cursor e.steps o.collects;
  rowed = opened_some v w o.rows (o.rows.shut - c.at_most.result) s o.rowed e.steps e.rows (omega arith);
  few = o.few;
}

pub invariant_of-collector-2 : goal.invariant_of-collector-2
invariant_of-collector-2 c = let o = c.args.collector.now in let v : View = seen o.seat in let w : View = seen c.open_row.new.seat in let s : o.rows.stage ≡ Opening = search rules in let e = c.open_row.ensures in record {
  collects = rows_collect v w o.word o.checked o.cursor e.steps o.collects;
  rowed = opened_all v w o.rows (o.rows.shut - c.at_most.result) s o.rowed e.steps e.rows c.if-end-ne0.false;
  few = o.few;
}

pub returns-then-end-ne0-clause-sits : goal.returns-then-end-ne0-clause-sits
returns-then-end-ne0-clause-sits c = let o = c.args.collector.now in let e = c.open_row.ensures in rows_sit c.args.self.now.words o.seat c.open_row.new.seat e.same e.steps c.requires.sits

pub returns-in-None-clause-sits : goal.returns-in-None-clause-sits
returns-in-None-clause-sits c = let o = c.args.collector.now in let e = c.open_row.ensures in rows_sit c.args.self.now.words o.seat c.open_row.new.seat e.same e.steps c.requires.sits

pub returns-in-Some-clause-sits : goal.returns-in-Some-clause-sits
returns-in-Some-clause-sits c = let o = c.args.collector.now in let e = c.open_row.ensures in rows_sit c.args.self.now.words o.seat c.open_row.new.seat e.same e.steps c.requires.sits

pub returns-in-Some-clause-steps : goal.returns-in-Some-clause-steps
returns-in-Some-clause-steps c = let o = c.args.collector.now in let v : View = seen o.seat in let w : View = seen c.open_row.new.seat in let s : o.rows.stage ≡ Opening = search rules in let e = c.open_row.ensures in let a = o.rowed.6 s in
    let now = (e.rows o.rows.aim v.growing.sound v.growing.moved (at_opening v o.rows s o.rowed)).1 in
    (c.row_heads.ensures, e.steps, (now.row_is, now.shut_is ∙ c.if-end-ne0.false), found_on c.in-Some.word v w e.steps (a.4 c.in-Some.word c.in-Some.is).1)
