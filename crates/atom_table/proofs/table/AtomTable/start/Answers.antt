use Rattle.std.proofs.Common.{◌≡◌, ◌≢◌, ◌+◌, ◌-◌, ◌*◌, ◌^◌, ◌<◌, ◌≤◌, ℕ, [], ◌∷◌, true, false, refl, sym, ap, ◌∙◌, subst, arith, Some, None}
use Rattle.atom_words.specs.Layout.{phase_of, row_first}
use Rattle.atom_words.specs.Seats.{seen}
use Rattle.atom_words.specs.Kinds.{RowOk}
use Rattle.atom_words.specs.declared.size.Size.{Size}
use Rattle.atom_words.specs.declared.view.View.{View}
use Rattle.atom_words.specs.declared.kind.Kind.TheVariants.{Aim}
use Rattle.bucket_rows.specs.RowChanges.{RowSteps, Rowing, FoundWorn}
use Rattle.bucket_rows.proofs.RowLaws.{rows_both, rows_one}
use Rattle.bucket_rows.proofs.RowViews.{worn_steps}
use Rattle.atom_table.proofs.Scans.{collects_known}
use Rattle.atom_table.proofs.Rowed.{rows_sit, rows_collect, has_found, started, not_started}
use Rattle.atom_table.proofs.table.AtomTable.start.Goals as goal

pub aim_at-requires-clause-idle : goal.aim_at-requires-clause-idle
aim_at-requires-clause-idle c = let o = c.args.collector.now in let k = collects_known (seen o.seat) o.word o.checked o.cursor o.collects in (k.0, k.1, (λ i. phase_of (k.2 i)) ∙ c.requires.idle)

pub aim_at-requires-clause-unclosed : goal.aim_at-requires-clause-unclosed
aim_at-requires-clause-unclosed c = let o = c.args.collector.now in o.rowed.2 c.requires.still

pub close_row-requires-clause-fits : goal.close_row-requires-clause-fits
close_row-requires-clause-fits c = let is = c.aim_at.ensures.steps in let f = c.requires.sits.0 in (c.aim_at.ensures.same.0 ∙ f.0, ap (λ (y : View). y.size) is ∙ f.1, ap (λ (y : View). y.gone) is ∙ f.2)

pub close_row-requires-clause-row : goal.close_row-requires-clause-row
close_row-requires-clause-row c = let o = c.args.collector.now in let ok = subst (λ (z : Size). RowOk z o.rows.row) c.requires.sits.0.1 o.rowed.1 in (ok, omega arith, omega (arith, ok.0))

pub close_row-requires-clause-rows : goal.close_row-requires-clause-rows
close_row-requires-clause-rows c = let o = c.args.collector.now in (c.args.aim, 0, 0, c.aim_at.ensures.rows o.rows.row o.rowed.0)

-- THE FIRST HEAD IS CLOSED
pub returns-in-Ok-clause-steps : goal.returns-in-Ok-clause-steps
returns-in-Ok-clause-steps c = let o = c.args.collector.now in rows_both (seen o.seat) (seen c.aim_at.new.seat) (seen c.close_row.new.seat) (rows_one (seen o.seat) (seen c.aim_at.new.seat) (Aim c.args.aim) tt c.aim_at.ensures.steps) c.in-Ok.ensures.steps

pub invariant_of-collector : goal.invariant_of-collector
invariant_of-collector c = let o = c.args.collector.now in let v : View = seen o.seat in let u : View = seen c.aim_at.new.seat in let w : View = seen c.close_row.new.seat in
    let steps : RowSteps v w = rows_both v u w (rows_one v u (Aim c.args.aim) tt c.aim_at.ensures.steps) c.in-Ok.ensures.steps in record {
      collects = rows_collect v w o.word o.checked o.cursor steps o.collects;
      rowed = started v w o.rows c.args.aim o.rowed steps (subst (λ (z : Size). RowOk z c.args.aim) (sym c.requires.sits.0.1) c.requires.aim.0) c.requires.aim.1 (c.in-Ok.ensures.rows c.args.aim 0 0 (c.aim_at.ensures.rows o.rows.row o.rowed.0));
      few = o.few;
    }

pub returns-in-Ok-clause-sits : goal.returns-in-Ok-clause-sits
returns-in-Ok-clause-sits c = let o = c.args.collector.now in let v : View = seen o.seat in let u : View = seen c.aim_at.new.seat in let w : View = seen c.close_row.new.seat in
    rows_sit c.args.self.now.words o.seat c.close_row.new.seat (c.close_row.ensures.same.0 ∙ c.aim_at.ensures.same.0, c.close_row.ensures.same.1 ∙ c.aim_at.ensures.same.1) (rows_both v u w (rows_one v u (Aim c.args.aim) tt c.aim_at.ensures.steps) c.in-Ok.ensures.steps) c.requires.sits

-- IT IS WORN, and stays open
worn_all : (v u w : View) (row aim before x : ℕ) → u ≡ Rattle.atom_words.specs.Kinds.after v (Aim aim ∷ []) → FoundWorn (row_first row + before) x u w → RowSteps v w
worn_all v u w row aim before x is f = rows_both v u w (rows_one v u (Aim aim) tt is) (worn_steps (row_first row + before) x u w f)

pub invariant_of-collector-in-Err-1 : goal.invariant_of-collector-in-Err-1
invariant_of-collector-in-Err-1 c = let o = c.args.collector.now in let v : View = seen o.seat in let u : View = seen c.aim_at.new.seat in let w : View = seen c.close_row.new.seat in let q = c.in-Err.worn in let e = c.in-Err.ensures.steps in
    let steps : RowSteps v w = worn_all v u w o.rows.row c.args.aim q.before q.word c.aim_at.ensures.steps e.2 in let none_ : q.before ≡ 0 = omega (arith, e.1) in record {
      collects = rows_collect v w o.word o.checked o.cursor steps o.collects;
      rowed = not_started v w o.rows c.args.aim c.requires.still o.rowed steps (subst (λ (n : ℕ). Rowing o.rows.row c.args.aim n 0 0 w) none_ (c.in-Err.ensures.rows c.args.aim 0 0 (c.aim_at.ensures.rows o.rows.row o.rowed.0)));
      few = o.few;
    }

pub returns-in-Err-clause-sits : goal.returns-in-Err-clause-sits
returns-in-Err-clause-sits c = let o = c.args.collector.now in let v : View = seen o.seat in let u : View = seen c.aim_at.new.seat in let w : View = seen c.close_row.new.seat in let q = c.in-Err.worn in
    rows_sit c.args.self.now.words o.seat c.close_row.new.seat (c.close_row.ensures.same.0 ∙ c.aim_at.ensures.same.0, c.close_row.ensures.same.1 ∙ c.aim_at.ensures.same.1) (worn_all v u w o.rows.row c.args.aim q.before q.word c.aim_at.ensures.steps c.in-Err.ensures.steps.2) c.requires.sits

pub returns-in-Err-clause-steps : goal.returns-in-Err-clause-steps
returns-in-Err-clause-steps c = let o = c.args.collector.now in let q = c.in-Err.worn in worn_all (seen o.seat) (seen c.aim_at.new.seat) (seen c.close_row.new.seat) o.rows.row c.args.aim q.before q.word c.aim_at.ensures.steps c.in-Err.ensures.steps.2

pub returns-in-Err-clause-stage : goal.returns-in-Err-clause-stage
returns-in-Err-clause-stage c = let o = c.args.collector.now in let u : View = seen c.aim_at.new.seat in let q = c.in-Err.worn in let e = c.in-Err.ensures.steps in
    let ok = subst (λ (z : Size). RowOk z o.rows.row) (sym (ap (λ (y : View). y.size) c.aim_at.ensures.steps)) o.rowed.1 in let low = e.1 in
    (c.requires.still, refl, has_found (row_first o.rows.row + q.before) q.word u (seen c.close_row.new.seat) (omega (arith, ok.0, ok.1, low)) e.2)
