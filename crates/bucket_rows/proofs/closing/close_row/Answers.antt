use Rattle.std.proofs.Common.{◌≡◌, ◌+◌, ℕ, refl, ◌∙◌, subst, arith}
use Rattle.atom_words.specs.Layout.{row_first}
use Rattle.atom_words.specs.Seats.{seen}
use Rattle.bucket_rows.specs.RowChanges.{Closes}
use Rattle.bucket_rows.proofs.RowLaws.{rows_refl, rows_both, settled_by}
use Rattle.bucket_rows.proofs.RowViews.{worn_after}
use Rattle.bucket_rows.proofs.closing.close_row.Goals as goal

pub loop-shut-init : goal.loop-shut-init
loop-shut-init c = record { same = (refl, refl); fits = c.requires.fits; steps = rows_refl (seen c.args.seat.now); rows = λ aim sound moved r. r }

pub close_next-requires-clause-fits : goal.close_next-requires-clause-fits
close_next-requires-clause-fits c = c.loop-shut.invariant.fits

pub close_next-requires-clause-row : goal.close_next-requires-clause-row
close_next-requires-clause-row c = let low = c.loop-shut-test.true in let row = c.requires.row in (row.0, omega (arith, low, row.2))

pub close_next-requires-clause-rows : goal.close_next-requires-clause-rows
close_next-requires-clause-rows c = let q = c.requires.rows in (q.0, q.1, q.2, c.loop-shut.invariant.rows q.0 q.1 q.2 q.3)

pub loop-shut-preserved : goal.loop-shut-preserved
loop-shut-preserved c = let inv = c.loop-shut.invariant in let e = c.close_next.ensures in record {
  same = (e.same.0 ∙ inv.same.0, e.same.1 ∙ inv.same.1);
  fits = e.fits;
  steps = rows_both (seen c.args.seat.now) (seen c.loop-shut.seat) (seen c.close_next.new.seat) inv.steps c.in-Ok.ensures.steps;
  rows = λ aim sound moved r. c.in-Ok.ensures.rows aim sound moved (inv.rows aim sound moved r);
}

pub returns-in-Err-clause-same : goal.returns-in-Err-clause-same
returns-in-Err-clause-same c = let inv = c.loop-shut.invariant in let e = c.close_next.ensures.same in (e.0 ∙ inv.same.0, e.1 ∙ inv.same.1)

pub returns-in-Err-clause-steps : goal.returns-in-Err-clause-steps
returns-in-Err-clause-steps c = let inv = c.loop-shut.invariant in let low = c.loop-shut-test.true in let start = c.loop-shut.auto.shut in
    (omega (arith, start), low, worn_after (row_first c.args.row + c.loop-shut.shut) c.in-Err.word (seen c.args.seat.now) (seen c.loop-shut.seat) (seen c.close_next.new.seat) inv.steps c.in-Err.ensures.steps (settled_by (seen c.args.seat.now) (seen c.loop-shut.seat) inv.steps).size)

pub returns-in-Err-clause-rows : goal.returns-in-Err-clause-rows
returns-in-Err-clause-rows c = λ aim sound moved r. c.in-Err.ensures.rows aim sound moved (c.loop-shut.invariant.rows aim sound moved r)

pub returns-clause-rows : goal.returns-clause-rows
returns-clause-rows c = let all : c.loop-shut.shut ≡ c.args.end = (let a = c.loop-shut-test.false in let b = c.loop-shut.auto.shut-end c.requires.row.1 in omega (arith, a, b)) in
    subst (λ (n : ℕ). Closes c.args.row c.args.from n (seen c.args.seat.now) (seen c.loop-shut.seat)) all c.loop-shut.invariant.rows
