use Rattle.std.proofs.Common.{◌+◌, ◌^◌, ℕ, refl, ap, ◌∙◌, arith}
use Rattle.atom_words.specs.Layout.{row_first}
use Rattle.atom_words.specs.Seats.{seen}
use Rattle.atom_words.specs.declared.view.View.{View}
use Rattle.atom_words.specs.declared.kind.Kind.TheVariants.{Start, Emptied}
use Rattle.bucket_rows.proofs.RowLaws.{rows_refl, rows_both, rows_one}
use Rattle.bucket_rows.proofs.RowViews.{rowing_start, rowing_empty, paces_start}
use Rattle.bucket_rows.proofs.moving.move_chain.Goals as goal

pub loop-i-init : goal.loop-i-init
loop-i-init c = record { same = (refl, refl); fits = c.requires.fits; steps = rows_refl (seen c.args.seat.now); rows = λ shut sound r. r }

pub look_into-requires-clause-fits : goal.look_into-requires-clause-fits
look_into-requires-clause-fits c = c.loop-i.invariant.fits

pub look_into-requires-clause-row : goal.look_into-requires-clause-row
look_into-requires-clause-row c = (c.requires.row.0, c.requires.row.2)

pub look_into-requires-clause-rows : goal.look_into-requires-clause-rows
look_into-requires-clause-rows c = let q = c.requires.rows in (c.args.aim, q.0, c.loop-i.invariant.rows (2 ^ c.args.row) q.0 q.1, c.requires.row.3)

pub returns-in-None-clause-same : goal.returns-in-None-clause-same
returns-in-None-clause-same c = let inv = c.loop-i.invariant in let e = c.look_into.ensures.same in (e.0 ∙ inv.same.0, e.1 ∙ inv.same.1)

pub returns-in-None-clause-fits : goal.returns-in-None-clause-fits
returns-in-None-clause-fits c = let inv = c.loop-i.invariant in let is = c.in-None.ensures.steps in (c.look_into.ensures.same.0 ∙ inv.fits.0, ap (λ (y : View). y.size) is ∙ inv.fits.1, ap (λ (y : View). y.gone) is ∙ inv.fits.2)

pub returns-in-None-clause-steps : goal.returns-in-None-clause-steps
returns-in-None-clause-steps c = let u : View = seen c.loop-i.seat in let w : View = seen c.look_into.new.seat in rows_both (seen c.args.seat.now) u w c.loop-i.invariant.steps (rows_one u w Emptied tt c.in-None.ensures.steps)

pub returns-in-None-clause-rows : goal.returns-in-None-clause-rows
returns-in-None-clause-rows c = let low = c.loop-i-test.true in (
  omega (arith, low),
  λ shut sound r. rowing_empty c.args.row c.args.aim shut sound c.args.moved (seen c.loop-i.seat) (seen c.look_into.new.seat) c.in-None.ensures.steps (c.loop-i.invariant.rows shut sound r),
)

pub move_last-requires-clause-fits : goal.move_last-requires-clause-fits
move_last-requires-clause-fits c = let inv = c.loop-i.invariant in let is = c.in-Some.ensures.steps.1 in (c.look_into.ensures.same.0 ∙ inv.fits.0, ap (λ (y : View). y.size) is ∙ inv.fits.1, ap (λ (y : View). y.gone) is ∙ inv.fits.2)

pub move_last-requires-clause-row : goal.move_last-requires-clause-row
move_last-requires-clause-row c = c.requires.row

pub move_last-requires-clause-rows : goal.move_last-requires-clause-rows
move_last-requires-clause-rows c = let q = c.requires.rows in
    (q.0, rowing_start c.args.row c.args.aim (2 ^ c.args.row) q.0 c.args.moved (row_first c.args.row + c.args.moved) c.in-Some.word (seen c.loop-i.seat) (seen c.look_into.new.seat) c.in-Some.ensures.steps.1 (c.loop-i.invariant.rows (2 ^ c.args.row) q.0 q.1))

pub move_last-requires-clause-start : goal.move_last-requires-clause-start
move_last-requires-clause-start c = (paces_start (row_first c.args.row + c.args.moved) c.in-Some.word (seen c.loop-i.seat) (seen c.look_into.new.seat) c.in-Some.ensures.steps.1, c.in-Some.ensures.steps.0)

pub move_last-requires-clause-inside : goal.move_last-requires-clause-inside
move_last-requires-clause-inside c = c.in-Some.ensures.steps.2

pub loop-i-preserved : goal.loop-i-preserved
loop-i-preserved c = let inv = c.loop-i.invariant in let v : View = seen c.args.seat.now in let u : View = seen c.loop-i.seat in let t : View = seen c.look_into.new.seat in let w : View = seen c.move_last.new.seat in let e = c.move_last.ensures in let is = c.in-Some.ensures.steps.1 in let h : ℕ = row_first c.args.row + c.args.moved in record {
  same = (e.same.0 ∙ (c.look_into.ensures.same.0 ∙ inv.same.0), e.same.1 ∙ (c.look_into.ensures.same.1 ∙ inv.same.1));
  fits = e.fits;
  steps = rows_both v t w (rows_both v u t inv.steps (rows_one u t (Start h c.in-Some.word) tt is)) e.steps;
  rows = λ shut sound r. e.rows shut sound (rowing_start c.args.row c.args.aim shut sound c.args.moved h c.in-Some.word u t is (inv.rows shut sound r));
}
