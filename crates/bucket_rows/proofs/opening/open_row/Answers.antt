use Rattle.std.proofs.Common.{◌≡◌, ◌+◌, ◌-◌, ◌^◌, ◌<◌, ℕ, refl, ap, ◌∙◌, subst, inl, inr, ⊎_elim, arith}
use Rattle.atom_words.specs.Layout.{row_first}
use Rattle.atom_words.specs.Seats.{seen}
use Rattle.atom_words.specs.declared.view.View.{View}
use Rattle.atom_words.specs.declared.kind.Kind.TheVariants.{Publish}
use Rattle.bucket_rows.specs.RowChanges.{Rowing}
use Rattle.bucket_rows.proofs.RowLaws.{rows_refl, rows_both, rows_one}
use Rattle.bucket_rows.proofs.RowViews.{rowing_open}
use Rattle.bucket_rows.proofs.opening.open_row.Goals as goal

pub loop-i-init : goal.loop-i-init
loop-i-init c = record { same = (refl, refl); fits = c.requires.fits; steps = rows_refl (seen c.args.seat.now); rows = λ aim sound moved r. (sound, subst (λ (n : ℕ). Rowing c.args.row aim n sound moved (seen c.args.seat.now)) (let whole : c.args.shut ≡ c.args.shut - 0 = omega arith in whole) r) }

pub open_head-requires-clause-fits : goal.open_head-requires-clause-fits
open_head-requires-clause-fits c = c.loop-i.invariant.fits

pub open_head-requires-clause-row : goal.open_head-requires-clause-row
open_head-requires-clause-row c = let low = c.loop-i-test.true in let row = c.requires.row in (row.0, omega (arith, low), omega (arith, row.2))

pub open_head-requires-clause-rows : goal.open_head-requires-clause-rows
open_head-requires-clause-rows c = let q = c.requires.rows in let r = c.loop-i.invariant.rows q.0 q.1 q.2 q.3 in
    (q.0, r.0, q.2, r.1, ⊎_elim (λ (e : q.0 ≡ c.args.row). inl e) (λ (less : c.args.shut < 2 ^ c.args.row). inr (omega (arith, less))) q.4)

pub loop-i-preserved : goal.loop-i-preserved
loop-i-preserved c = let inv = c.loop-i.invariant in let e = c.open_head.ensures in let u : View = seen c.loop-i.seat in let w : View = seen c.open_head.new.seat in let h : ℕ = row_first c.args.row + (c.args.shut - c.loop-i.i) - 1 in record {
  same = (e.same.0 ∙ inv.same.0, e.same.1 ∙ inv.same.1);
  fits = (e.same.0 ∙ inv.fits.0, ap (λ (y : View). y.size) e.steps ∙ inv.fits.1, ap (λ (y : View). y.gone) e.steps ∙ inv.fits.2);
  steps = rows_both (seen c.args.seat.now) u w inv.steps (rows_one u w (Publish h) tt e.steps);
  rows = λ aim sound moved r. let q = inv.rows aim sound moved r in
      (0, subst (λ (n : ℕ). Rowing c.args.row aim n 0 moved w) (let one : c.args.shut - c.loop-i.i - 1 ≡ c.args.shut - (c.loop-i.i + 1) = omega arith in one) (rowing_open c.args.row aim (c.args.shut - c.loop-i.i) q.0 moved h u w e.steps q.1));
}

pub returns-clause-rows : goal.returns-clause-rows
returns-clause-rows c = λ aim sound moved r. let q = c.loop-i.invariant.rows aim sound moved r in let all : c.args.shut - c.loop-i.i ≡ c.args.end = (let a = c.loop-i-test.false in let b = c.loop-i.auto.i-end in let row = c.requires.row in omega (arith, a, b, row.1)) in
    (q.0, subst (λ (n : ℕ). Rowing c.args.row aim n q.0 moved (seen c.loop-i.seat)) all q.1)
