use Rattle.std.proofs.Common.{◌≡◌, ◌+◌, ℕ, [], refl, ap, ◌∙◌, subst, inr, arith}
use Rattle.atom_words.specs.Layout.{row_first}
use Rattle.atom_words.specs.Seats.{seen}
use Rattle.atom_words.specs.declared.view.View.{View}
use Rattle.atom_words.specs.declared.kind.Kind.TheVariants.{Sound}
use Rattle.atom_words.specs.Board.{head_at}
use Rattle.bucket_rows.specs.RowChanges.{Sounds}
use Rattle.bucket_rows.proofs.RowLaws.{rows_refl, rows_both, rows_one, settled_by}
use Rattle.bucket_rows.proofs.RowViews.{rowing_load, rowing_sound, worn_after}
use Rattle.bucket_rows.proofs.closing.sound_row.Goals as goal

pub loop-sound-init : goal.loop-sound-init
loop-sound-init c = record { same = (refl, refl); fits = c.requires.fits; steps = rows_refl (seen c.args.seat.now); rows = λ row shut moved r. r }

pub sound_next-requires-clause-fits : goal.sound_next-requires-clause-fits
sound_next-requires-clause-fits c = c.loop-sound.invariant.fits

pub sound_next-requires-clause-aim : goal.sound_next-requires-clause-aim
sound_next-requires-clause-aim c = let low = c.loop-sound-test.true in let aim = c.requires.aim in (aim.0, omega (arith, low, aim.2))

pub sound_next-requires-clause-rows : goal.sound_next-requires-clause-rows
sound_next-requires-clause-rows c = let q = c.requires.rows in (q.0, q.1, q.2, c.loop-sound.invariant.rows q.0 q.1 q.2 q.3, q.4, q.5)

pub loop-sound-preserved : goal.loop-sound-preserved
loop-sound-preserved c = let inv = c.loop-sound.invariant in let e = c.sound_next.ensures in let u : View = seen c.loop-sound.seat in let w : View = seen c.sound_next.new.seat in let t = c.in-Ok.ensures.steps in record {
  same = (e.same.0 ∙ inv.same.0, e.same.1 ∙ inv.same.1);
  fits = (e.same.0 ∙ inv.fits.0, ap (λ (y : View). y.size) t.1 ∙ inv.fits.1, ap (λ (y : View). y.gone) t.1 ∙ inv.fits.2);
  steps = rows_both (seen c.args.seat.now) u w inv.steps (rows_one u w (Sound t.0) tt t.1);
  rows = λ row shut moved r. rowing_sound row c.args.aim shut c.loop-sound.sound moved t.0 u w t.1 (inv.rows row shut moved r);
}

pub returns-in-Err-clause-same : goal.returns-in-Err-clause-same
returns-in-Err-clause-same c = let inv = c.loop-sound.invariant in let e = c.sound_next.ensures.same in (e.0 ∙ inv.same.0, e.1 ∙ inv.same.1)

pub returns-in-Err-clause-fits : goal.returns-in-Err-clause-fits
returns-in-Err-clause-fits c = let inv = c.loop-sound.invariant in let t = c.in-Err.ensures.steps in (c.sound_next.ensures.same.0 ∙ inv.fits.0, ap (λ (y : View). y.size) t.1 ∙ inv.fits.1, ap (λ (y : View). y.gone) t.1 ∙ inv.fits.2)

pub returns-in-Err-clause-steps : goal.returns-in-Err-clause-steps
returns-in-Err-clause-steps c = let inv = c.loop-sound.invariant in let v : View = seen c.args.seat.now in let u : View = seen c.loop-sound.seat in let w : View = seen c.sound_next.new.seat in let low = c.loop-sound-test.true in let start = c.loop-sound.auto.sound in let t = c.in-Err.ensures.steps in
    (omega (arith, start), low, worn_after (row_first c.args.aim + c.loop-sound.sound) c.in-Err.word v u w inv.steps (t.0, ([], tt, inr t.1)) (settled_by v u inv.steps).size)

pub returns-in-Err-clause-rows : goal.returns-in-Err-clause-rows
returns-in-Err-clause-rows c = λ row shut moved r. let u : View = seen c.loop-sound.seat in
    rowing_load row c.args.aim shut c.loop-sound.sound moved (head_at u.size (row_first c.args.aim + c.loop-sound.sound)) c.in-Err.word u (seen c.sound_next.new.seat) c.in-Err.ensures.steps.1 (c.loop-sound.invariant.rows row shut moved r)

pub returns-clause-rows : goal.returns-clause-rows
returns-clause-rows c = let all : c.loop-sound.sound ≡ c.args.end = (let a = c.loop-sound-test.false in let b = c.loop-sound.auto.sound-end c.requires.aim.1 in omega (arith, a, b)) in
    subst (λ (n : ℕ). Sounds c.args.aim c.args.from n (seen c.args.seat.now) (seen c.loop-sound.seat)) all c.loop-sound.invariant.rows
