use Rattle.std.proofs.Common.{◌+◌, ◌<◌, ℕ, [], ◌∷◌, ◌++◌, refl, ap, ◌∙◌, subst, inl, arith}
use Rattle.atom_words.specs.Layout.{version_of, row_first}
use Rattle.atom_words.specs.Kinds.{starting}
use Rattle.atom_words.specs.Seats.{seen}
use Rattle.atom_words.specs.declared.view.View.{View}
use Rattle.atom_words.specs.declared.kind.Kind.TheVariants.{Start, Close}
use Rattle.bucket_rows.proofs.RowLaws.{kinds_join, rows_both, rows_one}
use Rattle.bucket_rows.proofs.RowViews.{rowing_start, rowing_close, begun_at, begun_walk, begun_rows}
use Rattle.bucket_rows.proofs.closing.close_next.Goals as goal

pub loop-i-init : goal.loop-i-init
loop-i-init c = let v : View = seen c.args.seat.now in let t = c.trace_next-word.ensures in let w : View = seen c.trace_next-word.new.seat in let h : ℕ = row_first c.args.row + c.args.shut in let x : ℕ = c.trace_next-word.result in record {
  same = t.same;
  fits = (t.same.0 ∙ c.requires.fits.0, ap (λ (y : View). y.size) t.steps ∙ c.requires.fits.1, ap (λ (y : View). y.gone) t.steps ∙ c.requires.fits.2);
  steps = ([], tt, t.steps);
  rows = λ aim sound moved r. rowing_start c.args.row aim c.args.shut sound moved h x v w t.steps r;
  unclosed = t.unclosed;
  at = t.walk;
  count = omega arith;
}

pub returns-then-word-ge-WORN-clause-same : goal.returns-then-word-ge-WORN-clause-same
returns-then-word-ge-WORN-clause-same c = c.loop-i.invariant.same

pub returns-then-word-ge-WORN-clause-fits : goal.returns-then-word-ge-WORN-clause-fits
returns-then-word-ge-WORN-clause-fits c = c.loop-i.invariant.fits

pub returns-then-word-ge-WORN-clause-steps : goal.returns-then-word-ge-WORN-clause-steps
returns-then-word-ge-WORN-clause-steps c = let s = c.loop-i.invariant.steps in (c.if-word-ge-WORN.true, (s.0, s.1, inl s.2))

pub returns-then-word-ge-WORN-clause-rows : goal.returns-then-word-ge-WORN-clause-rows
returns-then-word-ge-WORN-clause-rows c = c.loop-i.invariant.rows

pub close_head-requires-clause-fits : goal.close_head-requires-clause-fits
close_head-requires-clause-fits c = c.loop-i.invariant.fits

pub close_head-requires-clause-rows : goal.close_head-requires-clause-rows
close_head-requires-clause-rows c = let q = c.requires.rows in (q.0, q.1, q.2, c.loop-i.invariant.rows q.0 q.1 q.2 q.3)

pub close_head-requires-clause-walk : goal.close_head-requires-clause-walk
close_head-requires-clause-walk c = let inv = c.loop-i.invariant in let h : ℕ = row_first c.args.row + c.args.shut in let low = c.if-word-ge-WORN.false in
    (starting h c.loop-i.word, begun_walk (seen c.args.seat.now) (seen c.loop-i.seat) inv.steps.0 h c.loop-i.word inv.steps.2, refl, inv.unclosed, omega (arith, low))

pub returns-in-Ok-clause-same : goal.returns-in-Ok-clause-same
returns-in-Ok-clause-same c = let inv = c.loop-i.invariant in let e = c.close_head.ensures.same in (e.0 ∙ inv.same.0, e.1 ∙ inv.same.1)

pub returns-in-Ok-clause-fits : goal.returns-in-Ok-clause-fits
returns-in-Ok-clause-fits c = let inv = c.loop-i.invariant in let is = c.in-Ok.ensures.steps in (c.close_head.ensures.same.0 ∙ inv.fits.0, ap (λ (y : View). y.size) is ∙ inv.fits.1, ap (λ (y : View). y.gone) is ∙ inv.fits.2)

pub returns-in-Ok-clause-steps : goal.returns-in-Ok-clause-steps
returns-in-Ok-clause-steps c = let inv = c.loop-i.invariant in let v : View = seen c.args.seat.now in let u : View = seen c.loop-i.seat in let w : View = seen c.close_head.new.seat in let h : ℕ = row_first c.args.row + c.args.shut in
    rows_both v u w (begun_rows v u inv.steps.0 h c.loop-i.word inv.steps.1 inv.steps.2) (rows_one u w (Close h) tt c.in-Ok.ensures.steps)

pub returns-in-Ok-clause-rows : goal.returns-in-Ok-clause-rows
returns-in-Ok-clause-rows c = λ aim sound moved r. rowing_close c.args.row aim c.args.shut sound moved (row_first c.args.row + c.args.shut) (seen c.loop-i.seat) (seen c.close_head.new.seat) c.in-Ok.ensures.steps (c.loop-i.invariant.rows aim sound moved r)

pub loop-i-preserved : goal.loop-i-preserved
loop-i-preserved c = let inv = c.loop-i.invariant in let v : View = seen c.args.seat.now in let u : View = seen c.loop-i.seat in let w : View = seen c.close_head.new.seat in let h : ℕ = row_first c.args.row + c.args.shut in let x : ℕ = c.in-Err.found in
    let told = c.in-Err.ensures.steps in let walk = c.in-Err.ensures.walk in let later : version_of c.loop-i.word < version_of x = subst (λ (n : ℕ). version_of n < version_of x) inv.at.1 told.0 in let count = inv.count in record {
      same = (c.close_head.ensures.same.0 ∙ inv.same.0, c.close_head.ensures.same.1 ∙ inv.same.1);
      fits = (c.close_head.ensures.same.0 ∙ inv.fits.0, ap (λ (y : View). y.size) told.2 ∙ inv.fits.1, ap (λ (y : View). y.gone) told.2 ∙ inv.fits.2);
      steps = (inv.steps.0 ++ Start h c.loop-i.word ∷ [], kinds_join inv.steps.0 (Start h c.loop-i.word ∷ []) inv.steps.1 (tt, tt), begun_at v u w (inv.steps.0 ++ Start h c.loop-i.word ∷ []) h x inv.steps.2 told.2);
      rows = λ aim sound moved r. rowing_start c.args.row aim c.args.shut sound moved h x u w told.2 (inv.rows aim sound moved r);
      unclosed = told.1;
      at = (walk.0 ∙ inv.at.0, walk.1);
      count = omega (arith, count, later);
    }

-- the tries come to an end, since the version has one
pub returns-clause-same : goal.returns-clause-same
returns-clause-same c = c.loop-i.invariant.same

pub returns-clause-fits : goal.returns-clause-fits
returns-clause-fits c = c.loop-i.invariant.fits

pub returns-clause-steps : goal.returns-clause-steps
returns-clause-steps c = let s = c.loop-i.invariant.steps in let over = c.loop-i-test.false in let count = c.loop-i.invariant.count in (omega (arith, over, count), (s.0, s.1, inl s.2))

pub returns-clause-rows : goal.returns-clause-rows
returns-clause-rows c = c.loop-i.invariant.rows
