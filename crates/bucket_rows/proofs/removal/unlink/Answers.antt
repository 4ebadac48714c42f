use Rattle.std.proofs.Common.{◌≡◌, ℕ, ◌+◌, ◌-◌, ◌<◌, ◌≤◌, List, [], ◌∷◌, ◌++◌, refl, sym, ap, ◌∙◌, subst, arith}
use Rattle.atom_words.specs.Layout.{first_of, version_of, last}
use Rattle.atom_words.specs.Seats.{seen}
use Rattle.atom_words.specs.declared.view.View.{View}
use Rattle.atom_words.specs.declared.kind.Kind.TheVariants.{Behind, Start, UnlinkHead}
use Rattle.bucket_rows.specs.Treads.{nexts, Treads, Behinds}
use Rattle.bucket_rows.proofs.Treading.{nexts_keep, treads_again}
use Rattle.bucket_rows.proofs.Removing.{then_steps, behinds_of, behinds_word, behinds_again, first_dying, out_first}
use Rattle.bucket_rows.proofs.SweepKinds.{kinds_append, kinds_nexts}
use Rattle.bucket_rows.proofs.Fewness.{few_flat, few_append, few_most, few_again}
use Rattle.bucket_rows.proofs.removal.unlink.Goals as goal

pub loop-i-init : goal.loop-i-init
loop-i-init c = let s = c.args.seat.now in let t = c.read_behind-link.new.seat in let link : ℕ = c.read_behind-link.result in let is = c.read_behind-link.ensures.steps in let same = c.read_behind-link.ensures.same in let fits = c.requires.fits in record {
  same = same;
  fits = (same.0 ∙ fits.0, ap (λ (y : View). y.size) is ∙ fits.1, ap (λ (y : View). y.gone) is ∙ fits.2);
  steps = (Behind link ∷ [], is, (tt, tt), few_flat c.args.words.now.size.slots 1 (Behind link ∷ []) refl (omega arith));
  low = c.requires.low;
  caught = behinds_word t c.args.slot s.word c.args.before link (behinds_of c.args.slot s.word c.args.before link (seen s) (seen t) c.requires.caught is);
  count = omega arith;
}

pub overflow_cast-before : goal.overflow_cast-before
overflow_cast-before c = let low = c.loop-i.invariant.low in omega (arith, c.args.words.now.allowed)

pub unlink_after-requires-clause-fits : goal.unlink_after-requires-clause-fits
unlink_after-requires-clause-fits c = c.loop-i.invariant.fits

pub unlink_after-requires-clause-slot : goal.unlink_after-requires-clause-slot
unlink_after-requires-clause-slot c = let low = c.loop-i.invariant.low in let some_ = c.if-before-ne0.true in (c.requires.slot, omega arith)

pub unlink_after-requires-clause-caught : goal.unlink_after-requires-clause-caught
unlink_after-requires-clause-caught c = let some_ = c.if-before-ne0.true in let one : c.loop-i.before ≡ c.loop-i.before - 1 + 1 = omega arith in
    subst (λ (n : ℕ). Behinds c.args.slot c.loop-i.seat.word n c.read_behind-link.result (seen c.loop-i.seat)) one c.loop-i.invariant.caught

pub returns-then-before-ne0-clause-same : goal.returns-then-before-ne0-clause-same
returns-then-before-ne0-clause-same c = let inv = c.loop-i.invariant in let e = c.unlink_after.ensures.same in (e.0 ∙ inv.same.0, e.1 ∙ inv.same.1)

pub returns-then-before-ne0-clause-steps : goal.returns-then-before-ne0-clause-steps
returns-then-before-ne0-clause-steps c = let inv = c.loop-i.invariant in let e = c.unlink_after.ensures.steps in (inv.steps.0 ++ e.0, then_steps (seen c.args.seat.now) (seen c.loop-i.seat) (seen c.unlink_after.new.seat) inv.steps.0 e.0 inv.steps.1 e.1, kinds_append inv.steps.0 e.0 inv.steps.2 e.2, few_most c.args.words.now.size.slots 4 (c.loop-i._i + 0) 4 last (inv.steps.0 ++ e.0) (few_append c.args.words.now.size.slots 1 c.loop-i._i 3 0 inv.steps.0 e.0 inv.steps.3 e.3) (omega arith) (let below = c.loop-i-test.true in omega arith))

pub unlink_head-requires-clause-fits : goal.unlink_head-requires-clause-fits
unlink_head-requires-clause-fits c = c.loop-i.invariant.fits

pub unlink_head-requires-clause-dying : goal.unlink_head-requires-clause-dying
unlink_head-requires-clause-dying c = let link : ℕ = c.read_behind-link.result in let s = c.loop-i.seat in let none : c.loop-i.before ≡ 0 = c.if-before-ne0.false in
    first_dying c.args.slot s.word link (seen s) (subst (λ (n : ℕ). Behinds c.args.slot s.word n link (seen s)) none c.loop-i.invariant.caught)

pub returns-in-Ok-clause-same : goal.returns-in-Ok-clause-same
returns-in-Ok-clause-same c = let inv = c.loop-i.invariant in let e = c.unlink_head.ensures.same in (e.0 ∙ inv.same.0, e.1 ∙ inv.same.1)

pub returns-in-Ok-clause-steps : goal.returns-in-Ok-clause-steps
returns-in-Ok-clause-steps c = let inv = c.loop-i.invariant in (inv.steps.0 ++ UnlinkHead ∷ [], then_steps (seen c.args.seat.now) (seen c.loop-i.seat) (seen c.unlink_head.new.seat) inv.steps.0 (UnlinkHead ∷ []) inv.steps.1 c.in-Ok.ensures.steps, kinds_append inv.steps.0 (UnlinkHead ∷ []) inv.steps.2 (tt, tt), few_most c.args.words.now.size.slots 2 (c.loop-i._i + 0) 4 last (inv.steps.0 ++ UnlinkHead ∷ []) (few_append c.args.words.now.size.slots 1 c.loop-i._i 1 0 inv.steps.0 (UnlinkHead ∷ []) inv.steps.3 (few_flat c.args.words.now.size.slots 1 (UnlinkHead ∷ []) refl (omega arith))) (omega arith) (let below = c.loop-i-test.true in omega arith))

pub returns-in-Ok-clause-out : goal.returns-in-Ok-clause-out
returns-in-Ok-clause-out c = out_first c.args.slot c.loop-i.seat.word c.loop-i.before c.read_behind-link.result (seen c.loop-i.seat) (seen c.unlink_head.new.seat) c.loop-i.invariant.caught c.in-Ok.ensures.steps

pub tread-before-requires-clause-fits : goal.tread-before-requires-clause-fits
tread-before-requires-clause-fits c = let inv = c.loop-i.invariant in let t = inv.caught.1 in let is = (c.in-Err.ensures.steps t.walk t.at).2 in
    (c.unlink_head.ensures.same.0 ∙ inv.fits.0, ap (λ (y : View). y.size) is ∙ inv.fits.1, ap (λ (y : View). y.gone) is ∙ inv.fits.2)

pub tread-before-requires-clause-start : goal.tread-before-requires-clause-start
tread-before-requires-clause-start c = let inv = c.loop-i.invariant in let s = c.loop-i.seat in let t = inv.caught.1 in let x : ℕ = c.in-Err.field-0 in let is = (c.in-Err.ensures.steps t.walk t.at).2 in let w : View = seen c.unlink_head.new.seat in
    subst (λ (y : ℕ). Treads c.args.slot y 0 0 (first_of y) w) (sym c.in-Err.ensures.walk.1.0)
    (subst (Treads c.args.slot x 0 0 (first_of x)) (sym is) (treads_again c.args.slot s.word inv.caught.0 c.loop-i.before (c.args.slot + 1) x (seen s) t))

pub loop-i-preserved : goal.loop-i-preserved
loop-i-preserved c = let inv = c.loop-i.invariant in let s = c.loop-i.seat in let v : View = seen c.args.seat.now in let u : View = seen s in let t = inv.caught.1 in let x : ℕ = c.in-Err.field-0 in let told = c.in-Err.ensures.steps t.walk t.at in let is = told.2 in
    let mid = c.unlink_head.new.seat in let new = c.tread-before.new.seat in let e = c.tread-before.ensures in let xs : List ℕ = e.steps.0 in let word : mid.word ≡ x = c.in-Err.ensures.walk.1.0 in let now : new.word ≡ x = e.walk.1 ∙ word in
    let old : t.walk.word ≡ s.word = t.word in let count = inv.count in let later = told.0 in record {
      same = (e.same.0 ∙ (c.unlink_head.ensures.same.0 ∙ inv.same.0), e.same.1 ∙ (c.unlink_head.ensures.same.1 ∙ inv.same.1));
      fits = (
        e.same.0 ∙ (c.unlink_head.ensures.same.0 ∙ inv.fits.0),
        ap (λ (y : View). y.size) e.steps.1 ∙ (nexts_keep (λ (y : View). y.size) (λ _ _. refl) (seen mid) xs ∙ (ap (λ (y : View). y.size) is ∙ inv.fits.1)),
        ap (λ (y : View). y.gone) e.steps.1 ∙ (nexts_keep (λ (y : View). y.gone) (λ _ _. refl) (seen mid) xs ∙ (ap (λ (y : View). y.gone) is ∙ inv.fits.2)),
      );
      steps = ((inv.steps.0 ++ Start t.walk.head x ∷ []) ++ nexts xs, then_steps v (seen mid) (seen new) (inv.steps.0 ++ Start t.walk.head x ∷ []) (nexts xs) (then_steps v u (seen mid) inv.steps.0 (Start t.walk.head x ∷ []) inv.steps.1 is) e.steps.1, kinds_append (inv.steps.0 ++ Start t.walk.head x ∷ []) (nexts xs) (kinds_append inv.steps.0 (Start t.walk.head x ∷ []) inv.steps.2 (tt, tt)) (kinds_nexts xs), few_again c.args.words.now.size.slots 1 c.loop-i._i inv.steps.0 t.walk.head x xs inv.steps.3 e.steps.2);
      low = e.low;
      caught = behinds_word new c.args.slot mid.word c.tread-before.result c.read_behind-link.result
          (behinds_again c.args.slot s.word mid.word c.loop-i.before e.stands.0 c.tread-before.result c.read_behind-link.result u (seen new) inv.caught e.stands.1
          (ap (λ (y : View). y.sweep) e.steps.1 ∙ (nexts_keep (λ (y : View). y.sweep) (λ _ _. refl) (seen mid) xs ∙ ap (λ (y : View). y.sweep) is))
          (ap (λ (y : View). y.growing) e.steps.1 ∙ (nexts_keep (λ (y : View). y.growing) (λ _ _. refl) (seen mid) xs ∙ ap (λ (y : View). y.growing) is)) (subst (λ (n : ℕ). version_of n < last) (sym word) told.1));
      count = subst (λ (n : ℕ). c.loop-i._i + 1 ≤ version_of n) (sym now) (let le : version_of s.word < version_of x = subst (λ (n : ℕ). version_of n < version_of x) old later in omega arith);
    }

-- the tries come to an end
pub returns-clause-same : goal.returns-clause-same
returns-clause-same c = absurd (let over = c.loop-i-test.false in let early = c.loop-i.invariant.caught.5 in let count = c.loop-i.invariant.count in omega arith)

pub returns-clause-steps : goal.returns-clause-steps
returns-clause-steps c = absurd (let over = c.loop-i-test.false in let early = c.loop-i.invariant.caught.5 in let count = c.loop-i.invariant.count in omega arith)

pub returns-clause-out : goal.returns-clause-out
returns-clause-out c = absurd (let over = c.loop-i-test.false in let early = c.loop-i.invariant.caught.5 in let count = c.loop-i.invariant.count in omega arith)

pub returns-in-Ok-clause-fits : goal.returns-in-Ok-clause-fits
returns-in-Ok-clause-fits c = let inv = c.loop-i.invariant in let is = c.in-Ok.ensures.steps in (c.unlink_head.ensures.same.0 ∙ inv.fits.0, ap (λ (y : View). y.size) is ∙ inv.fits.1, ap (λ (y : View). y.gone) is ∙ inv.fits.2)

pub returns-clause-fits : goal.returns-clause-fits
returns-clause-fits c = c.loop-i.invariant.fits
