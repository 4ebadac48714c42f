use Rattle.std.proofs.Common.{◌<◌, ℕ, refl, sym, ap, ◌∙◌, subst, arith}
use Rattle.atom_words.specs.Seats.{seen}
use Rattle.atom_words.specs.declared.view.View.{View}
use Rattle.atom_table.proofs.Settling.{unchanged_trans, rising_next}
use Rattle.atom_table.proofs.opening.raise_all.Goals as goal

pub loop-head-init : goal.loop-head-init
loop-head-init c = record { same = (refl, refl); unchanged = ((seen c.args.seat.now).made, (seen c.args.seat.now).risen, refl); risen = c.requires.none }

pub raise-requires-clause-fits : goal.raise-requires-clause-fits
raise-requires-clause-fits c = let inv = c.loop-head.invariant in let f = c.requires.fits in let u = inv.unchanged.2 in (inv.same.0 ∙ f.0, ap (λ (y : View). y.size) u ∙ f.1, ap (λ (y : View). y.gone) u ∙ f.2)

pub raise-requires-clause-head : goal.raise-requires-clause-head
raise-requires-clause-head c = let ok = c.args.words.now.allowed in let low = c.loop-head-test.true in omega arith

pub raise-requires-clause-first : goal.raise-requires-clause-first
raise-requires-clause-first c = subst (λ (n : ℕ). 0 < n) (sym (ap (λ (y : View). y.undealt) c.loop-head.invariant.unchanged.2)) c.requires.first

pub loop-head-preserved : goal.loop-head-preserved
loop-head-preserved c = let inv = c.loop-head.invariant in let now = c.raise.ensures in record {
  same = (now.same.0 ∙ inv.same.0, now.same.1 ∙ inv.same.1);
  unchanged = unchanged_trans (seen c.args.seat.now) (seen c.loop-head.seat) (seen c.raise.new.seat) inv.unchanged now.unchanged;
  risen = c.in-Ok.ensures.risen ∙ rising_next c.loop-head.head (seen c.loop-head.seat).risen inv.risen;
}

pub returns-in-Err-clause-same : goal.returns-in-Err-clause-same
returns-in-Err-clause-same c = let inv = c.loop-head.invariant in (c.raise.ensures.same.0 ∙ inv.same.0, c.raise.ensures.same.1 ∙ inv.same.1)

pub returns-in-Err-clause-unchanged : goal.returns-in-Err-clause-unchanged
returns-in-Err-clause-unchanged c = unchanged_trans (seen c.args.seat.now) (seen c.loop-head.seat) (seen c.raise.new.seat) c.loop-head.invariant.unchanged c.raise.ensures.unchanged

pub returns-clause-risen : goal.returns-clause-risen
returns-clause-risen c = c.loop-head.invariant.risen ∙ (let le = c.loop-head.auto.head-end in let ge = c.loop-head-test.false in omega arith)
