use Rattle.std.proofs.Common.{◌≡◌, ◌+◌, ◌-◌, ◌<◌, ◌≤◌, [], ◌∷◌, ◌++◌, ℕ, suc, refl, sym, ap, ◌∙◌, subst, arith}
use Rattle.atom_words.specs.Board.{ack_at}
use Rattle.atom_words.specs.Kinds.{view_after, after}
use Rattle.atom_words.specs.Seats.{seen}
use Rattle.atom_words.specs.declared.size.Size.{Size}
use Rattle.atom_words.specs.declared.view.View.{View}
use Rattle.atom_words.specs.declared.kind.Kind.TheVariants.{Check, Load, ToSweep}
use Rattle.bucket_rows.specs.Cycles.{checks}
use Rattle.bucket_rows.proofs.Checks.{after_append, checks_keep, checks_more, known_at}
use Rattle.bucket_rows.proofs.cycles.check.Goals as goal

pub loop-engine-init : goal.loop-engine-init
loop-engine-init c = record { same = (refl, refl); past = omega arith; view = (let none : c.args.from - c.args.from ≡ 0 = omega arith in ap (λ (n : ℕ). after (seen c.args.seat.now) (checks c.args.from n)) (sym none)) }

pub check_engine-requires-clause-fits : goal.check_engine-requires-clause-fits
check_engine-requires-clause-fits c = let v : View = seen c.args.seat.now in let inv = c.loop-engine.invariant in let f = c.requires.fits in let n : ℕ = c.loop-engine.engine - c.args.from in
    (inv.same.0 ∙ f.0, ap (λ (y : View). y.size) inv.view ∙ (checks_keep (λ (y : View). y.size) (λ _ _. refl) v c.args.from n ∙ f.1), ap (λ (y : View). y.gone) inv.view ∙ (checks_keep (λ (y : View). y.gone) (λ _ _. refl) v c.args.from n ∙ f.2))

pub check_engine-requires-clause-marking : goal.check_engine-requires-clause-marking
check_engine-requires-clause-marking c = known_at (seen c.loop-engine.seat) (seen c.args.seat.now) c.args.from c.loop-engine.engine c.args.word c.loop-engine.invariant.past c.loop-engine.invariant.view c.requires.marking

pub loop-engine-preserved : goal.loop-engine-preserved
loop-engine-preserved c = let v : View = seen c.args.seat.now in let inv = c.loop-engine.invariant in let e : ℕ = c.loop-engine.engine in let from : ℕ = c.args.from in let past : from ≤ e = inv.past in let one : e + 1 - from ≡ suc (e - from) = omega arith in let at : from + (e - from) ≡ e = omega arith in record {
  same = (c.check_engine.ensures.same.0 ∙ inv.same.0, c.check_engine.ensures.same.1 ∙ inv.same.1);
  past = omega arith;
  view = c.in-Ok.ensures.steps ∙ ((λ i. view_after (inv.view i) (Check (sym at i))) ∙ (sym (checks_more v from (e - from)) ∙ ap (λ (n : ℕ). after v (checks from n)) (sym one)));
}

pub returns-in-Err-clause-same : goal.returns-in-Err-clause-same
returns-in-Err-clause-same c = let inv = c.loop-engine.invariant in (c.check_engine.ensures.same.0 ∙ inv.same.0, c.check_engine.ensures.same.1 ∙ inv.same.1)

pub returns-in-Err-clause-steps : goal.returns-in-Err-clause-steps
returns-in-Err-clause-steps c = let v : View = seen c.args.seat.now in let u : View = seen c.loop-engine.seat in let inv = c.loop-engine.invariant in let e : ℕ = c.loop-engine.engine in let from : ℕ = c.args.from in let n : ℕ = e - from in let x : ℕ = c.in-Err.seen in let told = c.in-Err.ensures.steps in
    let size : u.size ≡ v.size = ap (λ (y : View). y.size) inv.view ∙ checks_keep (λ (y : View). y.size) (λ _ _. refl) v from n in let low : e < c.args.words.now.size.engines = c.loop-engine-test.true in (
      e,
      inv.past,
      subst (λ (z : Size). e < z.engines) (sym c.requires.fits.1) low,
      refl,
      told.0,
      told.1 ∙ ((λ i. view_after (inv.view i) (Load (ack_at (size i) e) x)) ∙ sym (after_append v (checks from n) (Load (ack_at v.size e) x ∷ []))),
    )

pub to_sweep-requires-clause-fits : goal.to_sweep-requires-clause-fits
to_sweep-requires-clause-fits c = let v : View = seen c.args.seat.now in let inv = c.loop-engine.invariant in let f = c.requires.fits in let n : ℕ = c.loop-engine.engine - c.args.from in
    (inv.same.0 ∙ f.0, ap (λ (y : View). y.size) inv.view ∙ (checks_keep (λ (y : View). y.size) (λ _ _. refl) v c.args.from n ∙ f.1), ap (λ (y : View). y.gone) inv.view ∙ (checks_keep (λ (y : View). y.gone) (λ _ _. refl) v c.args.from n ∙ f.2))

pub to_sweep-requires-clause-marked : goal.to_sweep-requires-clause-marked
to_sweep-requires-clause-marked c = let e : ℕ = c.loop-engine.engine in let r = known_at (seen c.loop-engine.seat) (seen c.args.seat.now) c.args.from e c.args.word c.loop-engine.invariant.past c.loop-engine.invariant.view c.requires.marking in
    let all : e ≡ c.args.words.now.size.engines = (let le = c.loop-engine.auto.engine-end in let ge = c.loop-engine-test.false in omega arith) in (r.0, r.1, r.2, r.3, r.4 ∙ all)

pub returns-clause-same : goal.returns-clause-same
returns-clause-same c = let inv = c.loop-engine.invariant in (c.to_sweep.ensures.same.0 ∙ inv.same.0, c.to_sweep.ensures.same.1 ∙ inv.same.1)

pub returns-clause-steps : goal.returns-clause-steps
returns-clause-steps c = let v : View = seen c.args.seat.now in let inv = c.loop-engine.invariant in let e : ℕ = c.loop-engine.engine in let from : ℕ = c.args.from in let n : ℕ = e - from in
    let all : e ≡ v.size.engines = (let le = c.loop-engine.auto.engine-end in let ge = c.loop-engine-test.false in let here : e ≡ c.args.words.now.size.engines = omega arith in here) ∙ sym (ap (λ (z : Size). z.engines) c.requires.fits.1) in
    c.to_sweep.ensures.steps ∙ (ap (λ (y : View). view_after y ToSweep) inv.view ∙ (sym (after_append v (checks from n) (ToSweep ∷ [])) ∙ ap (λ (m : ℕ). after v (checks from (m - from) ++ ToSweep ∷ [])) all))
