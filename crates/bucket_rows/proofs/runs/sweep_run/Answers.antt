use Rattle.std.proofs.Common.{◌≡◌, ◌+◌, ◌∷◌, [], ◌++◌, ℕ, List, length, refl, sym, ◌∙◌, subst, arith, length-append}
use Rattle.atom_words.specs.Seats.{seen}
use Rattle.bucket_rows.specs.declared.slots.Verdict.{Verdict}
use Rattle.bucket_rows.specs.Treads.{AtSlot}
use Rattle.bucket_rows.specs.Sweeps.{SweptBy, left_valid, all_left_valid}
use Rattle.bucket_rows.proofs.Judging.{run_more}
use Rattle.bucket_rows.proofs.SweepKinds.{untouched_run}
use Rattle.bucket_rows.proofs.runs.sweep_run.Goals as goal

-- one slot more
left_more : (rs : List Verdict) (r : Verdict) → all_left_valid (rs ++ r ∷ []) ≡ all_left_valid rs + left_valid r
left_more [] r = omega arith
left_more (q ∷ rs) r = let rest = left_more rs r in omega arith

pub loop-slot-init : goal.loop-slot-init
loop-slot-init c = record { same = (refl, refl); fits = c.requires.fits; steps = ([], omega arith, refl, refl); at = c.requires.at; few = omega arith }

pub loop-slot-preserved : goal.loop-slot-preserved
loop-slot-preserved c = let inv = c.loop-slot.invariant in let e = c.sweep_slot.ensures in let rs = inv.steps.0 in let r : Verdict = c.sweep_slot.result in let count : c.args.from + length rs ≡ c.loop-slot.slot = inv.steps.1 in let one = length-append rs (r ∷ []) in record {
  same = (e.same.0 ∙ inv.same.0, e.same.1 ∙ inv.same.1);
  fits = e.fits;
  steps = (
    rs ++ r ∷ [],
    omega arith,
    run_more c.args.from rs r (seen c.args.seat.now) (seen c.loop-slot.seat) (seen c.sweep_slot.new.seat) inv.steps.2 (subst (λ (n : ℕ). SweptBy n (seen c.loop-slot.seat) r (seen c.sweep_slot.new.seat)) (sym count) e.steps),
    (let live = inv.steps.3 in let left = c.left_valid-live.ensures.valid in let more = left_more rs r in omega arith),
  );
  at = e.at;
  few = (let few = inv.few in let one = c.left_valid-live.ensures.few in omega (arith, few));
}

pub returns-clause-steps : goal.returns-clause-steps
returns-clause-steps c = let inv = c.loop-slot.invariant in let count = inv.steps.1 in let all : c.loop-slot.slot ≡ c.args.end = (let a = c.loop-slot-test.false in let b = c.loop-slot.auto.slot-end c.requires.slots.0 in omega arith) in (inv.steps.0, omega arith, inv.steps.2, inv.steps.3)

pub returns-clause-at : goal.returns-clause-at
returns-clause-at c = let all : c.loop-slot.slot ≡ c.args.end = (let a = c.loop-slot-test.false in let b = c.loop-slot.auto.slot-end c.requires.slots.0 in omega arith) in subst (λ (n : ℕ). AtSlot n (seen c.loop-slot.seat)) all c.loop-slot.invariant.at

pub returns-clause-untouched : goal.returns-clause-untouched
returns-clause-untouched c = let inv = c.loop-slot.invariant in untouched_run c.args.from inv.steps.0 (seen c.args.seat.now) (seen c.loop-slot.seat) inv.steps.2
