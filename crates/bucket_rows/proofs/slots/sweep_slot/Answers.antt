use Rattle.std.proofs.Common.{ℕ, ◌+◌, ◌≤◌, [], ◌∷◌, subst, arith}
use Rattle.atom_words.specs.Layout.{last}
use Rattle.atom_words.specs.Seats.{seen}
use Rattle.atom_words.specs.declared.kind.Kind.TheVariants.{PassOver}
use Rattle.bucket_rows.specs.declared.slots.Verdict.{Verdict}
use Rattle.bucket_rows.specs.Sweeps.{JudgedBy}
use Rattle.bucket_rows.proofs.Removing.{then_steps}
use Rattle.bucket_rows.proofs.Judging.{passed_at, swept_kept}
use Rattle.bucket_rows.proofs.Fewness.{few_most}
use Rattle.bucket_rows.proofs.slots.sweep_slot.Goals as goal

pub returns-in-Passed-clause-steps : goal.returns-in-Passed-clause-steps
returns-in-Passed-clause-steps c = let e = c.pass_kept.ensures.steps in
    swept_kept c.args.slot c.in-Passed.word c.pass_kept.result e.0 c.args.words.now.size (seen c.args.seat.now) (seen c.judge-verdict.new.seat) (seen c.pass_kept.new.seat) c.requires.fits.1
    (subst (λ (r : Verdict). JudgedBy c.args.slot (seen c.args.seat.now) r (seen c.judge-verdict.new.seat)) c.in-Passed.is c.judge-verdict.ensures.steps) e.1

pub returns-clause-steps : goal.returns-clause-steps
returns-clause-steps c = let e = c.judge-verdict.ensures.steps in let x : ℕ = c.pass.result in
    (e.0, x, then_steps (seen c.args.seat.now) (seen c.judge-verdict.new.seat) (seen c.pass.new.seat) e.0 (PassOver x ∷ []) e.1 c.pass.ensures.steps, e.2, e.3, few_most (seen c.args.seat.now).size.slots 40 (last + 1) 41 (last + 1) e.0 e.4 (omega arith) (omega arith))

pub returns-clause-at : goal.returns-clause-at
returns-clause-at c = passed_at c.args.slot c.pass.result (seen c.judge-verdict.new.seat) (seen c.pass.new.seat) c.judge-verdict.ensures.at c.pass.ensures.steps
