use Rattle.std.proofs.Common.{◌<◌, length, map, sym, subst, ◌∙◌, arith}
use Rattle.std.proofs.lemmas.List.{at_drop_all}
use Rattle.pl_model.specs.Checks.{first_error}
use Rattle.world_builtins.specs.Spelling.{reads}
use Rattle.shared_builtins.specs.Checks.{check_error}
use Rattle.shared_builtins.specs.Faults.{IsFaultIn}
use Rattle.shared_builtins.proofs.Checking.{check_failed, check_inside, check_passed, one_more_passed}
use Rattle.shared_builtins.proofs.checks.first_fault.Goals as goal

pub returns-then-not-is_met-clause-error : goal.returns-then-not-is_met-clause-error
returns-then-not-is_met-clause-error c m n held =
    let lt : c.loop-check.check-index < length c.args.checks.now = omega arith in
    c.loop-check.invariant.errors m n held
    ∙ check_failed m n c.args.store.now c.args.checks.now held c.loop-check.check-index _ c.fault_of.result lt (sym c.is_met.ensures ∙ c.if-not-is_met.true) c.fault_of.ensures

pub returns-then-not-is_met-clause-inside : goal.returns-then-not-is_met-clause-inside
returns-then-not-is_met-clause-inside c =
    let lt : c.loop-check.check-index < length c.args.checks.now = omega arith in
    let s = c.args.store.now in
    subst (IsFaultIn s) (sym c.fault_of.ensures) (check_inside s _ (c.requires c.loop-check.check-index _ lt))

pub loop-check-preserved : goal.loop-check-preserved
loop-check-preserved c =
    let lt : c.loop-check.check-index < length c.args.checks.now = omega arith in
    let s = c.args.store.now in
    let here = sym c.is_met.ensures ∙ c.if-not-is_met.false in
    record {
      errors = λ m n held. c.loop-check.invariant.errors m n held ∙ check_passed m n s c.args.checks.now held c.loop-check.check-index _ lt here;
      passed = one_more_passed s c.args.checks.now c.loop-check.check-index _ lt here c.loop-check.invariant.passed;
    }

pub returns-clause-error : goal.returns-clause-error
returns-clause-error c m n held =
    c.loop-check.invariant.errors m n held
    ∙ at_drop_all (λ xs. first_error (map (check_error (reads m c.args.store.now)) xs)) c.args.checks.now c.loop-check.check-index (omega arith)

pub returns-clause-passed : goal.returns-clause-passed
returns-clause-passed c = λ k d lt. c.loop-check.invariant.passed k d (omega arith)
