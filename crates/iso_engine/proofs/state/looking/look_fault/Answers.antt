use Rattle.std.proofs.Common.{[], ◌∷◌, sym, ap, ap₂, subst, ◌∙◌}
use Rattle.std.specs.List.{All}
use Rattle.std.proofs.lemmas.List.Elements.{All-cons, All-nil}
use Rattle.pl_model.specs.BodyChecks.{clause_of_term}
use Rattle.pl_model.specs.Checks.{bound_error, callable_error, first_error}
use Rattle.pl_model.specs.Control.{error_of}
use Rattle.shared_builtins.specs.declared.checks.Check.TheVariants.{Bound, Callable}
use Rattle.shared_builtins.specs.Checks.{IsCheckHeld}
use Rattle.iso_engine.specs.ClauseLooks.{IsLookHeld, look_error}
use Rattle.iso_engine.proofs.LookFaults.{retract_fault}
use Rattle.iso_engine.proofs.OutputSteps.{read_held}
use Rattle.iso_engine.proofs.state.looking.look_fault.Goals as goal

pub returns-in-Inspects-clause-fault : goal.returns-in-Inspects-clause-fault
returns-in-Inspects-clause-fault c m v tells view known there =
    let s = c.args.store.now in
    let held = subst (IsLookHeld m s) c.in-Inspects.is there in
    let h = c.in-Inspects.head in
    let b = c.in-Inspects.body in
    let P = IsCheckHeld m s in
    let all : All (IsCheckHeld m s) (Bound h ∷ (Callable h ∷ (Callable b ∷ []))) =
    All-cons P (Bound h) (Callable h ∷ (Callable b ∷ [])) held.0 (All-cons P (Callable h) (Callable b ∷ []) held.0 (All-cons P (Callable b) [] held.1 (All-nil P))) in (
      ap (look_error v s) c.in-Inspects.is ∙ ap₂ (λ x y. first_error (bound_error x ∷ (callable_error x ∷ (callable_error y ∷ [])))) (sym (read_held m v known s h held.0)) (sym (read_held m v known s b held.1))
          ∙ c.first_fault.ensures.error m tells.naming all,
      (c.first_fault.ensures.inside, c.first_fault.ensures.held m all),
    )

pub returns-in_ok-fault-in-Retracts-clause-fault : goal.returns-in_ok-fault-in-Retracts-clause-fault
returns-in_ok-fault-in-Retracts-clause-fault c m v tells view known there =
    let s = c.args.store.now in
    let held = subst (IsLookHeld m s) c.in-Retracts.is there in
    let t = c.in-Retracts.term in
    let f = c.in_ok-fault-in-Retracts in
    let told = retract_fault m s t f.fault (f.ensures.fault m tells held) in
    (ap (look_error v s) c.in-Retracts.is ∙ ap (λ x. error_of (clause_of_term x)) (sym (read_held m v known s t held)) ∙ told.0, told.1)
