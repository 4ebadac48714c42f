use Rattle.std.proofs.Common.{◌≡◌, ◌+◌, [], ◌∷◌, IfSome, Option, codes, refl, sym, ap, subst, ◌∙◌, arith}
use Rattle.std.specs.List.{All}
use Rattle.std.specs.Option.{option_map}
use Rattle.std.proofs.lemmas.List.Elements.{All-cons, All-nil}
use Rattle.pl_model.specs.Checks.{bound_error, callable_error, first_error}
use Rattle.iso_search.specs.declared.search.Search.{Search}
use Rattle.iso_search.specs.Outcomes.{IsAfter}
use Rattle.iso_search.specs.Searching.{IsWhole}
use Rattle.shared_builtins.specs.declared.checks.Check.TheVariants.{Bound, Callable}
use Rattle.shared_builtins.specs.declared.faults.Fault.{Fault}
use Rattle.shared_builtins.specs.Checks.{IsCheckHeld}
use Rattle.shared_builtins.specs.Faults.{IsFaultHeld, IsFaultIn, fault_term}
use Rattle.shared_builtins.specs.Telling.{TellsAtoms}
use Rattle.iso_engine.proofs.ClearGoals.{clear_has, clear_held, clear_is, clear_refused, clear_spent}
use Rattle.iso_engine.proofs.OutputSteps.{read_held}
use Rattle.iso_engine.proofs.RaisedRows.{IsRaisedLed}
use Rattle.iso_engine.proofs.StateAsked.{after_counted, names_tell}
use Rattle.iso_engine.proofs.StateRows.{counted_again, counted_in, counted_whole}
use Rattle.iso_engine.proofs.state.clearing.clear_goal.Goals as goal

pub returns-then-search-most-clause-cleared : goal.returns-then-search-most-clause-cleared
returns-then-search-most-clause-cleared g c =
    (refl, clear_spent c.args.search.now c.args.goal c.args.head c.args.rest c.requires.goal (g.W.A.Atoms.held c.args.atoms.now) (omega (arith, c.if-search-most.true)))

pub refuse_goal-requires-clause-whole : goal.refuse_goal-requires-clause-whole
refuse_goal-requires-clause-whole g c =
    let e = c.args.search.now in
    let again : (let y : Search = record e { inferences = e.inferences + 1 } in y ≡ counted_in e) = counted_again e e.store (e.inferences + 1) refl (omega arith) in
    subst IsWhole (sym again) (counted_whole e c.requires.whole)

pub refuse_goal-requires-clause-goal : goal.refuse_goal-requires-clause-goal
refuse_goal-requires-clause-goal g c = c.requires.goal.holds

pub refuse_goal-requires-clause-fixed : goal.refuse_goal-requires-clause-fixed
refuse_goal-requires-clause-fixed g c = (codes "retractall", clear_is)

pub refuse_goal-requires-clause-procedure : goal.refuse_goal-requires-clause-procedure
refuse_goal-requires-clause-procedure g c = clear_has c.args.search.now.store c.args.goal c.args.head c.requires.goal

pub refuse_goal-requires-clause-fault : goal.refuse_goal-requires-clause-fault
refuse_goal-requires-clause-fault g c =
    subst (λ (o : Option Fault). IfSome o (IsFaultIn c.args.search.now.store)) c.in-Some.is c.first_fault.ensures.inside

pub refuse_goal-requires-clause-held : goal.refuse_goal-requires-clause-held
refuse_goal-requires-clause-held g c =
    let e = c.args.search.now in
    let a = c.args.atoms.now in
    let m = g.W.A.Atoms.held a in
    let w = c.args.head in
    let tells : TellsAtoms m = names_tell m (g.met.W.A.Atoms.fixed_held a) (g.met.W.A.Atoms.unlike a) (g.met.W.A.Atoms.finite a) in
    let held = clear_held m e.store c.args.goal w c.requires.goal c.requires.held in
    let P = IsCheckHeld m e.store in
    let all : All (IsCheckHeld m e.store) (Bound w ∷ (Callable w ∷ [])) = All-cons P (Bound w) (Callable w ∷ []) held (All-cons P (Callable w) [] held (All-nil P)) in
    let k = c.first_fault in
    (m, tells, c.requires.held, subst (λ (o : Option Fault). IfSome o (IsFaultHeld m e.store)) c.in-Some.is (k.ensures.held m all))

pub returns-in_ok-outcome-in-Some-clause-cleared : goal.returns-in_ok-outcome-in-Some-clause-cleared
returns-in_ok-outcome-in-Some-clause-cleared g c =
    let e = c.args.search.now in
    let a = c.args.atoms.now in
    let m = g.W.A.Atoms.held a in
    let w = c.args.head in
    let tells : TellsAtoms m = names_tell m (g.met.W.A.Atoms.fixed_held a) (g.met.W.A.Atoms.unlike a) (g.met.W.A.Atoms.finite a) in
    let held = clear_held m e.store c.args.goal w c.requires.goal c.requires.held in
    let P = IsCheckHeld m e.store in
    let all : All (IsCheckHeld m e.store) (Bound w ∷ (Callable w ∷ [])) = All-cons P (Bound w) (Callable w ∷ []) held (All-cons P (Callable w) [] held (All-nil P)) in
    let k = c.first_fault in
    let again : (let y : Search = record e { inferences = e.inferences + 1 } in y ≡ counted_in e) = counted_again e e.store (e.inferences + 1) refl (omega arith) in
    let o = c.in_ok-outcome-in-Some in
    let f = c.refuse_goal.new.search in
    let fault = c.in-Some.fault in
    let there = subst (λ (q : Option Fault). IfSome q (IsFaultHeld m e.store)) c.in-Some.is (k.ensures.held m all) in (
      refl,
      clear_refused e c.args.goal w c.args.rest c.requires.goal (omega (arith, c.if-search-most.false)) m (fault_term m e.store fault) f o.outcome
          (λ v view known. ap (λ x. first_error (bound_error x ∷ (callable_error x ∷ []))) (sym (read_held m v known e.store w held)) ∙ k.ensures.error m tells.naming all
          ∙ ap (option_map (fault_term m e.store)) c.in-Some.is)
          (λ r view known.
          subst (λ (y : Search). IsRaisedLed m y c.args.goal c.args.rest (fault_term m e.store fault) f o.outcome r) again (o.ensures.led m r tells c.requires.held there view known))
          (after_counted e f o.outcome (subst (λ (y : Search). IsAfter y f o.outcome) again o.ensures.after)),
    )

pub ask_for_clauses-requires-clause-allowed : goal.ask_for_clauses-requires-clause-allowed
ask_for_clauses-requires-clause-allowed g c v view known =
    let e = c.args.search.now in
    let a = c.args.atoms.now in
    let m = g.W.A.Atoms.held a in
    let w = c.args.head in
    let tells : TellsAtoms m = names_tell m (g.met.W.A.Atoms.fixed_held a) (g.met.W.A.Atoms.unlike a) (g.met.W.A.Atoms.finite a) in
    let held = clear_held m e.store c.args.goal w c.requires.goal c.requires.held in
    let P = IsCheckHeld m e.store in
    let all : All (IsCheckHeld m e.store) (Bound w ∷ (Callable w ∷ [])) = All-cons P (Bound w) (Callable w ∷ []) held (All-cons P (Callable w) [] held (All-nil P)) in
    let k = c.first_fault in
    ap (λ x. first_error (bound_error x ∷ (callable_error x ∷ []))) (sym (read_held m v known e.store w held)) ∙ k.ensures.error m tells.naming all
    ∙ ap (option_map (fault_term m e.store)) c.in-None.is
