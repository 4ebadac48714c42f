use Rattle.std.proofs.Common.{[], sym, subst}
use Rattle.std.specs.List.{All}
use Rattle.std.proofs.lemmas.List.Elements.{All-nil}
use Rattle.builtin_arithmetic.specs.declared.steps.Step.TheVariants.{Visit}
use Rattle.builtin_arithmetic.specs.Steps.{IsPendingHeld, IsPendingIn, Leads}
use Rattle.builtin_arithmetic.proofs.Stepping.{leads_nowhere, leads_on}
use Rattle.builtin_arithmetic.proofs.evaluation.value_at.Goals as goal

pub loop-init : goal.loop-init
loop-init c =
    let s = c.args.store.now in
    let none = c.new-stack.ensures.items in
    record {
      inside = c.requires;
      stack = subst (All (IsPendingIn s)) (sym none) (All-nil (IsPendingIn s));
      leads = leads_nowhere s [] c.new-stack.result.items (Visit c.args.place) none;
    }

pub returns-in-Ended-clause-value : goal.returns-in-Ended-clause-value
returns-in-Ended-clause-value c m texts =
    let l = subst (λ k. Leads c.args.store.now [] (Visit c.args.place) c.loop.stack.items k) c.in-Ended.is c.loop.invariant.leads in l.means m texts

pub returns-in-Ended-clause-held : goal.returns-in-Ended-clause-held
returns-in-Ended-clause-held c m held =
    let s = c.args.store.now in
    let l = subst (λ k. Leads s [] (Visit c.args.place) c.loop.stack.items k) c.in-Ended.is c.loop.invariant.leads in
    let all = l.held m (record { stack = All-nil (IsPendingHeld m s); step = held }) in all.step

pub advance-requires : goal.advance-requires
advance-requires c = record { step = c.loop.invariant.inside; stack = c.loop.invariant.stack }

pub loop-preserved : goal.loop-preserved
loop-preserved c =
    record {
      inside = c.in_ok-step.ensures.inside;
      stack = c.in_ok-step.ensures.stack;
      leads =
          leads_on c.args.store.now [] c.loop.stack.items c.advance.new.stack.items (Visit c.args.place) c.loop.step c.in_ok-step.step
          c.loop.invariant.leads c.in_ok-step.ensures.leads;
    }
