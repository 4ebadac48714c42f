use Rattle.std.proofs.Common.{◌≡◌, ◌++◌, ◌∷◌, [], refl, sym, ap, subst, ◌∙◌}
use Rattle.std.specs.List.{All}
use Rattle.std.proofs.lemmas.List.Elements.{All-cons, All-nil, All-pop}
use Rattle.pl_model.specs.BodyChecks.{converted}
use Rattle.term_store.specs.Contents.{Holds}
use Rattle.term_store.proofs.Occurring.{popped}
use Rattle.iso_search.specs.declared.bodies.Step.TheVariants.{Visit}
use Rattle.iso_search.specs.Conversions.{Converts, IsStepIn}
use Rattle.iso_search.specs.Reading.{reads}
use Rattle.iso_search.proofs.Converting.{at_first, grows_again, grows_none, taken_off}
use Rattle.iso_search.proofs.bodies.converted_at.Goals as goal

pub loop-init : goal.loop-init
loop-init c =
    let s = c.args.store.now in
    let only : c.push.new.self.items ≡ Visit c.args.body ∷ [] = c.in_ok-push.ensures.items ∙ ap (λ l. l ++ Visit c.args.body ∷ []) c.new-steps.ensures.items in
    record {
      steps = subst (All (IsStepIn s)) (sym only) (All-cons (IsStepIn s) (Visit c.args.body) [] c.requires (All-nil (IsStepIn s)));
      goals = subst (All (Holds s)) (sym c.new-goals.ensures.items) (All-nil (Holds s));
      grows = grows_none s s refl;
      same = λ v view. at_first v s c.args.body c.push.new.self.items c.new-goals.result.items only c.new-goals.ensures.items;
    }

pub returns-in_default-clause-inside : goal.returns-in_default-clause-inside
returns-in_default-clause-inside c =
    (All-pop (Holds c.loop.store) c.loop.goals.items c.pop-in_default.new.self.items c.pop-in_default.result c.pop-in_default.ensures.items c.loop.invariant.goals).1

pub take_step-requires-clause-step : goal.take_step-requires-clause-step
take_step-requires-clause-step c =
    (popped (IsStepIn c.loop.store) c.loop.steps.items c.pop.new.self.items c.in-Some.step c.in-Some.ensures.items c.loop.invariant.steps).1

pub returns-in_err-callable-clause-grows : goal.returns-in_err-callable-clause-grows
returns-in_err-callable-clause-grows c =
    grows_again c.args.store.now c.loop.store c.take_step.new.store c.loop.invariant.grows c.take_step.ensures.grows

pub returns-then-not-callable-clause-grows : goal.returns-then-not-callable-clause-grows
returns-then-not-callable-clause-grows c =
    grows_again c.args.store.now c.loop.store c.take_step.new.store c.loop.invariant.grows c.take_step.ensures.grows

pub returns-then-not-callable-clause-converted : goal.returns-then-not-callable-clause-converted
returns-then-not-callable-clause-converted c v view =
    let s = c.loop.store in
    let t = c.take_step.new.store in
    let never =
    subst (λ b. Converts b v s c.in-Some.step c.pop.new.self.items c.loop.goals.items t c.take_step.new.steps.items c.take_step.new.goals.items)
    c.if-not-callable.true (c.in_ok-callable.ensures.converts v view) in
    sym (taken_off v s (converted (reads v c.args.store.now c.args.body)) c.in-Some.step c.loop.steps.items c.pop.new.self.items c.loop.goals.items
    c.in-Some.ensures.items (c.loop.invariant.same v view))
    ∙ never

pub loop-preserved : goal.loop-preserved
loop-preserved c =
    let s = c.loop.store in
    let t = c.take_step.new.store in
    record {
      steps = c.in_ok-callable.ensures.steps;
      goals = c.in_ok-callable.ensures.goals;
      grows = grows_again c.args.store.now s t c.loop.invariant.grows c.take_step.ensures.grows;
      same = λ v view.
          subst (λ b. Converts b v s c.in-Some.step c.pop.new.self.items c.loop.goals.items t c.take_step.new.steps.items c.take_step.new.goals.items)
          c.if-not-callable.false (c.in_ok-callable.ensures.converts v view)
          ∙ taken_off v s (converted (reads v c.args.store.now c.args.body)) c.in-Some.step c.loop.steps.items c.pop.new.self.items c.loop.goals.items
          c.in-Some.ensures.items (c.loop.invariant.same v view);
    }
