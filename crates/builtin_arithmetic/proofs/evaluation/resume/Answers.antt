use Rattle.std.proofs.Common.{◌≡◌, of_z, to_z, w64, [], ◌∷◌, ◌++◌, sym, ap, ap₂, subst, ◌∙◌, rules}
use Rattle.std.proofs.lemmas.Int.{to_z-of_z}
use Rattle.pl_model.specs.Evaluables.{applied1, applied2}
use Rattle.builtin_arithmetic.specs.declared.steps.Step.TheVariants.{Is}
use Rattle.builtin_arithmetic.specs.Steps.{Leads}
use Rattle.builtin_arithmetic.proofs.Stepping.{one_resumed, right_resumed}
use Rattle.builtin_arithmetic.proofs.evaluation.resume.Goals as goal

pub returns-in-One-clause-leads : goal.returns-in-One-clause-leads
returns-in-One-clause-leads c =
    let s = c.args.store.now in
    let ps = c.pop.new.self.items in
    let same : to_z w64 (of_z w64 c.args.x) ≡ c.args.x = to_z-of_z w64 c.args.x c.ranges.x in
    subst (λ k. Leads s c.args.stack.now.items (Is c.args.x) ps k) (sym c.step_of.ensures)
    (one_resumed s ps c.args.stack.now.items c.in-One.op c.args.x c.apply1.result (c.in-Some.ensures.items ∙ ap (λ p. ps ++ p ∷ []) c.in-One.is)
    (c.apply1.ensures ∙ ap (applied1 c.in-One.op) same))

pub returns-in-Right-clause-leads : goal.returns-in-Right-clause-leads
returns-in-Right-clause-leads c =
    let s = c.args.store.now in
    let ps = c.pop.new.self.items in
    let same : to_z w64 (of_z w64 c.args.x) ≡ c.args.x = to_z-of_z w64 c.args.x c.ranges.x in
    let same_too : to_z w64 (of_z w64 c.in-Right.left) ≡ c.in-Right.left = search (rules, to_z-of_z) in
    subst (λ k. Leads s c.args.stack.now.items (Is c.args.x) ps k) (sym c.step_of-in-Right.ensures)
    (right_resumed s ps c.args.stack.now.items c.in-Right.op c.in-Right.left c.args.x c.apply2.result
    (c.in-Some.ensures.items ∙ ap (λ p. ps ++ p ∷ []) c.in-Right.is) (c.apply2.ensures ∙ ap₂ (applied2 c.in-Right.op) same_too same))
