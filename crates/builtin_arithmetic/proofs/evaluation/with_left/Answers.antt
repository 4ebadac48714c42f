use Rattle.std.proofs.Common.{◌≡◌, of_z, to_z, w64, [], ◌∷◌, ◌++◌, sym, ap, ap₂, subst, ◌∙◌, rules}
use Rattle.std.proofs.lemmas.Int.{to_z-of_z}
use Rattle.pl_model.specs.Evaluables.{applied2}
use Rattle.builtin_arithmetic.specs.declared.steps.Pending.TheVariants.{Left, Right}
use Rattle.builtin_arithmetic.specs.declared.steps.Step.TheVariants.{Is}
use Rattle.builtin_arithmetic.specs.Steps.{Leads}
use Rattle.builtin_arithmetic.proofs.Stepping.{right_later, right_made}
use Rattle.builtin_arithmetic.proofs.evaluation.with_left.Goals as goal

pub returns-in-Some-clause-leads : goal.returns-in-Some-clause-leads
returns-in-Some-clause-leads c =
    let s = c.args.store.now in
    let ps = c.args.stack.now.items in
    let same : to_z w64 (of_z w64 c.args.x) ≡ c.args.x = to_z-of_z w64 c.args.x c.ranges.x in
    let same_too : to_z w64 (of_z w64 c.in-Some.y) ≡ c.in-Some.y = search (rules, to_z-of_z) in
    subst (λ k. Leads s (ps ++ Left c.args.op c.args.right ∷ []) (Is c.args.x) ps k) (sym c.step_of.ensures)
    (right_made s ps c.args.op c.args.x c.args.right c.in-Some.y c.apply2.result c.in-Some.ensures
    (c.apply2.ensures ∙ ap₂ (applied2 c.args.op) same same_too))

pub returns-in_ok-push-in-None-clause-leads : goal.returns-in_ok-push-in-None-clause-leads
returns-in_ok-push-in-None-clause-leads c =
    let ps = c.args.stack.now.items in
    let same : to_z w64 (of_z w64 c.args.x) ≡ c.args.x = to_z-of_z w64 c.args.x c.ranges.x in
    right_later c.args.store.now ps c.push.new.self.items c.args.op c.args.x c.args.right
    (c.in_ok-push-in-None.ensures.ok ∙ ap (λ z. ps ++ Right c.args.op z ∷ []) same)
