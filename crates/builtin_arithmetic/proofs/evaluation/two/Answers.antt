use Rattle.std.proofs.Common.{◌≡◌, of_z, to_z, w64, [], ◌∷◌, ◌++◌, subst, rules, IfOk}
use Rattle.std.proofs.lemmas.Int.{to_z-of_z}
use Rattle.builtin_arithmetic.specs.declared.steps.Pending.TheVariants.{Left}
use Rattle.builtin_arithmetic.specs.declared.steps.Step.TheVariants.{Is}
use Rattle.builtin_arithmetic.specs.Steps.{Leads}
use Rattle.builtin_arithmetic.proofs.Stepping.{from_left}
use Rattle.builtin_arithmetic.proofs.evaluation.two.Goals as goal

pub returns-in-Some-clause-leads : goal.returns-in-Some-clause-leads
returns-in-Some-clause-leads c =
    let s = c.args.store.now in
    let ps = c.args.stack.now.items in
    let same : to_z w64 (of_z w64 c.in-Some.x) ≡ c.in-Some.x = search (rules, to_z-of_z) in
    from_left s ps c.with_left.new.stack.items c.args.op c.args.left c.args.right c.in-Some.x c.in-Some.ensures c.with_left.result
    (subst (λ z. IfOk c.with_left.result (Leads s (ps ++ Left c.args.op c.args.right ∷ []) (Is z) c.with_left.new.stack.items)) same c.with_left.ensures.leads)
