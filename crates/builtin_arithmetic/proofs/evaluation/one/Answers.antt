use Rattle.std.proofs.Common.{◌≡◌, of_z, to_z, w64, sym, ap, subst, ◌∙◌, rules}
use Rattle.std.proofs.lemmas.Int.{to_z-of_z}
use Rattle.pl_model.specs.Evaluables.{applied1}
use Rattle.builtin_arithmetic.specs.declared.steps.Step.TheVariants.{One}
use Rattle.builtin_arithmetic.specs.Steps.{Leads}
use Rattle.builtin_arithmetic.proofs.Stepping.{one_made}
use Rattle.builtin_arithmetic.proofs.evaluation.one.Goals as goal

pub returns-in-Some-clause-leads : goal.returns-in-Some-clause-leads
returns-in-Some-clause-leads c =
    let s = c.args.store.now in
    let ps = c.args.stack.now.items in
    let same : to_z w64 (of_z w64 c.in-Some.x) ≡ c.in-Some.x = search (rules, to_z-of_z) in
    subst (λ k. Leads s ps (One c.args.op c.args.argument) ps k) (sym c.step_of.ensures)
    (one_made s ps c.args.op c.args.argument c.in-Some.x c.apply1.result c.in-Some.ensures (c.apply1.ensures ∙ ap (applied1 c.args.op) same))
