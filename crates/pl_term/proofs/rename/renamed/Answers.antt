use Rattle.std.proofs.Common.{◌≡◌, ◌<◌, ◌+◌, ◌^◌, length, ap, subst, ◌∙◌, arith}
use Rattle.pl_term.specs.Variables.{place}
use Rattle.pl_term.specs.NodeLists.{with, met_with}
use Rattle.pl_term.proofs.Places.{place-with}
use Rattle.pl_term.proofs.rename.renamed.Goals as goal

pub overflow_add-result : goal.overflow_add-result
overflow_add-result c =
    let here : c.in_ok-number-in-Var.field-0 ≡ place c.in-Var.x (with c.in-Var.x c.args.met.now) =
    c.in_ok-number-in-Var.ensures.number ∙ ap (place c.in-Var.x) c.in_ok-number-in-Var.ensures.met in
    let room : c.args.from + length (with c.in-Var.x c.args.met.now) < 2 ^ 64 = subst (λ n. c.args.from + length (met_with n c.args.met.now) < 2 ^ 64) c.in-Var.is c.requires in
    omega (arith, place-with c.in-Var.x c.args.met.now)
