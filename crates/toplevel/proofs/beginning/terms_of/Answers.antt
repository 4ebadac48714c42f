use Rattle.std.proofs.Common.{length, sym, ap, ◌∙◌}
use Rattle.pl_model.specs.Resolution.{Limits as LimitsOf}
use Rattle.run_model.specs.Lawful.{Program}
use Rattle.toplevel.proofs.BeginLaws.{budgets_told}
use Rattle.toplevel.proofs.beginning.terms_of.Goals as goal

pub returns : goal.returns
returns c p is =
    let limits = ap (λ (q : Program). q.limits) is in
    record {
      budgets = budgets_told p c.args.command.now.limits c.budgets_of.result limits c.budgets_of.ensures;
      solutions = ap (λ (x : LimitsOf). x.solutions) limits;
      goals = ap (λ (q : Program). length q.words) is ∙ sym (c.len.ensures ∙ c.args.command.now.goals.ok.0);
      slots = ap (λ (q : Program). q.slots) is ∙ sym c.from.ensures;
    }
