use Rattle.std.proofs.Common.{ap, sym, ◌∙◌}
use Rattle.pl_consult.specs.Checks.{checked_of}
use Rattle.pl_consult.proofs.ConsultLemmas.{clause_refused}
use Rattle.pl_model.specs.BodyChecks.{clause_of_term}
use Rattle.pl_consult.proofs.consult.Consult.take_clause.Goals as goal

pub returns-in_ok-refuse-in-Refused-clause-took : goal.returns-in_ok-refuse-in-Refused-clause-took
returns-in_ok-refuse-in-Refused-clause-took c job x next s at =
    clause_refused c.args.self.now job x _ c.args.start next c.args.ops.now c.in-Refused.error (clause_of_term c.args.term.now) at (ap checked_of (sym c.in-Refused.is) ∙ c.in_ok-checked.ensures.checked) (c.in_ok-refuse-in-Refused.ensures job x next s)
