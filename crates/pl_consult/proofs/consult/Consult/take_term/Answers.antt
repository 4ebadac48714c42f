use Rattle.std.proofs.Common.{sym, refl, ◌∙◌}
use Rattle.pl_consult.specs.declared.consult.Place.TheVariants.{Item}
use Rattle.pl_consult.proofs.ConsultLemmas.{moved}
use Rattle.pl_consult.proofs.consult.Consult.take_term.Goals as goal

pub returns-in-None-clause-took : goal.returns-in-None-clause-took
returns-in-None-clause-took c job x s =
    rw (sym c.in_ok-directive_of.ensures ∙ c.in-None.is)
    (c.take_clause.ensures.took job x c.args.next (moved (Item c.args.next) s) refl)
