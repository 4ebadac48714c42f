use Rattle.std.proofs.Common.{Some, sym, ap, ◌∙◌}
use Rattle.pl_model.specs.Flags.{unknown_text}
use Rattle.clause_db.specs.Flags.{unknown_as}
use Rattle.hub_database.proofs.FlagRows.{error_fixed, fail_fixed}
use Rattle.hub_database.proofs.flags.unknown_atom.Goals as goal

pub returns-in-Raises : goal.returns-in-Raises
returns-in-Raises c = error_fixed ∙ ap (λ u. Some (unknown_text (unknown_as u))) (sym c.in-Raises.is)

pub returns-in-Fails : goal.returns-in-Fails
returns-in-Fails c = fail_fixed ∙ ap (λ u. Some (unknown_text (unknown_as u))) (sym c.in-Fails.is)
