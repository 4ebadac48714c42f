use Rattle.std.proofs.Common.{◌∙◌}
use Rattle.pl_model.proofs.SystemRows.{rows_tell}
use Rattle.pl_model.proofs.system.is_system.Goals as goal

pub returns : goal.returns
returns c = c.is_among.ensures ∙ rows_tell c.args.name.now c.args.arity
