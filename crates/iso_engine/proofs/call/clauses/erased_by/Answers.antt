use Rattle.iso_engine.proofs.Resolving.{not_erased}
use Rattle.iso_engine.proofs.call.clauses.erased_by.Goals as goal

pub returns-in_default : goal.returns-in_default
returns-in_default c = not_erased c.args.place c.args.outcome c.in_default.not-Run
