use Rattle.std.proofs.Common.{subst}
use Rattle.builtin_rows.specs.Laws.{TellsRows, TellsShared}
use Rattle.iso_engine.proofs.call.direct.own_predicate.Goals as goal

pub returns-in-None-clause-rows : goal.returns-in-None-clause-rows
returns-in-None-clause-rows c = subst (TellsRows c.args.name c.args.arity) c.in-None.is c.predicate_of.ensures.rows

pub returns-in-None-clause-shares : goal.returns-in-None-clause-shares
returns-in-None-clause-shares c = subst (TellsShared c.args.name c.args.arity) c.in-None.is c.predicate_of.ensures.shares
