use Rattle.std.proofs.Common.{None, ap, subst, ◌∙◌}
use Rattle.builtin_rows.specs.Laws.{TellsRows, TellsShared}
use Rattle.term_store.specs.ArgumentKeys.{argument_key}
use Rattle.iso_engine.proofs.FreeNames.{named_as}
use Rattle.iso_engine.proofs.call.direct.compound_call.Goals as goal

pub returns-in-Some-clause-named : goal.returns-in-Some-clause-named
returns-in-Some-clause-named c = c.in-Some.ensures.named ∙ ap (named_as c.args.name) c.len.ensures

pub returns-in-Some-clause-key : goal.returns-in-Some-clause-key
returns-in-Some-clause-key c = c.argument_key_at-first.ensures ∙ ap argument_key c.argument-argument.ensures.stands

pub returns-in-Some-clause-rows : goal.returns-in-Some-clause-rows
returns-in-Some-clause-rows c = subst (λ k. TellsRows c.args.name k None) c.len.ensures c.in-Some.ensures.rows

pub returns-in-Some-clause-shares : goal.returns-in-Some-clause-shares
returns-in-Some-clause-shares c = subst (λ k. TellsShared c.args.name k None) c.len.ensures c.in-Some.ensures.shares
