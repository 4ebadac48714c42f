use Rattle.std.proofs.Common.{ap, ◌∙◌}
use Rattle.std.specs.Str.{chars}
use Rattle.std.proofs.lemmas.Result.{IfOk-weaker}
use Rattle.iso_engine.proofs.GoalNames.{goal_text}
use Rattle.iso_engine.proofs.state.leaving.alias_of_goal.Goals as goal

pub returns : goal.returns
returns c = IfOk-weaker c.from_str.result _ _ (λ t is. is ∙ ap chars (c.as_str.ensures.value ∙ c.in_ok-alias.ensures.ok) ∙ goal_text c.args.number c.ranges.number.fits) c.from_str.ensures
