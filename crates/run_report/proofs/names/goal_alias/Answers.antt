use Rattle.std.proofs.Common.{ap, ◌∙◌}
use Rattle.std.specs.Str.{chars}
use Rattle.std.proofs.lemmas.Result.{IfOk-weaker}
use Rattle.run_report.proofs.NameLaws.{alias_text}
use Rattle.run_report.proofs.names.goal_alias.Goals as goal

pub returns : goal.returns
returns c = IfOk-weaker c.from_str.result _ _ (λ t is. is ∙ ap chars (c.as_str.ensures.value ∙ c.in_ok-alias.ensures.ok) ∙ alias_text c.args.number c.ranges.number.fits) c.from_str.ensures
