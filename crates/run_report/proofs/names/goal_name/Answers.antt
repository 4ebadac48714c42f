use Rattle.std.proofs.Common.{◌∙◌}
use Rattle.std.specs.Str.{chars}
use Rattle.std.proofs.lemmas.Result.{IfOk-weaker}
use Rattle.run_report.proofs.NameLaws.{main_name, other_name}
use Rattle.run_report.proofs.names.goal_name.Goals as goal

pub returns-then-number-eq1 : goal.returns-then-number-eq1
unfolding chars
returns-then-number-eq1 c = IfOk-weaker c.from_str.result _ _ (λ t is. is ∙ main_name c.args.number c.if-number-eq1.true) c.from_str.ensures

pub returns : goal.returns
returns c = IfOk-weaker c.goal_alias.result _ _ (λ t is. is ∙ other_name c.args.number c.if-number-eq1.false) c.goal_alias.ensures
