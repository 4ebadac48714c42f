use Rattle.std.proofs.Common.{sym, ◌∙◌}
use Rattle.pl_report.proofs.BindingLemmas.{hidden_goes, shown_goes}
use Rattle.pl_report.proofs.solutions.put_name.Goals as goal

pub returns-then-not-is_shown : goal.returns-then-not-is_shown
returns-then-not-is_shown c t ops ts ns number h =
    hidden_goes t ops ts ns c.args.some (c.args.name.now, number) (sym c.is_shown.ensures ∙ c.if-not-is_shown.true) h

pub returns : goal.returns
returns c t ops ts ns number h =
    shown_goes t ops ts ns c.args.some (c.args.name.now, number) (sym c.is_shown.ensures ∙ c.if-not-is_shown.false) h c.in_ok-put_comma.ensures c.in_ok-put_equals.ensures
