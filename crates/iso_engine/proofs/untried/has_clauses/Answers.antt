use Rattle.std.proofs.Common.{◌-◌, length, sym, ap, ◌∙◌, arith}
use Rattle.iso_engine.specs.Newest.{are_clauses}
use Rattle.iso_engine.proofs.NewestLaws.{newest_alternative, no_clauses, none_newest}
use Rattle.iso_engine.proofs.untried.has_clauses.Goals as goal

pub returns-then-n-eq0 : goal.returns-then-n-eq0
returns-then-n-eq0 c = none_newest c.args.choices.now (omega arith)

pub returns-in-Clauses : goal.returns-in-Clauses
returns-in-Clauses c =
    sym (ap are_clauses c.in-Clauses.is) ∙ newest_alternative c.args.choices.now (length c.args.choices.now - 1) _ (omega (arith, c.if-n-eq0.false))

pub returns-in_default : goal.returns-in_default
returns-in_default c =
    no_clauses _ c.in_default.not-Clauses ∙ newest_alternative c.args.choices.now (length c.args.choices.now - 1) _ (omega (arith, c.if-n-eq0.false))
