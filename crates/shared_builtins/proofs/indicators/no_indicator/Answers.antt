use Rattle.std.proofs.Common.{codes, sym, ◌∙◌}
use Rattle.shared_builtins.proofs.Checking.{is_fixed_name}
use Rattle.shared_builtins.proofs.FixedNames.{predicate_indicator_is, type_error_is}
use Rattle.shared_builtins.proofs.Indicating.{other_indicator, unbound_indicator}
use Rattle.shared_builtins.proofs.indicators.no_indicator.Goals as goal

pub returns-then-passes-clause-error : goal.returns-then-passes-clause-error
returns-then-passes-clause-error c m e = unbound_indicator m c.args.store.now c.args.place (sym c.passes.ensures ∙ c.if-passes.true) e

pub returns-else-passes-clause-error : goal.returns-else-passes-clause-error
returns-else-passes-clause-error c m e = other_indicator m c.args.store.now c.args.place (sym c.passes.ensures ∙ c.if-passes.false) e

pub returns-else-passes-clause-inside : goal.returns-else-passes-clause-inside
returns-else-passes-clause-inside c =
    (is_fixed_name 177 (codes "type_error") type_error_is, (is_fixed_name 143 (codes "predicate_indicator") predicate_indicator_is, c.requires))
