use Rattle.std.proofs.Common.{codes, sym, ◌∙◌}
use Rattle.shared_builtins.proofs.Checking.{is_fixed_name}
use Rattle.shared_builtins.proofs.FixedNames.{domain_error_is, thread_option_is}
use Rattle.shared_builtins.proofs.Opting.{other_option, unbound_option}
use Rattle.shared_builtins.proofs.options.no_option.Goals as goal

pub returns-then-passes-clause-error : goal.returns-then-passes-clause-error
returns-then-passes-clause-error c m e o = unbound_option m c.args.store.now c.args.place o (sym c.passes.ensures ∙ c.if-passes.true) e

pub returns-else-passes-clause-error : goal.returns-else-passes-clause-error
returns-else-passes-clause-error c m e o = other_option m c.args.store.now c.args.place o (sym c.passes.ensures ∙ c.if-passes.false) e

pub returns-else-passes-clause-inside : goal.returns-else-passes-clause-inside
returns-else-passes-clause-inside c =
    (is_fixed_name 77 (codes "domain_error") domain_error_is, (is_fixed_name 169 (codes "thread_option") thread_option_is, c.requires))
