use Rattle.std.proofs.Common.{codes, sym, ◌∙◌}
use Rattle.shared_builtins.proofs.Checking.{is_fixed_name}
use Rattle.shared_builtins.proofs.FixedNames.{domain_error_is, thread_option_is}
use Rattle.shared_builtins.proofs.Opting.{alias_option, detached_option, unknown_option}
use Rattle.shared_builtins.proofs.options.named_option.Goals as goal

pub returns-then-eq-clause-option : goal.returns-then-eq-clause-option
returns-then-eq-clause-option c m n one o =
    alias_option m n c.args.store.now c.args.place c.args.value c.args.name o one.0 one.1.0 (sym c.eq.ensures ∙ c.if-eq.true) ∙ c.alias_at.ensures.option m n o

pub returns-then-eq-clause-held : goal.returns-then-eq-clause-held
returns-then-eq-clause-held c m n held one = c.alias_at.ensures.held m one.1.1

pub returns-then-is_plain-clause-option : goal.returns-then-is_plain-clause-option
returns-then-is_plain-clause-option c m n one o =
    detached_option m n c.args.store.now c.args.place c.args.value c.args.name o one.0 one.1.0 (sym c.eq.ensures ∙ c.if-eq.false)
    (sym (c.is_plain.ensures m n one.1.1) ∙ c.if-is_plain.true)

pub returns-clause-option : goal.returns-clause-option
returns-clause-option c m n one o =
    unknown_option m n c.args.store.now c.args.place c.args.value c.args.name o one.0 one.1.0 (sym c.eq.ensures ∙ c.if-eq.false)
    (sym (c.is_plain.ensures m n one.1.1) ∙ c.if-is_plain.false)

pub returns-clause-inside : goal.returns-clause-inside
returns-clause-inside c =
    (is_fixed_name 77 (codes "domain_error") domain_error_is, (is_fixed_name 169 (codes "thread_option") thread_option_is, c.requires.place))
