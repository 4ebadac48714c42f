use Rattle.shared_builtins.proofs.options.option_at.Goals as goal

pub returns-in-Some-clause-option : goal.returns-in-Some-clause-option
returns-in-Some-clause-option c m n held o = c.named_option.ensures.option m n (c.in-Some.ensures.single m n held) o

pub returns-in-Some-clause-held : goal.returns-in-Some-clause-held
returns-in-Some-clause-held c m n held = c.named_option.ensures.held m n held (c.in-Some.ensures.single m n held)

pub returns-in-None-clause-option : goal.returns-in-None-clause-option
returns-in-None-clause-option c m n held o = c.no_option.ensures.error m (c.in-None.ensures.single m n held) o

pub returns-in-None-clause-held : goal.returns-in-None-clause-held
returns-in-None-clause-held c m n held = c.no_option.ensures.held m held
