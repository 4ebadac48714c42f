use Rattle.shared_builtins.proofs.ClauseTerms.{rule_held, rule_made}
use Rattle.shared_builtins.proofs.clauses.clause_term.Goals as goal

pub returns-in_ok-rule-clause-read : goal.returns-in_ok-rule-clause-read
returns-in_ok-rule-clause-read c m n =
    rule_made m n.stands c.args.store.now c.make_compound.new.self c.args.term c.args.parts c.args.goal c.in_ok-rule.rule c.if-parts.true c.in_ok-rule.ensures.made.means

pub returns-in_ok-rule-clause-held : goal.returns-in_ok-rule-clause-held
returns-in_ok-rule-clause-held c m n ht hh hg =
    rule_held m n.stands c.args.store.now c.make_compound.new.self c.args.parts.head c.args.goal c.in_ok-rule.rule c.in_ok-rule.ensures.made.means hh hg
