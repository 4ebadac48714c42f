use Rattle.std.proofs.Common.{codes, sym}
use Rattle.shared_builtins.proofs.ClauseTerms.{fact_read, rule_body_is, rule_head_is, rule_is}
use Rattle.shared_builtins.proofs.FixedNames.{neck_is}
use Rattle.shared_builtins.proofs.parts.parts_at.Goals as goal

pub returns-in-Some-clause-read : goal.returns-in-Some-clause-read
returns-in-Some-clause-read c m n held =
    let r = c.in-Some.ensures.read m (codes ":-") n held neck_is in
    record {
      head = sym (rule_head_is r.0);
      body = sym (rule_body_is r.0);
      rule = sym (rule_is r.0);
      head_held = r.1.0;
      body_held = r.1.1;
    }

pub returns-in-None-clause-read : goal.returns-in-None-clause-read
returns-in-None-clause-read c m n held =
    let s = c.args.store.now in
    fact_read m n.stands s c.args.term c.fact.result c.fact.ensures.head (c.fact.ensures.body s).1 c.fact.ensures.is_rule
    (c.in-None.ensures.read m (codes ":-") n held neck_is) held
