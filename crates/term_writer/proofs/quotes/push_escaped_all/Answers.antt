use Rattle.std.proofs.lemmas.Iterator.{YieldsList-from_chars}
use Rattle.std.proofs.lemmas.Iterator.Consumers.{YieldsList-end}
use Rattle.term_writer.proofs.Texts.{escapes_more, escapes_all}
use Rattle.term_writer.proofs.quotes.push_escaped_all.Goals as goal

pub loop-c-preserved : goal.loop-c-preserved
loop-c-preserved c =
    escapes_more _ _ _ c.loop-c.yielded c.in-Some.c c.loop-c.invariant c.in_ok-push_escaped.ensures.escapes

pub returns-clause-escapes : goal.returns-clause-escapes
returns-clause-escapes c =
    let t = YieldsList-end (YieldsList-from_chars c.as_str.result.now c.as_str.utf8 cc) c.loop-c.yielded _ c.loop-c.yielded_by _ _ c.in-None.is c.next.ensures.steps in
    escapes_all _ _ c.as_str.result.now c.args.f.now c.loop-c.yielded c.as_str.utf8 c.as_str.ensures t.0 c.loop-c.invariant
