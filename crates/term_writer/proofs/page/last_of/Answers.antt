use Rattle.std.proofs.Common.{sym, ap, ◌∙◌}
use Rattle.std.proofs.lemmas.Iterator.{YieldsList-from_chars}
use Rattle.std.proofs.lemmas.Iterator.Consumers.{YieldsList-end}
use Rattle.pl_model.specs.Writing.{last_character}
use Rattle.term_writer.proofs.Texts.{same_items}
use Rattle.term_writer.proofs.Shown.{last_push}
use Rattle.term_writer.proofs.page.last_of.Goals as goal

pub loop-c-preserved : goal.loop-c-preserved
loop-c-preserved c = sym (last_push c.args.before c.loop-c.yielded c.in-Some.c)

pub returns : goal.returns
returns c =
    let t = YieldsList-end (YieldsList-from_chars c.args.text.now c.utf8.text cc) c.loop-c.yielded _ c.loop-c.yielded_by _ _ c.in-None.is c.next.ensures.steps in
    c.loop-c.invariant ∙ ap (last_character c.args.before) (sym (same_items c.loop-c.yielded) ∙ t.0)
