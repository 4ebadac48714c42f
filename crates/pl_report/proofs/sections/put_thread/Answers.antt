use Rattle.std.proofs.Common.{sym, ◌∙◌}
use Rattle.pl_report.proofs.SectionLemmas.{silent_put, thread_put}
use Rattle.pl_report.proofs.sections.put_thread.Goals as goal

pub returns-then-is_silent : goal.returns-then-is_silent
returns-then-is_silent c =
    silent_put c.args.name.now c.args.section.now c.args.out.now.items (sym c.is_silent.ensures ∙ c.if-is_silent.true)

pub returns : goal.returns
returns c =
    thread_put c.args.name.now c.args.section.now (sym c.is_silent.ensures ∙ c.if-is_silent.false)
    c.in_ok-put_thread_head.ensures
    c.in_ok-put_closed.ensures
    c.in_ok-put_thread_last.ensures
