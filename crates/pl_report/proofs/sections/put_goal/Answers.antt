use Rattle.pl_report.proofs.SectionLemmas.{goal_put}
use Rattle.pl_report.proofs.sections.put_goal.Goals as goal

pub returns : goal.returns
returns c =
    goal_put c.args.word.now c.args.enough c.args.section.now c.in_ok-put_query.ensures
    c.in_ok-put_closed.ensures
    c.in_ok-put_goal_last.ensures
