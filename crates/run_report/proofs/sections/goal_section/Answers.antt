use Rattle.std.proofs.Common.{◌++◌, [], Option, sym, ◌∙◌, ap, subst}
use Rattle.pl_term.specs.Tree.{Chars}
use Rattle.pl_model.specs.OperatorTable.{OperatorTable}
use Rattle.run_model.specs.Report.{goal_line, goal_text, output_of, with_output}
use Rattle.run_model.specs.declared.ends.GoalHow.{GoalHow}
use Rattle.pl_report.specs.Reported.{Tells}
use Rattle.pl_report.proofs.ReportLaws.{goal_reported}
use Rattle.run_report.proofs.SectionLaws.{tells_how}
use Rattle.run_report.proofs.sections.goal_section.Goals as goal

pub returns : goal.returns
returns c names x waited spelled =
    let k = c.args.part.now in
    let tells = subst (λ (h : Option GoalHow). Tells h k.end) (sym c.in_ok-how.ensures) (tells_how k.awaits k.end waited) in
    record {
      written = with_output names [] (output_of x);
      spelled = c.as_slice.ensures.value ∙ spelled;
      says =
          goal_reported c.in_ok-word.word c.is_enough-enough.result names x c.in_ok-how.how c.deref.result.now k.end tells (c.is_enough-enough.ensures k.end tells)
          ∙ ap (λ (w : Chars). goal_line w ++ goal_text c.deref.result.now names x k.end) c.in_ok-word.ensures
          ∙ ap (λ (o : OperatorTable). goal_line c.args.goal.now ++ goal_text o names x k.end) c.deref.ensures;
    }
