use Rattle.std.proofs.Common.{[], Option, sym, ◌∙◌, ap, subst}
use Rattle.pl_term.specs.Tree.{Chars}
use Rattle.run_model.specs.Report.{output_of, texts}
use Rattle.run_model.specs.declared.ends.GoalHow.{GoalHow}
use Rattle.pl_report.specs.Reported.{Tells}
use Rattle.pl_report.specs.declared.parts.SectionKind.TheVariants.{Thread}
use Rattle.pl_report.specs.Sections.{section_text}
use Rattle.pl_report.proofs.ReportLaws.{thread_reported}
use Rattle.run_report.proofs.SectionLaws.{tells_how}
use Rattle.run_report.proofs.ThreadLaws.{named_so}
use Rattle.run_report.proofs.threads.thread_section.Goals as goal

pub returns : goal.returns
returns c b x is waited spelled =
    let k = c.args.part.now in
    let t = texts [] (output_of x) in
    record {
      written = t;
      spelled = c.as_slice.ensures.value ∙ spelled;
      says =
          ap (λ (n : Chars). section_text (Thread n) t c.in_ok-how.how c.deref.result.now) (c.in_ok-name.ensures ∙ named_so b k.number k.alias is.0 is.1)
          ∙ thread_reported b x c.in_ok-how.how c.deref.result.now k.end
          (subst (λ (h : Option GoalHow). Tells h k.end) (sym c.in_ok-how.ensures) (tells_how k.awaits k.end waited));
    }
