use Rattle.std.proofs.Common.{[], false, Some, refl, ◌∙◌, ap}
use Rattle.pl_term.specs.Tree.{Chars}
use Rattle.run_model.specs.declared.ends.GoalHow.TheVariants.{Syntax}
use Rattle.pl_report.specs.declared.parts.SectionKind.TheVariants.{Goal}
use Rattle.pl_report.specs.Sections.{section_text}
use Rattle.pl_report.proofs.ReportLaws.{fault_reported}
use Rattle.run_report.proofs.sections.fault_section.Goals as goal

pub returns : goal.returns
returns c =
    let f = c.args.fault.now in
    record {
      written = [];
      spelled = refl;
      says =
          ap (λ (w : Chars). section_text (Goal w false) [] (Some (Syntax f.kind f.at)) c.args.ops.now) c.in_ok-word.ensures
          ∙ fault_reported c.args.goal.now f.kind f.at c.args.ops.now;
    }
