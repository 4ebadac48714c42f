use Rattle.std.proofs.Common.{[], false, Option, Some, refl, ◌∙◌, ap}
use Rattle.pl_term.specs.Tree.{Chars}
use Rattle.pl_model.specs.OperatorTable.{OperatorTable}
use Rattle.pl_model.specs.declared.ends.How.TheVariants.{Threw}
use Rattle.run_model.specs.declared.ends.GoalHow.{GoalHow}
use Rattle.run_model.specs.declared.ends.GoalHow.TheVariants.{Ended}
use Rattle.pl_report.specs.declared.parts.SectionKind.TheVariants.{Goal}
use Rattle.pl_report.specs.Sections.{section_text}
use Rattle.pl_report.proofs.ReportLaws.{refusal_reported}
use Rattle.pl_consult.specs.GoalWords.{refusal_of}
use Rattle.run_report.proofs.sections.refused_section.Goals as goal

pub returns : goal.returns
returns c =
    let r = c.args.refused.now in
    record {
      written = [];
      spelled = refl;
      says =
          ap (λ (h : Option GoalHow). section_text (Goal c.in_ok-word.word false) [] h c.deref.result.now) c.in_ok-how.ensures
          ∙ ap (λ (o : OperatorTable). section_text (Goal c.in_ok-word.word false) [] (Some (Ended (Threw r.ball))) o) c.deref.ensures
          ∙ ap (λ (w : Chars). section_text (Goal w false) [] (Some (Ended (Threw r.ball))) (refusal_of r).operators) c.in_ok-word.ensures
          ∙ refusal_reported c.args.goal.now (refusal_of r);
    }
