use Rattle.std.proofs.Common.{◌≡◌, ◌++◌, take, ap, ◌∙◌}
use Rattle.std.specs.List.{flat_map}
use Rattle.std.proofs.lemmas.List.{take_all}
use Rattle.pl_report.specs.Pieces.{section_bytes}
use Rattle.pl_report.proofs.SectionLemmas.{all_sections, section_more}
use Rattle.pl_report.proofs.sections.transcript.Goals as goal

pub loop-section-preserved : goal.loop-section-preserved
loop-section-preserved c =
    c.in_ok-put_section.ensures
    ∙ ap (λ x. x ++ section_bytes c.section-item.result) c.loop-section.invariant
    ∙ section_more c.args.sections.now c.loop-section.section-index c.section-item.result c.loop-section-test.true c.section-item.is

pub returns : goal.returns
returns c texts written =
    let all : take c.loop-section.section-index c.args.sections.now ≡ c.args.sections.now = take_all _ _ c.loop-section-test.false in
    c.loop-section.invariant ∙ ap (flat_map section_bytes) all ∙ all_sections c.args.sections.now texts written
